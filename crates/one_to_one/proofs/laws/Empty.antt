-- A group without blocks (document 02, No. 2): its call reads the preset and no symbol, its sequence is the empty one, and no cut call wrote it.
use Rattle.std.specs.Prelude.{◌≡◌, true, ◌↔◌, ℕ, ◌*◌, length}
use Rattle.std.proofs.Math.Path.{refl, ap}
use Rattle.std.proofs.Common.{sym, ◌∙◌, inl, arith, eq-eqb}
use mathlib.Core.List.{List, []}
use Rattle.refusal.specs.Said.{said_at}
use Rattle.refusal.specs.Answer.{Answer, gives, refuses, answered_by, passed}
use Rattle.layout.specs.Empty.{Empty}
use Rattle.layout.proofs.laws.Empty.{no_varblocks, no_cell, empty_layout}
use Rattle.layout_call.specs.Call.{layout_of}
use Rattle.layout_accepted.specs.Outcome.{bw_of, bh_of}
use Rattle.lent_sides.specs.Limits.{in_limits}
use Rattle.lent_check.specs.GroupSides.{group_sides}
use Rattle.lent_cut.proofs.laws.Theorems.{cut_some}
use Rattle.order_store.specs.Store.{PLACES}
use Rattle.context_call.specs.Call.{contexts_of}
use Rattle.coeff_group.specs.Group.{PerChannel, going, read_group, zero_rows}
use Rattle.coeff_group.specs.PassGroup.{varblocks, items_of}
use Rattle.coeff_group.specs.Sequence.{the_sequence}
use Rattle.coeff_walk.specs.Sent.{Words, sent}
use Rattle.coeff_preset.specs.Preset.{preset_of}
use Rattle.layout.proofs.laws.Theorems.{layout_check}
use Rattle.coeff_checks.specs.Checks.{parameters_fit}
use Rattle.coeff_call.specs.laws.CallLaws.{checks_pass, call_bits, call_preset}
use Rattle.coeff_call.specs.Call.{Lent, all_lengths_fit, before_work, preset_bits, reading, outcome_of, refuse, call}
use Rattle.one_to_one.specs.Filling.{Fixed, Filling, Fills, Given, untouched}
use Rattle.one_to_one.specs.Plain.{store}
use Rattle.one_to_one.specs.Witness.{strip_of, strip_group}
use Rattle.one_to_one.proofs.laws.Demand3.{one_sequence}
use Rattle.one_to_one.proofs.laws.OverCall.{start_sized}
use Rattle.one_to_one.specs.laws.Computes.{bits_compute}
use Rattle.one_to_one.proofs.laws.Computes.{cells_below}
use Rattle.one_to_one.proofs.laws.Plain.{store_long, store_fits, store_wrote}
use Rattle.one_to_one.proofs.laws.Witness.{fixed}
use Rattle.one_to_one.specs.laws.Empty.{StripNoPreset, EmptyCall, EmptySequence}

module _ (L : Lent) (e : Empty L.pass_group.bw L.pass_group.bh) where
  none : varblocks L.pass_group ≡ []
  none = no_varblocks L.pass_group.bw L.pass_group.bh L.pass_group.kinds L.pass_group.hf_mul e

  pub empty_reading : (preset : ℕ) → reading L preset ≡ going L.symbols 0 L.log L.grids zero_rows
  unfolding reading read_group
  empty_reading preset = rw none

  -- the checks before work and the preset decide alone, whatever the symbols
  pub empty_call : EmptyCall L e
  unfolding call
  empty_call = go (before_work L) (preset_of L.presets (preset_bits L))
    where
      go : (a : Answer Unit) (b : Answer ℕ)
          → answered_by a (refuse L) (λ (u : Unit). answered_by b (refuse L) (λ (preset : ℕ). outcome_of (reading L preset)))
          ≡ answered_by a (refuse L) (λ (u : Unit). answered_by b (refuse L) (λ (preset : ℕ). untouched L))
      go (refuses s) b = refl
      go (gives u) (refuses s) = refl
      go (gives u) (gives preset) = ap outcome_of (empty_reading preset)

  -- demand 3: the sequence is empty, and no other fills the group's grids
  pub empty_sequence : EmptySequence L e
  unfolding the_sequence items_of sent
  empty_sequence W = rw none

  pub one_empty : Fixed L → (W : PerChannel) → Filling L W → (s : List ℕ) → Words s → Fills L s W ↔ (s ≡ [])
  one_empty fixed W filling s h =
      let o = (one_sequence L fixed W filling).1 s h in
      let z = empty_sequence W in
      ((λ f. o.0 f ∙ z), (λ n. o.1 (n ∙ sym z)))

-- an accepted cut call wrote a group that has a block
pub cut_not_empty : (L : Lent) → Given L → Empty L.pass_group.bw L.pass_group.bh → ⊥
cut_not_empty L given e =
    let l = layout_of given.inputs given.kinds given.hf_mul given.sigma in
    let s = cut_some (bw_of given.inputs) (bh_of given.inputs) l.kinds l.hf_mul given.index given.out_kinds given.out_hf_mul
    (group_sides L.pass_group.bw L.pass_group.bh) (ap (λ o. o.answer) given.cutting) in
    no_cell L.pass_group.bw L.pass_group.bh 0 0 e s.0 s.1

-- The premises can be met by a group without blocks: those of `Fixed`, and so the theorems that ask for them.
lengths_fit_lem : all_lengths_fit strip_group ≡ true
unfolding contexts_of
lengths_fit_lem = rw (eq-eqb (length store) (2 * PLACES) store_long)

pub strip_fixed : Fixed strip_group
unfolding bits_compute in_limits
strip_fixed = record {
  sides = refl;
  layout = empty_layout 0 2 (inl refl);
  contexts = fixed.contexts;
  orders = store_wrote;
  rest = record {
    few = omega arith;
    preset = 0;
    bits_read = 0;
    read_whole = refl;
    below = omega arith;
    lengths = lengths_fit_lem;
    three = refl;
    words = cells_below strip_group.grids tt;
    shift = refl;
  };
}

-- no symbols fill it, as it is
strip_filling : Filling strip_group strip_group.grids
strip_filling = record { sized = start_sized strip_group strip_fixed; words = strip_fixed.rest.words; low = λ c p h l. refl }

pub strip_filled : (s : List ℕ) → Words s → Fills strip_group s strip_group.grids ↔ (s ≡ [])
strip_filled = one_empty strip_group (inl refl) strip_fixed strip_group.grids strip_filling

-- Its preset is judged: of two presets with no bytes it is 3, of none 14, and nothing is written.
module _ (presets : ℕ) (few : parameters_fit 0 presets ≡ true) (lengths : all_lengths_fit (strip_of presets) ≡ true) where
  strip_passes : before_work (strip_of presets) ≡ passed
  unfolding in_limits
  strip_passes = checks_pass (strip_of presets) (record {
    sides = refl;
    parameters = few;
    contexts = fixed.contexts;
    lengths = lengths;
    layout = layout_check 0 2 [] [] (empty_layout 0 2 (inl refl));
    places = store_fits;
  })

pub strip_bits_end : call (strip_of 2) ≡ refuse (strip_of 2) (said_at 3 0 0)
unfolding bits_compute contexts_of
strip_bits_end = call_bits (strip_of 2) (strip_passes 2 refl (rw (eq-eqb (length store) (2 * PLACES) store_long))) 0 refl

pub strip_no_preset : StripNoPreset
unfolding bits_compute contexts_of
strip_no_preset = call_preset (strip_of 0) (strip_passes 0 refl (rw (eq-eqb (length store) (2 * PLACES) store_long))) 0 0 refl (omega arith)
