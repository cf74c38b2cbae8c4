-- Laws: The premises of demand 3 can be met together: one Dct8 block, as the layout, cut, context and order calls hand it on, starting grids of
-- zeros; and the symbols of a filling of its cells.
use Rattle.std.specs.Prelude.{◌≡◌, refl, true, List, [], ◌∷◌, ℕ, ◌*◌, length, take, replicate}
use Rattle.std.proofs.Common.{ap, sym, subst, ◌∙◌, arith, eq-eqb}
use Rattle.bits.specs.Bits.{Value}
use Rattle.layout_call.specs.Call.{inputs, layout_of}
use Rattle.order_store.specs.Store.{PLACES}
use Rattle.context_call.specs.Call.{contexts_of}
use Rattle.refusal.specs.Said.{said_at}
use Rattle.refusal.specs.Answer.{Answer, gives, refuses}
use Rattle.coeff_group.specs.Group.{Reading, going, read_items, zero_rows}
use Rattle.coeff_group.proofs.laws.GroupLaws.{group_items_lem}
use Rattle.coeff_walk.specs.Sent.{non_zeros, sent}
use Rattle.coeff_walk.specs.UsedUp.{MoreDue, StoppedAmong}
use Rattle.coeff_group.specs.PassGroup.{varblocks, item_of, group_items}
use Rattle.layout.specs.Varblocks.{varblock}
use Rattle.coeff_call.specs.Call.{Lent, Outcome, all_lengths_fit, preset_bits, preset_map, reading, outcome_of, call}
use Rattle.lent_check.specs.GroupSides.{group_sides}
use Rattle.lent_cut.specs.Calls.{outcome, cut_of}
use Rattle.lent_cut.proofs.laws.CutSteps.{cut_done_lem}
use Rattle.layout_accepted.specs.Outcome.{bw_of, bh_of}
use Rattle.layout_accepted.specs.laws.Marked.{layout_computes}
use Rattle.one_to_one.specs.Filling.{wanted as wanted_of, with_symbols, StoppedAt, Fixed, Filling, Fills, Given}
use Rattle.one_to_one.proofs.laws.Demand3.{one_sequence}
use Rattle.one_to_one.proofs.laws.Wanted.{wanted_filling}
use Rattle.one_to_one.proofs.laws.Chain.{fixed_by_calls}
use Rattle.one_to_one.specs.laws.Computes.{cut_computes, bits_compute, items_compute, reading_computes, sequence_computes, wanted_computes}
use Rattle.one_to_one.proofs.laws.Computes.{below, cells_below}
use Rattle.one_to_one.specs.Plain.{store}
use Rattle.one_to_one.proofs.laws.Plain.{store_long, order_0, store_wrote, defaults_read}
use Rattle.one_to_one.specs.Witness.{one, wanted, zeros, remaining, thirty_three, two_at_the_last}
use Rattle.one_to_one.proofs.laws.OverCall.{group_read}
use Rattle.one_to_one.proofs.laws.CountsUsed.{at_channel}
use Rattle.coeff_group.specs.Sequence.{in_cell, the_sequence}
use Rattle.one_to_one.specs.laws.Witness.{columns, TwoNot17, RemainingRefused}

layout_accepted : layout_of columns (0 ∷ []) (0 ∷ []) (0 ∷ []) ≡ record { answer = gives 1; kinds = 2 ∷ []; hf_mul = 1 ∷ []; sigma = 0 ∷ [] }
unfolding layout_computes
layout_accepted = refl

lengths_fit_lem : all_lengths_fit one ≡ true
unfolding contexts_of
lengths_fit_lem = rw (eq-eqb (length store) (2 * PLACES) store_long)

-- the cut call writes the one group there is
cut_accepted : cut_of (bw_of columns) (bh_of columns) (2 ∷ []) (1 ∷ []) 0 (0 ∷ []) (0 ∷ []) ≡ outcome (gives (group_sides 1 1)) (2 ∷ []) (1 ∷ [])
unfolding cut_computes
cut_accepted = cut_done_lem (bw_of columns) (bh_of columns) (2 ∷ []) (1 ∷ []) 0 (0 ∷ []) (0 ∷ []) refl

pub no_bits : preset_bits one ≡ Value 0 0
unfolding bits_compute
no_bits = refl

-- what the calls gave
pub given : Given one
given = record {
  inputs = columns;
  kinds = 0 ∷ [];
  hf_mul = 0 ∷ [];
  sigma = 0 ∷ [];
  used = 1;
  layout = ap (λ o. o.answer) layout_accepted;
  index = 0;
  out_kinds = 0 ∷ [];
  out_hf_mul = 0 ∷ [];
  cutting = ap (λ o. cut_of (bw_of columns) (bh_of columns) o.kinds o.hf_mul 0 (0 ∷ []) (0 ∷ [])) layout_accepted ∙ cut_accepted;
  context_bytes = 1 ∷ [];
  are_bytes = below 256 (omega arith) (1 ∷ []) tt;
  clusters = 0;
  context_map = [];
  bits_read = 1;
  contexts = ap (λ r. r.answer) defaults_read;
  record_is = sym (ap (λ r. r.contexts) defaults_read);
  wrote = store_wrote;
  rest = record {
    few = omega arith;
    preset = 0;
    bits_read = 0;
    read_whole = no_bits;
    below = omega arith;
    lengths = lengths_fit_lem;
    three = refl;
    words = cells_below zeros tt;
    shift = refl;
  };
}

-- all premises of demand 3
pub fixed : Fixed one
fixed = fixed_by_calls one given

-- the filling is the one wanted of it: neither cell is low-frequency
wanted_is : wanted_of one (in_cell wanted) ≡ wanted
unfolding wanted_computes
wanted_is = refl

pub filling : Filling one wanted
filling = subst (Filling one) wanted_is (wanted_filling one fixed (in_cell wanted) (cells_below wanted tt))

-- its symbols: 2 cells change in channel 1, none in channels 0 and 2
pub sequence_is : the_sequence one.pass_group one.grids wanted ≡ 2 ∷ 3 ∷ 0 ∷ 4 ∷ 0 ∷ 0 ∷ []
unfolding sequence_computes
sequence_is = rw (order_0 0 (omega arith), order_0 1 (omega arith), order_0 2 (omega arith))

pub filled : Fills one (2 ∷ 3 ∷ 0 ∷ 4 ∷ 0 ∷ 0 ∷ []) wanted
filled = let o = one_sequence one fixed wanted filling in (o.1 (2 ∷ 3 ∷ 0 ∷ 4 ∷ 0 ∷ 0 ∷ []) (rw sequence_is at o.0)).1 (sym sequence_is)

-- Symbols that are refused while they are read.
module _ (symbols : List ℕ) where
  abbrev L : Lent
  L = with_symbols one symbols

  -- reading the group's items, whatever the preset's part
  abbrev end : List ℕ → Reading
  end preset_map = read_items 0 15 preset_map (group_items one.pass_group) (going symbols 0 one.log one.grids zero_rows)

  by_items : reading L 0 ≡ end (preset_map L 0)
  unfolding reading contexts_of
  by_items = group_items_lem 0 15 (preset_map L 0) one.pass_group (varblocks one.pass_group) (going symbols 0 one.log one.grids zero_rows)

  answer_by : (a : Answer ℕ) → ((preset_map : List ℕ) → (outcome_of (end preset_map)).answer ≡ a) → (call (with_symbols one symbols)).answer ≡ a
  answer_by a h =
      let e : Value fixed.rest.preset fixed.rest.bits_read ≡ Value 0 0 = sym fixed.rest.read_whole ∙ no_bits in
      let z : fixed.rest.preset ≡ 0 = cc in
      ap (λ (o : Outcome). o.answer) (group_read one fixed symbols) ∙ ap (λ (n : ℕ). (outcome_of (reading L n)).answer) z ∙ ap (λ (r : Reading). (outcome_of r).answer) by_items ∙ h (preset_map L 0)

-- 24 behind the last place's symbol
pub remaining_refused : RemainingRefused
remaining_refused = answer_by remaining _ (λ p. unfold reading_computes in rw (order_0 1 (omega arith)))

-- 17 behind 31 zeros, where 33 are due at 32 places (document 01, Refused)
pub zeros_refused : (call (with_symbols one thirty_three)).answer ≡ refuses (said_at 17 32 0)
zeros_refused = answer_by thirty_three _ (λ p. unfold reading_computes in rw (order_0 1 (omega arith)))

-- The converse of `more_due` fails: behind 62 zeros two are due at the one place that remains, and 17 is not told; that place's symbol is read, and then
-- 24 is told.
two_among : StoppedAmong MoreDue (group_items one.pass_group) (take 63 two_at_the_last)
unfolding items_compute non_zeros sent
two_among = record {
  before = [];
  it = item_of one.pass_group (varblock 0 0 0 1) 0 1;
  behind = item_of one.pass_group (varblock 0 0 0 1) 1 0 ∷ item_of one.pass_group (varblock 0 0 0 1) 2 2 ∷ [];
  parts = refl;
  earlier = [];
  last = 2 ∷ replicate 62 0;
  used = record { dss = []; long = tt; are = refl };
  holds = record { count = 2; most = omega arith; ds = replicate 62 0; due = 2; still = refl; places_left = 1; places = rw (order_0 1 (omega arith)); some = omega arith; more = omega arith; are = refl };
  are = refl;
}

pub two_due : StoppedAt MoreDue one.pass_group (take 63 two_at_the_last)
two_due = at_channel one (take 63 two_at_the_last) two_among

pub two_not_17 : TwoNot17
two_not_17 = answer_by two_at_the_last _ (λ p. unfold reading_computes in rw (order_0 1 (omega arith)))
