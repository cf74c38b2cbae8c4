-- Demand 3 from the calls' own answers (document 00): an accepted layout, cut; accepted contexts; orders as an accepted order call wrote them.
use Rattle.std.specs.Prelude.{◌≡◌, ◌↔◌, List, ℕ}
use Rattle.std.proofs.Common.{ap}
use Rattle.refusal.specs.Answer.{gives}
use Rattle.lent_check.specs.Calls.{check_of}
use Rattle.lent_sides.specs.Limits.{Sided}
use Rattle.lent_sides.specs.laws.Limits.{limits_in}
use Rattle.lent_check.specs.laws.Theorems.{checked}
use Rattle.lent_check.specs.GroupSides.{group_sides}
use Rattle.lent_cut.proofs.laws.Theorems.{cut_checks}
use Rattle.layout_call.specs.Call.{layout_of}
use Rattle.layout_accepted.specs.Outcome.{bw_of, bh_of}
use Rattle.context_call.specs.laws.Accepted.{accepted_fit}
use Rattle.coeff_group.specs.Group.{PerChannel}
use Rattle.coeff_call.specs.Call.{Lent}
use Rattle.one_to_one.specs.Filling.{Fixed, Given, Filling, Fills, Fails, ReadToEnd, final_grids}
use Rattle.one_to_one.proofs.laws.Correspond.{from_sequence, from_grids}
use Rattle.one_to_one.proofs.laws.Demand3.{one_sequence, every_other}
use Rattle.coeff_walk.specs.Sent.{Words}
use Rattle.coeff_group.specs.Sequence.{the_sequence}

module _ (L : Lent) (given : Given L) where
  -- a group that an accepted cut call wrote is one that 18 lets pass, at most 32 blocks each way
  passes : check_of 32 L.pass_group.bw L.pass_group.bh L.pass_group.kinds L.pass_group.hf_mul ≡ gives tt
  passes =
      let l = layout_of given.inputs given.kinds given.hf_mul given.sigma in
      let c = cut_checks (bw_of given.inputs) (bh_of given.inputs) l.kinds l.hf_mul given.index given.out_kinds given.out_hf_mul
      (group_sides L.pass_group.bw L.pass_group.bh) (ap (λ o. o.answer) given.cutting) in
      rw given.cutting at c

  sides_in : Sided 32 L.pass_group.bw L.pass_group.bh
  sides_in = (checked 32 L.pass_group.bw L.pass_group.bh L.pass_group.kinds L.pass_group.hf_mul passes).0

  pub fixed_by_calls : Fixed L
  fixed_by_calls = record {
    sides = limits_in 32 L.pass_group.bw L.pass_group.bh sides_in;
    layout = (checked 32 L.pass_group.bw L.pass_group.bh L.pass_group.kinds L.pass_group.hf_mul passes).1;
    contexts = rw given.record_is (accepted_fit given.context_bytes given.are_bytes given.clusters given.context_map given.bits_read given.contexts);
    orders = given.wrote;
    rest = given.rest;
  }

  -- one sequence and only one, from the calls' answers
  pub one_sequence_by_calls : (W : PerChannel) → Filling L W → Words (the_sequence L.pass_group L.grids W) × ((s : List ℕ) → Words s → Fills L s W ↔ (s ≡ the_sequence L.pass_group L.grids W))
  one_sequence_by_calls W filling = one_sequence L fixed_by_calls W filling

  -- and every other sequence fails
  pub every_other_by_calls : (W : PerChannel) → Filling L W → (s : List ℕ) → Words s → Fails L s W ↔ (s ≡ the_sequence L.pass_group L.grids W → ⊥)
  every_other_by_calls W filling = every_other L fixed_by_calls W filling

  -- the correspondence, both ways
  pub from_sequence_by_calls : (s : List ℕ) → Words s → ReadToEnd L s → Filling L (final_grids L s) × (the_sequence L.pass_group L.grids (final_grids L s) ≡ s)
  from_sequence_by_calls = from_sequence L fixed_by_calls

  pub from_grids_by_calls : (W : PerChannel) → Filling L W
      → Words (the_sequence L.pass_group L.grids W) × ReadToEnd L (the_sequence L.pass_group L.grids W) × (final_grids L (the_sequence L.pass_group L.grids W) ≡ W)
  from_grids_by_calls = from_grids L fixed_by_calls
