-- A strip without blocks: of its call everything before work is judged; then it is accepted, no columns are used, nothing is written, there are
-- no varblocks and the area is 0 (document 02, No. 2).
use Rattle.std.specs.Prelude.{◌≡◌, true, List, [], ℕ, ◌*◌, length}
use Rattle.std.proofs.Math.Path.{refl}
use Rattle.std.proofs.Common.{◌∙◌}
use Rattle.laws.specs.laws.Lists.{no_elements}
use Rattle.refusal.specs.Answer.{Answer, gives, refuses, answered_by}
use Rattle.refusal.specs.laws.Answer.{pass}
use Rattle.layout.specs.Empty.{Empty}
use Rattle.layout.specs.Varblocks.{area}
use Rattle.layout.proofs.laws.Empty.{no_steps, no_blocks, no_varblocks, no_area}
use Rattle.layout_sizes.specs.Blocks.{size_fits}
use Rattle.layout_sizes.proofs.laws.Bounds.{without_pixels}
use Rattle.layout_sizes.proofs.laws.Counts.{counts}
use Rattle.layout_placing.specs.Reading.{Job, Going, visit, start, reading}
use Rattle.layout_placing.specs.Outcome.{outcome}
use Rattle.layout_call.specs.Call.{outcome_of, Inputs, job_of, parameters_fit, all_lengths_fit, before_work, refuse, layout_of}
use Rattle.layout_accepted.specs.Outcome.{bw_of, bh_of, varblocks_left}
use Rattle.layout_accepted.specs.laws.Empty.{EmptyCall}

-- the reading takes no column, whatever the columns are
pub empty_reading : (J : Job) → Empty J.bw J.bh → reading J ≡ Going (start J)
unfolding reading
empty_reading J e = no_steps (visit J) J.bw J.bh (Going (start J)) e

module _ (i : Inputs) (kinds hf_mul sigma : List ℕ) (e : Empty i.width i.height) where
  grid : Empty (bw_of i) (bh_of i)
  grid = (without_pixels i.width i.height i.modes).1 e

  nothing_written : all_lengths_fit i kinds hf_mul sigma ≡ true → outcome_of (job_of i) (reading (job_of i)) ≡ outcome (gives 0) kinds hf_mul sigma
  nothing_written l =
      let z = no_blocks (bw_of i) (bh_of i) grid in
      let c = counts (length i.types) (length i.muls) (length i.sharpness) (length kinds) (length hf_mul) (length sigma) (bh_of i * bw_of i) l in
      rw (empty_reading (job_of i) grid, z, no_elements kinds (c.kinds_are ∙ z), no_elements hf_mul (c.hf_mul_are ∙ z), no_elements sigma (c.sigma_are ∙ z))

  -- the checks before work decide alone: what they let pass is accepted with no columns used, and all that is lent stays as it was
  pub empty_call : EmptyCall i kinds hf_mul sigma e
  unfolding layout_of
  empty_call = go (before_work i kinds hf_mul sigma) refl
    where
      go : (a : Answer Unit) → before_work i kinds hf_mul sigma ≡ a
          → answered_by a (refuse i kinds hf_mul sigma) (λ (u : Unit). outcome_of (job_of i) (reading (job_of i)))
          ≡ answered_by a (refuse i kinds hf_mul sigma) (λ (u : Unit). outcome (gives 0) kinds hf_mul sigma)
      go (refuses s) a = refl
      go (gives u) a =
          let p = pass 2 (size_fits i.width i.height) _ u a in
          let q = pass 11 (parameters_fit i) _ u p.1 in
          let r = pass 1 (all_lengths_fit i kinds hf_mul sigma) _ u q.1 in
          nothing_written r.0

  pub empty_varblocks : varblocks_left i kinds hf_mul sigma ≡ []
  empty_varblocks = no_varblocks (bw_of i) (bh_of i) (layout_of i kinds hf_mul sigma).kinds (layout_of i kinds hf_mul sigma).hf_mul grid

  pub empty_area : area (varblocks_left i kinds hf_mul sigma) ≡ 0
  empty_area = no_area (bw_of i) (bh_of i) (layout_of i kinds hf_mul sigma).kinds (layout_of i kinds hf_mul sigma).hf_mul grid
