-- The layout call as a whole: what an accepted one has written.
use Rattle.std.proofs.Math.Path.{◌≡◌, refl, ap, sym}
use Rattle.std.proofs.Common.{◌∙◌, arith}
use Rattle.std.specs.Prelude.{true, false, List, ℕ, ◌<◌}
use Rattle.refusal.specs.Said as refusals
use Rattle.refusal.specs.Answer.{Answer, gives, refuses, answered_by}
use Rattle.refusal.specs.laws.Answer.{pass}
use Rattle.layout_sizes.specs.Blocks.{size_fits}
use Rattle.layout.specs.Grid.{block_at}
use Rattle.layout.specs.Valid.{Covers, Owned, Layout}
use Rattle.layout.proofs.laws.Theorems.{disjoint, covered, layout_area}
use Rattle.lent_cut.proofs.laws.Theorems.{cut_not_18}
use Rattle.layout_placing.specs.Reading.{Placed, Placing, Going, Stopped, reading}
use Rattle.layout_call.specs.Call.{Outcome, outcome_of, Inputs, job_of, parameters_fit, all_lengths_fit, before_work, refuse, layout_of}
use Rattle.layout_accepted.proofs.laws.Accepted.{read_layout}
use Rattle.layout_accepted.specs.Outcome.{bh_of, bw_of}
use Rattle.layout_accepted.specs.laws.Theorems.{AcceptedArea, AcceptedCut}

module _ (i : Inputs) (kinds hf_mul sigma : List ℕ) where
  -- accepted: refused neither before work nor by the reading
  pub record Read (n : ℕ) : Type 0 where
    pub sizes : size_fits i.width i.height ≡ true
    pub parameters : parameters_fit i ≡ true
    pub lengths : all_lengths_fit i kinds hf_mul sigma ≡ true
    pub last : Placed
    pub read : reading (job_of i) ≡ Going last
    pub used : last.used ≡ n
    pub kinds_are : (layout_of i kinds hf_mul sigma).kinds ≡ last.kinds
    pub hf_mul_are : (layout_of i kinds hf_mul sigma).hf_mul ≡ last.hf_mul
    pub sigma_are : (layout_of i kinds hf_mul sigma).sigma ≡ last.sigma

  by_reading : (n : ℕ) (r : Placing) → reading (job_of i) ≡ r → (outcome_of (job_of i) r).answer ≡ gives n
      → (p : Placed) × (r ≡ Going p) × (p.used ≡ n)
  by_reading n (Stopped m s) e f = absurd (let z : ◌≡◌ {A = ℕ} 0 1 = cc in omega arith)
  by_reading n (Going p) e f = (p, refl, cc)

  -- each way through the tests before work
  pub off_size : size_fits i.width i.height ≡ false → refuse i kinds hf_mul sigma (refusals.said_at 2 0 0) ≡ layout_of i kinds hf_mul sigma
  unfolding layout_of
  off_size a = rw a

  pub off_parameters : size_fits i.width i.height ≡ true → parameters_fit i ≡ false → refuse i kinds hf_mul sigma (refusals.said_at 11 0 0) ≡ layout_of i kinds hf_mul sigma
  unfolding layout_of
  off_parameters a b = rw (a, b)

  pub off_lengths : size_fits i.width i.height ≡ true → parameters_fit i ≡ true → all_lengths_fit i kinds hf_mul sigma ≡ false → refuse i kinds hf_mul sigma (refusals.said_at 1 0 0) ≡ layout_of i kinds hf_mul sigma
  unfolding layout_of
  off_lengths a b c = rw (a, b, c)

  pub works : size_fits i.width i.height ≡ true → parameters_fit i ≡ true → all_lengths_fit i kinds hf_mul sigma ≡ true → outcome_of (job_of i) (reading (job_of i)) ≡ layout_of i kinds hf_mul sigma
  unfolding layout_of
  works a b c = rw (a, b, c)

  pub accepted_read : (n : ℕ) → (layout_of i kinds hf_mul sigma).answer ≡ gives n → Read n
  unfolding layout_of
  accepted_read n e = go (before_work i kinds hf_mul sigma) refl e
    where
      go : (a : Answer Unit) → before_work i kinds hf_mul sigma ≡ a → (answered_by a (refuse i kinds hf_mul sigma) (λ (u : Unit). outcome_of (job_of i) (reading (job_of i)))).answer ≡ gives n → Read n
      go (refuses s) a f = absurd (let z : ◌≡◌ {A = ℕ} 0 1 = cc in omega arith)
      go (gives u) a f =
          let p = pass 2 (size_fits i.width i.height) _ u a in
          let q = pass 11 (parameters_fit i) _ u p.1 in
          let r = pass 1 (all_lengths_fit i kinds hf_mul sigma) _ u q.1 in
          let w = by_reading n (reading (job_of i)) refl f in
          let g = sym (works p.0 q.0 r.0) ∙ ap (outcome_of (job_of i)) w.1 in
          record {
            sizes = p.0;
            parameters = q.0;
            lengths = r.0;
            last = w.0;
            read = w.1;
            used = w.2;
            kinds_are = ap (λ (o : Outcome). o.kinds) g;
            hf_mul_are = ap (λ (o : Outcome). o.hf_mul) g;
            sigma_are = ap (λ (o : Outcome). o.sigma) g;
          }

  module _ (n : ℕ) (e : (layout_of i kinds hf_mul sigma).answer ≡ gives n) where
    -- what an accepted call wrote is a layout
    pub accepted_layout : Layout (bw_of i) (bh_of i) (layout_of i kinds hf_mul sigma).kinds (layout_of i kinds hf_mul sigma).hf_mul
    accepted_layout =
        let r = accepted_read n e in
        rw (r.kinds_are, r.hf_mul_are) (read_layout (job_of i) r.last r.read)

    -- the cut never refuses it with 18, at whatever position
    pub accepted_cut : AcceptedCut i kinds hf_mul sigma n e
    accepted_cut g out_kinds out_muls = cut_not_18 (bw_of i) (bh_of i) (layout_of i kinds hf_mul sigma).kinds (layout_of i kinds hf_mul sigma).hf_mul g out_kinds out_muls accepted_layout

    -- each block is in just one varblock, which lies inside the grid and a square of 32 x 32 blocks (`Fits` of accepted-layout)
    pub accepted_covered : (x y : ℕ) → x < bw_of i → y < bh_of i → Owned (block_at (layout_of i kinds hf_mul sigma).kinds (bw_of i)) x y
    accepted_covered = covered (bw_of i) (bh_of i) (layout_of i kinds hf_mul sigma).kinds (layout_of i kinds hf_mul sigma).hf_mul accepted_layout

    -- varblocks are disjoint
    pub accepted_disjoint : (a b c d x y : ℕ) → x < bw_of i → y < bh_of i
        → Covers (block_at (layout_of i kinds hf_mul sigma).kinds (bw_of i)) a b x y → Covers (block_at (layout_of i kinds hf_mul sigma).kinds (bw_of i)) c d x y → (a ≡ c) × (b ≡ d)
    accepted_disjoint = disjoint (bw_of i) (bh_of i) (layout_of i kinds hf_mul sigma).kinds (layout_of i kinds hf_mul sigma).hf_mul accepted_layout

    -- their areas sum to the grid's blocks
    pub accepted_area : AcceptedArea i kinds hf_mul sigma n e
    accepted_area = layout_area (bw_of i) (bh_of i) (layout_of i kinds hf_mul sigma).kinds (layout_of i kinds hf_mul sigma).hf_mul accepted_layout
