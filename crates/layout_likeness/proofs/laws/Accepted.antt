-- Layouts that the layout call accepted: likeness refuses none of them, and each is like itself (document 02, No. 12).
use Rattle.std.specs.Prelude.{◌≡◌, Bool, true, List, ℕ, ◌<◌, T, length, get_or}
use Rattle.std.proofs.Common.{arith}
use Rattle.refusal.specs.Answer.{gives}
use Rattle.layout.proofs.laws.Grid.{cell_at}
use Rattle.layout_sizes.proofs.laws.Bounds.{bw_most, bh_most}
use Rattle.lent_lists.specs.Finite.{finite_pattern}
use Rattle.lent_likeness.specs.Calls.{like_of}
use Rattle.lent_likeness.specs.Theorems.{Sound}
use Rattle.lent_likeness.proofs.laws.Theorems.{like_itself, like_answers}
use Rattle.layout_call.specs.Call.{Inputs, layout_of}
use Rattle.layout_accepted.specs.Outcome.{bw_of, bh_of}
use Rattle.layout_accepted.proofs.laws.Theorems.{accepted_read, accepted_layout, accepted_covered}
use Rattle.layout_accepted.proofs.laws.Sigma.{accepted_sigmas, accepted_finite}
use Rattle.layout_likeness.specs.Left.{layout_left}

module _ (i : Inputs) (kinds hf_mul sigma : List ℕ) (n : ℕ) (e : (layout_of i kinds hf_mul sigma).answer ≡ gives n) where
  -- every sigma that is left is finite
  finite_left : (k : ℕ) → k < length (layout_of i kinds hf_mul sigma).sigma → T (finite_pattern (get_or (layout_of i kinds hf_mul sigma).sigma k 0))
  finite_left k h =
      let l = accepted_sigmas i kinds hf_mul sigma n e in
      let c = cell_at (bw_of i) (bh_of i) k (omega arith) in
      let o = accepted_covered i kinds hf_mul sigma n e c.x c.y c.in_x c.in_y in
      let f = accepted_finite i kinds hf_mul sigma n e o.ox o.oy c.x c.y c.in_x c.in_y o.covers in
      rw (c.place, f.2) f.0

  pub accepted_sound : Sound (layout_left i kinds hf_mul sigma)
  accepted_sound =
      let s = (accepted_read i kinds hf_mul sigma n e).sizes in
      record {
        sides = record {
          bw_to = bw_most i.width i.height s i.modes;
          bh_to = bh_most i.width i.height s i.modes;
        };
        layout = accepted_layout i kinds hf_mul sigma n e;
        sigma_length = accepted_sigmas i kinds hf_mul sigma n e;
        finite = finite_left;
      }

  pub accepted_like : like_of (layout_left i kinds hf_mul sigma) (layout_left i kinds hf_mul sigma) ≡ gives true
  accepted_like = like_itself (layout_left i kinds hf_mul sigma) accepted_sound

-- of two accepted layouts likeness says yes or no
pub accepted_answered : (i j : Inputs) (kinds hf_mul sigma kinds' hf_mul' sigma' : List ℕ) (n m : ℕ)
    → (layout_of i kinds hf_mul sigma).answer ≡ gives n → (layout_of j kinds' hf_mul' sigma').answer ≡ gives m
    → (r : Bool) × (like_of (layout_left i kinds hf_mul sigma) (layout_left j kinds' hf_mul' sigma') ≡ gives r)
accepted_answered i j kinds hf_mul sigma kinds' hf_mul' sigma' n m e f =
    like_answers (layout_left i kinds hf_mul sigma) (layout_left j kinds' hf_mul' sigma') (accepted_sound i kinds hf_mul sigma n e) (accepted_sound j kinds' hf_mul' sigma' m f)
