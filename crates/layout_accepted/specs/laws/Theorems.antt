-- The layout call as a whole: what an accepted one has written.
use Rattle.std.proofs.Math.Path.{◌≡◌}
use Rattle.std.specs.Prelude.{List, ℕ, ◌*◌}
use Rattle.refusal.specs.declared.Said.{Said}
use Rattle.refusal.specs.Answer.{gives, refuses}
use Rattle.layout.specs.Varblocks.{varblocks_of, area}
use Rattle.lent_cut.specs.Calls.{cut_of}
use Rattle.layout_call.specs.Call.{Inputs, layout_of}
use Rattle.layout_accepted.specs.Outcome.{bh_of, bw_of}

module _ (i : Inputs) (kinds hf_mul sigma : List ℕ) where
  module _ (n : ℕ) (e : (layout_of i kinds hf_mul sigma).answer ≡ gives n) where
    -- the cut never refuses it with 18, at whatever position
    abbrev pub AcceptedCut : Type 0
    AcceptedCut =
        (g : ℕ) (out_kinds out_muls : List ℕ) (why : Said)
        → (cut_of (bw_of i) (bh_of i) (layout_of i kinds hf_mul sigma).kinds (layout_of i kinds hf_mul sigma).hf_mul g out_kinds out_muls).answer ≡ refuses why → why.number ≡ 18 → ⊥

    -- their areas sum to the grid's blocks
    abbrev pub AcceptedArea : Type 0
    AcceptedArea = area (varblocks_of (bw_of i) (bh_of i) (layout_of i kinds hf_mul sigma).kinds (layout_of i kinds hf_mul sigma).hf_mul) ≡ bw_of i * bh_of i
