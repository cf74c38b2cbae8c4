-- What the cut promises (document 01, Layout, "Added by us").
use Rattle.std.proofs.Math.Path.{◌≡◌}
use Rattle.std.specs.Prelude.{List, ℕ, ◌≤◌}
use Rattle.refusal.specs.Said.{said_at}
use Rattle.layout.specs.Empty.{Empty}
use Rattle.lent_check.specs.declared.GroupSides.{GroupSides}
use Rattle.refusal.specs.Answer.{gives, refuses}
use Rattle.lent_cut.specs.Calls.{outcome, cut_of}

-- The cut.
module _ (bw bh : ℕ) (kinds hf_mul : List ℕ) (g : ℕ) (out_kinds out_hf_mul : List ℕ) where
  -- and has a block at least, so that no cut hands back a group without blocks (document 02, No. 2)
  abbrev pub CutSome : Type 0
  CutSome = (r : GroupSides) → (cut_of bw bh kinds hf_mul g out_kinds out_hf_mul).answer ≡ gives r → (1 ≤ r.bw) × (1 ≤ r.bh)

  -- every index of a layout without blocks is refused with 2, whatever else is lent, and nothing is written (document 02, No. 2)
  abbrev pub CutEmpty : Type 0
  CutEmpty = Empty bw bh → cut_of bw bh kinds hf_mul g out_kinds out_hf_mul ≡ outcome (refuses (said_at 2 0 0)) out_kinds out_hf_mul
