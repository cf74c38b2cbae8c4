-- The grid of blocks: within the limits it has at most 256 blocks each way, and none exactly along a side of no pixels.
use Rattle.std.specs.Prelude.{◌≡◌, ◌↔◌, List, ℕ}
use Rattle.layout_sizes.specs.declared.Blocks.{Blocks}
use Rattle.layout_sizes.specs.Blocks.{bw_in, bh_in}

abbrev pub blocks_of : ℕ → ℕ → List ℕ → Blocks
blocks_of width height modes = record { bw = bw_in width modes; bh = bh_in height modes }

abbrev pub NoBw : Type 0
NoBw = (width : ℕ) (modes : List ℕ) → (bw_in width modes ≡ 0) ↔ (width ≡ 0)
