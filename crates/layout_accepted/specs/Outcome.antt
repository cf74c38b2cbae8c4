-- What is said of a layout call (document 01, Layout and filter strength): its grid, its varblocks and filter strengths, and the same call with
-- other columns or sharpness numbers.
use Rattle.std.specs.Prelude.{List, ℕ, Float}
use Rattle.layout.specs.Grid.{block_at}
use Rattle.layout.specs.Varblocks.{Varblock, varblocks_of}
use Rattle.layout_sizes.specs.Blocks.{bw_in, bh_in}
use Rattle.layout_filter.specs.Strength.{sigma_of}
use Rattle.layout_call.specs.Call.{Inputs, inputs, layout_of}

-- the grid's sides
abbrev pub bw_of : Inputs → ℕ
bw_of i = bw_in i.width i.modes

abbrev pub bh_of : Inputs → ℕ
bh_of i = bh_in i.height i.modes

abbrev pub with_columns : Inputs → List ℕ → List ℕ → Inputs
with_columns i types muls = inputs i.width i.height i.modes types muls i.sharpness i.filter i.lookups i.scale

abbrev pub with_sharpness : Inputs → List ℕ → Inputs
with_sharpness i sharpness = inputs i.width i.height i.modes i.types i.muls sharpness i.filter i.lookups i.scale

module _ (i : Inputs) (kinds hf_mul sigma : List ℕ) where
  -- the varblocks that are left, corners row by row
  abbrev pub varblocks_left : List Varblock
  varblocks_left = varblocks_of (bw_of i) (bh_of i) (layout_of i kinds hf_mul sigma).kinds (layout_of i kinds hf_mul sigma).hf_mul

  -- sigma of the block (x, y), which is in the varblock of the corner (cx, cy): multiplier × 65536, / scale, / hf_mul, × look-up[sharpness];
  -- +0.0 with the filter off
  abbrev pub strength_at : ℕ → ℕ → ℕ → ℕ → Float
  strength_at cx cy x y = sigma_of i.filter i.scale (block_at (layout_of i kinds hf_mul sigma).hf_mul (bw_of i) cx cy) i.lookups (block_at i.sharpness (bw_of i) x y)
