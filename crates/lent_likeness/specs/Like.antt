-- Likeness: yes exactly if two layouts have the same varblocks and the same sigma bits (document 01, Layout, "Added by us"; document 02, No. 12).
use Rattle.std.specs.Prelude.{◌↔◌, ◌≡◌, List, ℕ, ◌≤◌, ◌<◌}
use Rattle.layout.specs.Kinds.{wide_of, high_of}
use Rattle.layout.specs.Varblocks.{Varblock}
use Rattle.layout.specs.Lent.{LentLayout, lent_layout, kind_at, hf_mul_at, HasVarblock}

-- a lent layout with its filter strengths: sigma row by row, as bit patterns of f32
pub record FilteredLayout : Type 0 where
  pub layout : LentLayout
  pub sigma : List ℕ

abbrev pub filtered : ℕ → ℕ → List ℕ → List ℕ → List ℕ → FilteredLayout
filtered bw bh kinds hf_mul sigma = record { layout = lent_layout bw bh kinds hf_mul; sigma = sigma }

-- What document 01 asked for, before No. 12: a rectangle w x h with its corner at (x, y) and hf_mul m, whatever its transform number.
pub record HasRectangle (L : LentLayout) (x y w h m : ℕ) : Type 0 where
  pub in_x : x < L.bw
  pub in_y : y < L.bh
  pub corner : 2 ≤ kind_at L x y
  pub is_wide : wide_of (kind_at L x y) ≡ w
  pub is_high : high_of (kind_at L x y) ≡ h
  pub is_hf_mul : hf_mul_at L x y ≡ m

-- the two have the same rectangles with the same hf_mul
unfoldable pub SameRectangles : LentLayout → LentLayout → Type 0
SameRectangles L N = (x y w h m : ℕ) → HasRectangle L x y w h m ↔ HasRectangle N x y w h m

-- Finer, as No. 12 has it: the same varblocks, that is corner, transform number and hf_mul.
unfoldable pub SameVarblocks : LentLayout → LentLayout → Type 0
SameVarblocks L N = (v : Varblock) → HasVarblock L v ↔ HasVarblock N v

-- alike: the same varblocks and the same sigma bits
pub record Alike (L N : FilteredLayout) : Type 0 where
  pub varblocks : SameVarblocks L.layout N.layout
  pub sigma : L.sigma ≡ N.sigma
