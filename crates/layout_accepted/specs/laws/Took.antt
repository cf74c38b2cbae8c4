-- A scan that no cell refused: the cells of its rectangle were free and are taken, the others are kept.
use Rattle.std.specs.Prelude.{◌≡◌, List, ℕ, ◌+◌, ◌*◌, ◌≤◌, ◌<◌}
use Rattle.std.proofs.Math.ListN.{set}
use Rattle.layout.specs.Grid.{block_at}

-- a cell (a, b) of the rectangle of w x h blocks at (x, y)
abbrev pub InRect : ℕ → ℕ → ℕ → ℕ → ℕ → ℕ → Type 0
InRect x y w h a b = (x ≤ a) × (a < x + w) × (y ≤ b) × (b < y + h)

-- K was read, K' is left
pub record Took (bw bh : ℕ) (K K' : ℕ → ℕ → ℕ) (x y w h : ℕ) : Type 0 where
  pub in_x : (a b : ℕ) → InRect x y w h a b → a < bw
  pub in_y : (a b : ℕ) → InRect x y w h a b → b < bh
  pub free : (a b : ℕ) → InRect x y w h a b → K a b ≡ 0
  pub taken : (a b : ℕ) → InRect x y w h a b → K' a b ≡ 1
  pub kept : (a b : ℕ) → a < bw → (InRect x y w h a b → ⊥) → K' a b ≡ K a b

-- what a cell that was taken tells
pub record CellTook (bw bh cx cy : ℕ) (k k' : List ℕ) : Type 0 where
  pub in_x : cx < bw
  pub in_y : cy < bh
  pub free : block_at k bw cx cy ≡ 0
  pub now : k' ≡ set k (cy * bw + cx) 1
