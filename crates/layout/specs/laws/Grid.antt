-- Laws on grids as they are lent: flat lists, row by row.
use Rattle.std.specs.Prelude.{◌≡◌}
use Prim.Native.Nat.{ℕ, ◌+◌, ◌*◌, ◌<◌}

-- the cell at a place of the grid
pub record Cell (bw bh i : ℕ) : Type 0 where
  pub x : ℕ
  pub y : ℕ
  pub in_x : x < bw
  pub in_y : y < bh
  pub place : i ≡ y * bw + x
