-- A reading stays inside its lists, item by item: what that asks of items and of the reading before them, and what they leave.
use Rattle.std.specs.Prelude.{◌≡◌, length, get_or}
use mathlib.Core.List.{List, []}
use Prim.Native.Nat.{ℕ, ◌+◌, ◌*◌, ◌<◌, ◌≤◌}
use Rattle.coeff_walk.specs.Item.{Item}
use Rattle.coeff_group.specs.Group.{PerChannel, Reading, going, refused}
use Rattle.coeff_group.specs.laws.Cells.{In}

-- Rows of counts.
-- each number up to 63
abbrev pub Small : List ℕ → Type 0
Small row = (i : ℕ) → get_or row i 0 < 64

-- Items.
-- what no symbol decides of an item, with rows so wide and grids of so many cells
pub record Sound (width cells clusters : ℕ) (it : Item) : Type 0 where
  pub channel : it.channel < 3
  pub some : 1 ≤ it.wide
  pub right : it.x + it.wide ≤ width
  pub blocks : 0 < it.blocks
  pub context : it.block_context < clusters
  pub size : length it.cells ≡ 63 * it.blocks
  pub places : (p : ℕ) → In p it.cells → p < cells

-- a reading with three grids of so many cells, three rows so wide, and room in the log for so many more symbols
pub record Sane (width grid_length due at : ℕ) (log : List ℕ) (grids rows : PerChannel) : Type 0 where
  pub three : 3 ≤ length grids
  pub cells : (c : ℕ) → c < 3 → length (get_or grids c []) ≡ grid_length
  pub rows3 : length rows ≡ 3
  pub wide : (c : ℕ) → c < 3 → length (get_or rows c []) ≡ width
  pub small : (c : ℕ) → c < 3 → Small (get_or rows c [])
  pub room : at + due ≤ length log

abbrev pub Fine : ℕ → ℕ → ℕ → Reading → Type 0
Fine width grid_length due (refused why at log grids) = Unit
Fine width grid_length due (going us at log grids rows) = Sane width grid_length due at log grids rows
