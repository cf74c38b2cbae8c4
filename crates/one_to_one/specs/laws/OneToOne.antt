-- One sequence and only one (mission, demand 3), over items.
use Rattle.std.specs.Prelude.{◌≡◌, ◌⊎◌, ℕ, ◌^◌, ◌<◌, length}
use mathlib.Core.List.{List}
use Rattle.coded_numbers.specs.Signed.{symbol}
use Rattle.coeff_walk.specs.Item.{Item}
use Rattle.refusal.specs.Answer.{gives}
use Rattle.coeff_group.specs.Group.{PerChannel, Reading, going, read_items}
use Rattle.coeff_call.specs.Call.{outcome_of}
use Rattle.coeff_group.specs.laws.Cells.{Distinct, Shape, Fit, In}
use Rattle.coeff_group.specs.laws.Reads.{Sized}
use Rattle.coeff_group.specs.Sequence.{in_cell, read_cells}

-- accepted, read to the last symbol, these grids
pub record Filled (r : Reading) (s : List ℕ) (W : PerChannel) : Type 0 where
  pub accepted : (outcome_of r).answer ≡ gives (length s)
  pub grids : (outcome_of r).grids ≡ W

-- what is held fixed, and a filling: each cell is read at, or kept
pub record Fillable (its : List Item) (G W : PerChannel) : Type 0 where
  pub few : (it : Item) → In it its → length it.cells < 2 ^ 32
  pub sized : Sized its
  pub distinct : Distinct (read_cells its)
  pub fit : Fit G (read_cells its)
  pub wanted : (c p : ℕ) → in_cell W c p < 2 ^ 32
  pub shape : Shape W G
  pub kept : (c p : ℕ) → In (c, p) (read_cells its) ⊎ ((In (c, p) (read_cells its) → ⊥) × (in_cell W c p ≡ in_cell G c p))

abbrev pub reading : ℕ → List ℕ → List Item → List ℕ → List ℕ → PerChannel → PerChannel → Reading
reading clusters preset_map its s log G rows = read_items 0 clusters preset_map its (going s 0 log G rows)
