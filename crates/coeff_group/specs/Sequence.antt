-- Cells of a group's grids, and the symbol sequence that makes others of them (document 00, demand 3).
use Rattle.std.specs.Prelude.{List, [], ◌∷◌, ◌++◌, map, ℕ, get_or}
use Rattle.coded_numbers.specs.Signed.{symbol}
use Rattle.coeff_walk.specs.Item.{Item}
use Rattle.coeff_walk.specs.Sent.{sent}
use Rattle.coeff_group.specs.PassGroup.{PassGroup, group_items}
use Rattle.coeff_group.specs.Group.{PerChannel}

-- a channel, and a cell of its grid
abbrev pub GridCell : Type 0
GridCell = ℕ × ℕ

-- cell p of channel c
abbrev pub in_cell : PerChannel → ℕ → ℕ → ℕ
in_cell G c p = get_or (get_or G c []) p 0

-- the cells at which symbols are read, item by item
unfoldable pub read_cells : List Item → List GridCell
read_cells [] = []
read_cells (it ∷ its) = map (λ (p : ℕ). (it.channel, p)) it.cells ++ read_cells its

-- the symbols that make W of the grids G at an item's cells
abbrev pub changes : PerChannel → PerChannel → Item → List ℕ
changes G W it = map (λ (p : ℕ). symbol (in_cell W it.channel p) (in_cell G it.channel p)) it.cells

-- the sequence that makes W of the grids G of a group
unfoldable pub the_sequence : PassGroup → PerChannel → PerChannel → List ℕ
the_sequence P G W = sent (map (changes G W) (group_items P))
