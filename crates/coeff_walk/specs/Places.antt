-- The cells of a list's places in a grid (document 01, Orders and Traps; `hf_coeff.rs`).
use Rattle.std.specs.Prelude.{Bool, List, [], ◌∷◌, ℕ, ◌+◌, ◌*◌}
use Rattle.dct_select.specs.Transforms.{across, down}
use Rattle.order_natural.specs.Places.{Place}

-- the cell of a place, in a grid of `width` cells to a row, for a varblock that begins at cell X, Y
abbrev pub cell_of : Bool → ℕ → ℕ → ℕ → Place → ℕ
cell_of turn width X Y q = (Y + down turn q.0 q.1) * width + (X + across turn q.0 q.1)

unfoldable pub cells_of : Bool → ℕ → ℕ → ℕ → List Place → List ℕ
cells_of turn width X Y [] = []
cells_of turn width X Y (q ∷ qs) = cell_of turn width X Y q ∷ cells_of turn width X Y qs
