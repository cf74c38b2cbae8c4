-- How many symbols a group may have: a count and a symbol for each place, at most 64 for each block in each channel.
use Rattle.std.specs.Prelude.{ℕ, suc, ◌+◌, length}
use mathlib.Core.List.{List, [], ◌∷◌}
use Rattle.coeff_walk.specs.Item.{Item}

-- a count and a symbol for each place
abbrev pub symbols_in : List Item → ℕ
symbols_in [] = 0
symbols_in (it ∷ its) = suc (length it.cells) + symbols_in its
