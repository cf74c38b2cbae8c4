-- What examples at the border of refusal 24 are lent (document 02, No. 8): one block and its 63 cells behind the low-frequency one; clusters 7 for
-- counts and 5 for coefficients; a log of 66 bytes that held 9; a grid of zeros.
use Rattle.std.specs.Prelude.{List, [], ◌∷◌, ◌++◌, ℕ, zero, suc, ◌+◌, replicate}
use Rattle.coeff_walk.specs.Walk.{Walked}
use Rattle.coeff_walk.specs.Item.{Item, counted}

-- n cells from p on
abbrev pub cells_from : ℕ → ℕ → List ℕ
cells_from zero p = []
cells_from (suc n) p = p ∷ cells_from n (p + 1)

abbrev pub one_block : Item
one_block = record { channel = 0; x = 0; y = 0; wide = 1; blocks = 1; block_context = 0; cells = cells_from 63 1 }

abbrev pub reads_one : List ℕ → Walked
reads_one symbols = counted 0 1 (replicate 37 7 ++ replicate 458 5) one_block (replicate 32 0) symbols 0 (replicate 66 9) (replicate 64 0)
