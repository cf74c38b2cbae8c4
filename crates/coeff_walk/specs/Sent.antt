-- The symbols at a channel's places as they are sent (document 00, demand 3; document 01, Coefficients).
use Rattle.std.specs.Prelude.{List, [], ◌∷◌, ◌++◌, ℕ, zero, suc, ◌^◌, ◌<◌}
use Rattle.coeff_walk.specs.Walk.{less}

-- 32-bit symbols
abbrev pub Words : List ℕ → Type 0
Words [] = Unit
Words (u ∷ us) = (u < 2 ^ 32) × Words us

-- how many symbols are not 0
abbrev pub more : ℕ → ℕ → ℕ
more zero n = n
more (suc d) n = suc n

unfoldable pub non_zeros : List ℕ → ℕ
non_zeros [] = 0
non_zeros (d ∷ ds) = more d (non_zeros ds)

-- the symbols up to the last of the n that are not 0
unfoldable pub up_to : ℕ → List ℕ → List ℕ
up_to n [] = []
up_to zero (d ∷ ds) = []
up_to (suc n) (d ∷ ds) = d ∷ up_to (less d n) ds

-- of each channel of each varblock, with a symbol for each of its places: how many are not 0, then those up to the last of them
unfoldable pub sent : List (List ℕ) → List ℕ
sent [] = []
sent (ds ∷ dss) = non_zeros ds ∷ (up_to (non_zeros ds) ds ++ sent dss)
