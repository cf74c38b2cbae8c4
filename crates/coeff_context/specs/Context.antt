-- The context of a coefficient (document 01, Coefficients; `hf_coeff.rs`).
use Rattle.std.specs.Prelude.{List, [], ◌∷◌, ℕ, ◌+◌, ◌*◌, ◌/◌, get_or}

-- COEFF_FREQ_CONTEXT
unfoldable pub FREQ : List ℕ
FREQ = 0 ∷ 1 ∷ 2 ∷ 3 ∷ 4 ∷ 5 ∷ 6 ∷ 7 ∷ 8 ∷ 9 ∷ 10 ∷ 11 ∷ 12 ∷ 13 ∷ 14 ∷ 15 ∷ 15 ∷ 16 ∷ 16 ∷ 17 ∷ 17 ∷ 18 ∷ 18 ∷ 19 ∷ 19 ∷ 20 ∷ 20 ∷ 21 ∷ 21 ∷ 22 ∷ 22 ∷ 23 ∷ 23 ∷ 23 ∷ 23 ∷ 24 ∷ 24 ∷ 24 ∷ 24 ∷ 25 ∷ 25 ∷ 25 ∷ 25 ∷ 26 ∷ 26 ∷ 26 ∷ 26 ∷ 27 ∷ 27 ∷ 27 ∷ 27 ∷ 28 ∷ 28 ∷ 28 ∷ 28 ∷ 29 ∷ 29 ∷ 29 ∷ 29 ∷ 30 ∷ 30 ∷ 30 ∷ 30 ∷ []

-- COEFF_NUM_NONZERO_CONTEXT
unfoldable pub NUM_NONZERO : List ℕ
NUM_NONZERO = 0 ∷ 31 ∷ 62 ∷ 62 ∷ 93 ∷ 93 ∷ 93 ∷ 93 ∷ 123 ∷ 123 ∷ 123 ∷ 123 ∷ 152 ∷ 152 ∷ 152 ∷ 152 ∷ 152 ∷ 152 ∷ 152 ∷ 152 ∷ 180 ∷ 180 ∷ 180 ∷ 180 ∷ 180 ∷ 180 ∷ 180 ∷ 180 ∷ 180 ∷ 180 ∷ 180 ∷ 180 ∷ 206 ∷ 206 ∷ 206 ∷ 206 ∷ 206 ∷ 206 ∷ 206 ∷ 206 ∷ 206 ∷ 206 ∷ 206 ∷ 206 ∷ 206 ∷ 206 ∷ 206 ∷ 206 ∷ 206 ∷ 206 ∷ 206 ∷ 206 ∷ 206 ∷ 206 ∷ 206 ∷ 206 ∷ 206 ∷ 206 ∷ 206 ∷ 206 ∷ 206 ∷ 206 ∷ 206 ∷ []

-- context of the coefficient at place i, when n + 1 that are not 0 are still due; prev is 1 if the symbol before was not 0
unfoldable pub coeff_context : ℕ → ℕ → ℕ → ℕ → ℕ
coeff_context blocks n i prev = (get_or NUM_NONZERO (n / blocks) 0 + get_or FREQ (i / blocks) 0) * 2 + prev
