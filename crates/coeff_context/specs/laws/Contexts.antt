-- Contexts of coefficients, where no more are due than places remain: they stay below 458, and each tells the entries that it is made of.
use Rattle.std.specs.Prelude.{Bool, cond, ◌&&◌, List, [], ◌∷◌, ℕ, ◌+◌, leb, eqb, get_or}
use Rattle.coeff_context.specs.Context.{NUM_NONZERO, FREQ}

-- the sum of entry a of the one table and entry c of the other
abbrev pub entries : ℕ → ℕ → ℕ
entries a c = get_or NUM_NONZERO a 0 + get_or FREQ c 0

-- the last entry of an ascending list that is not above s, m if there is none
abbrev pub last_up_to : List ℕ → ℕ → ℕ → ℕ
last_up_to [] s m = m
last_up_to (x ∷ xs) s m = last_up_to xs s (cond (leb x s) x m)

-- the entry of the non-zero table that a sum is made of
abbrev pub non_zero_in : ℕ → ℕ
non_zero_in s = last_up_to NUM_NONZERO s 0

-- Only the two quotients count, and they sum to less than 63: one test over the 2,016 pairs.
abbrev pub told : ℕ → ℕ → Bool
told a c = leb (entries a c) 228 && eqb (non_zero_in (entries a c)) (get_or NUM_NONZERO a 0)
