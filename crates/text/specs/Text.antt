-- Text in lent bytes, and numbers in decimal.
use Rattle.std.specs.Prelude.{◌≡◌, cond, List, [], ◌∷◌, ◌++◌, ℕ, zero, suc, ◌+◌, ◌/◌, ◌%◌, min, ltb, length}
use Rattle.std.proofs.lemmas.List.Edits.{sets}

-- the digits of n, at most k + 1 of them, the last one lowest
unfoldable pub digits_of : ℕ → ℕ → List ℕ
digits_of zero n = (48 + n) ∷ []
digits_of (suc k) n = cond (ltb n 10) ((48 + n) ∷ []) (digits_of k (n / 10) ++ ((48 + n % 10) ∷ []))

-- a 64-bit number in decimal, with no zeros in front
abbrev pub decimal : ℕ → List ℕ
decimal n = digits_of 19 n

-- s was put into d at the place i, as much of it as fits, and the place behind it is j
pub record Puts (d : List ℕ) (i : ℕ) (s d' : List ℕ) (j : ℕ) : Type 0 where
  pub bytes : d' ≡ sets d i s
  pub place : j ≡ min (i + length s) (length d)
