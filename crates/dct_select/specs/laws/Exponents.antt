-- The number of a varblock's blocks is a power of two.
use Rattle.std.specs.Prelude.{◌≡◌, List, [], ◌∷◌, ℕ, ◌*◌, ◌^◌, ◌<◌, ◌≤◌, get_or}
use Rattle.std.proofs.Math.Dec.{leb, eqb, eqb→eq, leb→le}
use Rattle.std.proofs.Math.ListN.{get_or-eq_default}
use Rattle.dct_select.specs.Transforms.{TRANSFORMS, wide, high}
use Rattle.dct_select.specs.laws.Rules.{below_27}

-- the exponent of each transform's number of blocks
unfoldable pub EXPONENTS : List ℕ
EXPONENTS = 0 ∷ 0 ∷ 0 ∷ 0 ∷ 2 ∷ 4 ∷ 1 ∷ 1 ∷ 2 ∷ 2 ∷ 3 ∷ 3 ∷ 0 ∷ 0 ∷ 0 ∷ 0 ∷ 0 ∷ 0 ∷ 6 ∷ 5 ∷ 5 ∷ 8 ∷ 7 ∷ 7 ∷ 10 ∷ 9 ∷ 9 ∷ []

unfoldable pub exponent_of : ℕ → ℕ
exponent_of t = get_or EXPONENTS t 0

module _ (t : ℕ) (known : t < 27) where
  pub exponent_blocks : 2 ^ exponent_of t ≡ wide t * high t
  unfolding exponent_of EXPONENTS wide high TRANSFORMS
  exponent_blocks = eqb→eq (2 ^ exponent_of t) (wide t * high t) (below_27 (λ (t : ℕ). eqb (2 ^ exponent_of t) (wide t * high t)) tt t known)

  pub exponent_le : exponent_of t ≤ 10
  unfolding exponent_of EXPONENTS
  exponent_le = leb→le (exponent_of t) 10 (below_27 (λ (t : ℕ). leb (exponent_of t) 10) tt t known)

pub exponent_none : (t : ℕ) → 27 ≤ t → exponent_of t ≡ 0
unfolding exponent_of EXPONENTS
exponent_none t h = get_or-eq_default EXPONENTS 0 {n = t} h
