-- Laws: what a shift makes of sides and blocks.
use Rattle.std.specs.Prelude.{◌≡◌, refl, ℕ, zero, suc, ◌/◌, ◌%◌, ◌-◌, ◌<◌, ◌≤◌, eqb}
use Rattle.std.proofs.Common.{arith}
use Rattle.planes.specs.Planes.{halved, half, is_first}

-- shifted
pub halved_some : (s n : ℕ) → (s ≡ 0 → ⊥) → n - n / 2 ≡ halved s n
halved_some zero n e = absurd (e refl)
halved_some (suc s) n e = omega arith

pub half_some : (s x : ℕ) → (s ≡ 0 → ⊥) → x / 2 ≡ half s x
half_some zero x e = absurd (e refl)
half_some (suc s) x e = refl

pub first_some : (s x : ℕ) → (s ≡ 0 → ⊥) → eqb (x % 2) 0 ≡ is_first s x
first_some zero x e = absurd (e refl)
first_some (suc s) x e = refl

-- a plane is no larger than its group, and what lies in the group lies in the plane
pub halved_le : (s n : ℕ) → halved s n ≤ n
halved_le zero n = omega arith
halved_le (suc s) zero = omega arith
halved_le (suc s) (suc n) = omega arith

pub half_le : (s x : ℕ) → half s x ≤ x
half_le zero x = omega arith
half_le (suc s) x = omega arith

pub half_lt : (s x n : ℕ) → x < n → half s x < halved s n
half_lt zero x n h = h
half_lt (suc s) x n h = omega arith
