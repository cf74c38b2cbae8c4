-- Cells by number.
use Rattle.std.specs.Prelude.{◌≡◌, Bool, true, false, length, get_or}
use Rattle.std.proofs.Math.Path.{refl, ap}
use Rattle.std.proofs.Common.{◌∙◌, arith, mul-le-mul}
use mathlib.Core.List.{List, [], ◌∷◌}
use Prim.Native.Nat.{ℕ, zero, suc, ◌+◌, ◌*◌, ◌/◌, ◌<◌, ◌≤◌}
use Rattle.order_natural.specs.Places.{Place, paired}
use Rattle.order_natural.proofs.laws.Flat.{length_paired, pair_at}
use Rattle.coeff_walk.specs.Places.{cells_of, cell_of}

module _ (turn : Bool) (width x y : ℕ) where
  pub length_places : (qs : List Place) → length (cells_of turn width x y qs) ≡ length qs
  unfolding cells_of
  length_places [] = refl
  length_places (q ∷ qs) = ap suc (length_places qs)

  pub places_count : (l : List ℕ) → length (cells_of turn width x y (paired l)) ≡ length l / 2
  places_count l = length_places (paired l) ∙ length_paired l

  pub place_at : (qs : List Place) (k : ℕ) → k < length qs → get_or (cells_of turn width x y qs) k 0 ≡ cell_of turn width x y (get_or qs k (0, 0))
  unfolding cells_of
  place_at [] k h = absurd (omega arith)
  place_at (q ∷ qs) zero h = refl
  place_at (q ∷ qs) (suc k) h = place_at qs k (omega arith)

module _ (width x y : ℕ) (l : List ℕ) (k : ℕ) (h : k < length l / 2) where
  pub place_turned : get_or (cells_of true width x y (paired l)) k 0 ≡ (y + get_or l (2 * k) 0) * width + (x + get_or l (2 * k + 1) 0)
  place_turned = let g : k < length (paired l) = omega (arith, length_paired l) in place_at true width x y (paired l) k g ∙ rw (pair_at l k g)

  pub place_straight : get_or (cells_of false width x y (paired l)) k 0 ≡ (y + get_or l (2 * k + 1) 0) * width + (x + get_or l (2 * k) 0)
  place_straight = let g : k < length (paired l) = omega (arith, length_paired l) in place_at false width x y (paired l) k g ∙ rw (pair_at l k g)

pub cell_fits : (y a width x b : ℕ) → y ≤ 256 → a ≤ 65535 → width ≤ 256 → x ≤ 256 → b ≤ 65535 → (y + a) * width ≤ 16842496
cell_fits y a width x b h₁ h₂ h₃ h₄ h₅ = mul-le-mul {n₁ = y + a} {m₁ = width} {n₂ = 65791} {m₂ = 256} (omega arith) h₃
