-- The list of a layout's varblocks goes row by row: no two of them have one corner.
use Rattle.std.specs.Prelude.{Bool, List, ◌≡◌, leb}
use Rattle.std.proofs.Math.Bool.{true, false}
use Rattle.std.proofs.Math.Logic.{inl, inr}
use Rattle.std.proofs.Math.Path.{ap}
use Rattle.std.proofs.Common.{sym}
use Prim.Native.Nat.{ℕ, zero, suc, ◌+◌, ◌-◌, ◌<◌, ◌≤◌}
use native.Mathlib.Omega.{arith}
use Rattle.layout.specs.Valid.{Cells}
use Rattle.layout.specs.Varblocks.{Varblock, varblock, add_varblock, corners_row, corners_from, corners}
use Rattle.layout.specs.Listed.{Among, first, later}
use Rattle.layout.specs.laws.Order.{From}
use Rattle.layout.proofs.laws.Order.{weaken}
use Rattle.layout.specs.laws.Corners.{Apart}

module _ (K M : Cells) where
  row_from : (n x y : ℕ) (l : List Varblock) → ((v : Varblock) → Among v l → y < v.y) → (v : Varblock) → Among v (corners_row K M n x y l) → From x y v.x v.y
  unfolding corners_row
  row_from zero x y l f v i = inl (f v i)
  row_from (suc n) x y l f v i = go (leb 2 (K x y)) i (row_from n (x + 1) y l f v)
    where
      go : (b : Bool) → Among v (add_varblock b (varblock x y (K x y - 2) (M x y)) (corners_row K M n (x + 1) y l))
          → (Among v (corners_row K M n (x + 1) y l) → From (x + 1) y v.x v.y) → From x y v.x v.y
      go true (first e) ih = let a : x ≡ v.x = ap (λ (u : Varblock). u.x) e in inr (sym (ap (λ (u : Varblock). u.y) e), omega arith)
      go true (later i) ih = weaken x y v.x v.y (ih i)
      go false i ih = weaken x y v.x v.y (ih i)

  rows_from : (w n y : ℕ) (v : Varblock) → Among v (corners_from K M w n y) → y ≤ v.y
  unfolding corners_from
  rows_from w zero y v i = elim i [ ]
  rows_from w (suc n) y v i = go (row_from w 0 y (corners_from K M w n (y + 1)) (λ u j. let a = rows_from w n (y + 1) u j in omega arith) v i)
    where
      go : From 0 y v.x v.y → y ≤ v.y
      go (inl h) = omega arith
      go (inr h) = omega (arith, h.0)

  row_apart : (n x y : ℕ) (l : List Varblock) → ((v : Varblock) → Among v l → y < v.y) → Apart l → Apart (corners_row K M n x y l)
  unfolding corners_row
  row_apart zero x y l f p = p
  row_apart (suc n) x y l f p = go (leb 2 (K x y)) (row_apart n (x + 1) y l f p)
    where
      other : (u : Varblock) → u.x ≡ x → u.y ≡ y → From (x + 1) y u.x u.y → ⊥
      other u a b (inl h) = omega arith
      other u a b (inr h) = omega (arith, h.1)

      go : (b : Bool) → Apart (corners_row K M n (x + 1) y l) → Apart (add_varblock b (varblock x y (K x y - 2) (M x y)) (corners_row K M n (x + 1) y l))
      go true q = ((λ u i a b. other u a b (row_from n (x + 1) y l f u i)), q)
      go false q = q

  rows_apart : (w n y : ℕ) → Apart (corners_from K M w n y)
  unfolding corners_from
  rows_apart w zero y = tt
  rows_apart w (suc n) y = row_apart w 0 y (corners_from K M w n (y + 1)) (λ v i. let a = rows_from w n (y + 1) v i in omega arith) (rows_apart w n (y + 1))

  pub corners_apart : (w h : ℕ) → Apart (corners K M w h)
  corners_apart w h = rows_apart w h 0
