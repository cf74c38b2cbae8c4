-- A varblock as the code plans it.
use Rattle.std.specs.Prelude.{◌≡◌, refl, Bool, true, false, not, ◌&&◌, ◌||◌, ℕ, ◌≤◌, leb}
use Rattle.std.proofs.Common.{ap, sym, arith}
use Rattle.std.proofs.lemmas.Bool.{lt-leb}
use Rattle.std.proofs.Math.ListN.{get_or-eq_default}
use Rattle.dct_select.specs.declared.TransformType.{TransformType}
use Rattle.dct_select.specs.Transforms.{Row, row, TRANSFORMS, wide, high, order_of, turns}
use Rattle.refusal.specs.Answer.{Answer, gives, refuses}
use Rattle.dct_select.specs.LookUp.{look_up}
use Rattle.dct_select.specs.laws.Exponents.{exponent_of, exponent_none}
use Rattle.dct_select.specs.laws.LookUp.{known_is, unknown_is}
use Rattle.coeff_group.specs.laws.Plans.{shape_of, shape_by, order_by}

wide_none : (t : ℕ) → 27 ≤ t → wide t ≡ 0
unfolding wide TRANSFORMS
wide_none t h = ap (λ (r : Row). r.wide) (get_or-eq_default TRANSFORMS (row 0 0 0) {n = t} h)

high_none : (t : ℕ) → 27 ≤ t → high t ≡ 0
unfolding high TRANSFORMS
high_none t h = ap (λ (r : Row). r.high) (get_or-eq_default TRANSFORMS (row 0 0 0) {n = t} h)

order_none : (t : ℕ) → 27 ≤ t → order_of t ≡ 0
unfolding order_of TRANSFORMS
order_none t h = ap (λ (r : Row). r.order) (get_or-eq_default TRANSFORMS (row 0 0 0) {n = t} h)

turns_none : (t : ℕ) → 27 ≤ t → turns t ≡ true
unfolding turns
turns_none t h = rw (lt-leb t 3 (omega arith), lt-leb t 17 (omega arith), wide_none t h, high_none t h) (sides (leb 1 t) (leb 12 t))
  where
    sides : (a b : Bool) → not (a && false || b && false) && true ≡ true
    sides true true = refl
    sides true false = refl
    sides false true = refl
    sides false false = refl

pub shape_at : (x y t : ℕ) (l : Answer TransformType) → look_up t ≡ l → shape_by x y (exponent_of t) l ≡ shape_of x y t
shape_at x y t (gives u) e = rw (known_is t u e).1
shape_at x y t (refuses r) e =
    let h = unknown_is t r e in
    rw (wide_none t h, exponent_none t h, turns_none t h)

pub order_by_lem : (t : ℕ) (l : Answer TransformType) → look_up t ≡ l → order_by l ≡ order_of t
order_by_lem t (gives u) e = ap order_of (known_is t u e).1
order_by_lem t (refuses r) e = sym (order_none t (unknown_is t r e))
