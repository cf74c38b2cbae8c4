-- Tests joined by &&.
use Rattle.std.specs.Prelude.{◌≡◌, ◌≤◌, Bool, true, false, ◌&&◌, refl}
use Rattle.std.proofs.Common.{arith}
use Rattle.order_natural.specs.Places.{tally}

pub and_false : (b : Bool) → (b && false) ≡ false
and_false true = refl
and_false false = refl

pub and_left : (a b : Bool) → (a && b) ≡ true → a ≡ true
and_left true b e = refl
and_left false true e = e
and_left false false e = e

pub and_right : (a b : Bool) → (a && b) ≡ true → b ≡ true
and_right true b e = e
and_right false true e = refl
and_right false false e = e

pub tally_one : (b : Bool) → tally b ≤ 1
tally_one true = omega arith
tally_one false = omega arith
