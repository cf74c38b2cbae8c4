-- Patterns that are no NaN.
use Rattle.std.specs.Prelude.{◌≡◌, ℕ, ◌/◌, ◌%◌, Bool, true, false, not, ◌&&◌, T, ◌==◌, ◌≢◌}
use Rattle.std.specs.Float.{binary32}
use Rattle.std.specs.Float.Ieee.{nan_bits}
use Rattle.std.proofs.Common.{eq-eqb, ne_eqb}

-- the exponent's field is not all ones
pub no_nan_field : (b : ℕ) → (b % 2147483648 / 8388608 ≢ 255) → T (not (nan_bits binary32 b))
unfolding nan_bits
no_nan_field b h = rw (ne_eqb (b % 2147483648 / 8388608) 255 h) tt

and_false : (t : Bool) → T (not (t && false))
and_false true = tt
and_false false = tt

-- the digits are 0
pub no_nan_digits : (b : ℕ) → b % 8388608 ≡ 0 → T (not (nan_bits binary32 b))
unfolding nan_bits
no_nan_digits b h = rw (eq-eqb (b % 8388608) 0 h) (and_false (b % 2147483648 / 8388608 == 255))
