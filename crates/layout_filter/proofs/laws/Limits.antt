-- The limits as the code has them: the constants, and the look-up numbers one after the other.
use Rattle.std.specs.Prelude.{◌≡◌, refl}
use Rattle.std.specs.Float.{binary32}
use Rattle.std.specs.Float.Ieee.{neg, of_bits, of_fields, odd}
use Rattle.std.specs.Int.Count.{count_trailing_zeros}
use Rattle.layout_filter.specs.Limits.{LIMIT, MINUS_LIMIT}

pub limit_bits : of_bits binary32 1199562752 ≡ LIMIT
unfolding of_bits of_fields odd count_trailing_zeros
limit_bits = refl

pub minus_limit_bits : neg (of_bits binary32 1199562752) ≡ MINUS_LIMIT
unfolding neg of_bits of_fields odd count_trailing_zeros
minus_limit_bits = refl
