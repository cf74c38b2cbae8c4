-- The nearest f32 of a whole number: M8, and ties.
use Rattle.std.specs.Prelude.{◌≡◌, false, pos, refl}
use Rattle.std.specs.Float.{fin}
use Rattle.std.specs.Float.Ieee.{of_int, round, size, span, climb, units, odd}
use Rattle.std.specs.Int.Count.{count_trailing_zeros}
use Rattle.layout_filter.specs.Strength.{nearest}
use Rattle.layout_filter.specs.laws.Strength.{TieUp}

-- M8: hf_mul 16,777,217 becomes 16,777,216
pub m8 : nearest 16777217 ≡ fin false 1 (pos 24)
unfolding of_int round size span climb units odd count_trailing_zeros
m8 = refl

-- ties go to even, upwards too: 16,777,219 becomes 16,777,220
pub tie_up : TieUp
unfolding of_int round size span climb units odd count_trailing_zeros
tie_up = refl
