-- The nearest f32 of a whole number: M8, and ties.
use Rattle.std.specs.Prelude.{◌≡◌, false, pos}
use Rattle.std.specs.Float.{fin}
use Rattle.layout_filter.specs.Strength.{nearest}

-- ties go to even, upwards too: 16,777,219 becomes 16,777,220
abbrev pub TieUp : Type 0
TieUp = nearest 16777219 ≡ fin false 4194305 (pos 2)
