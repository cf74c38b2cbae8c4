-- Bit patterns of f32 that are finite numbers, neither infinite nor NaN (document 02, No. 12).
use Rattle.std.specs.Prelude.{Bool, List, ℕ}
use Rattle.std.specs.Float.{binary32}
use Rattle.std.specs.Float.Ieee.{of_bits}
use Rattle.std.specs.Float.Ieee.Scale.{finite}
use Rattle.laws.specs.Tables.{every}

abbrev pub finite_pattern : ℕ → Bool
finite_pattern s = finite (of_bits binary32 s)

abbrev pub all_finite : List ℕ → Bool
all_finite = every finite_pattern
