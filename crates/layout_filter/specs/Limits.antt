-- Limits of the filter's numbers (document 01, Layout and filter strength). A NaN is outside every limit.
use Rattle.std.specs.Prelude.{ℕ, Bool, true, false, ◌&&◌, List, pos, nat_le, slice_index_or, Float}
use Rattle.std.specs.Float.{fin, nan}
use Rattle.std.specs.Float.Ieee.{le}
use Rattle.laws.specs.Tables.{each}
use Rattle.layout_filter.specs.declared.Filter.{Filter}
use Rattle.layout_filter.specs.declared.Filter.TheVariants.{Off, On}

-- 65,504 is 2047 × 32
abbrev pub LIMIT : Float
LIMIT = fin false 2047 (pos 5)

abbrev pub MINUS_LIMIT : Float
MINUS_LIMIT = fin true 2047 (pos 5)

unfoldable pub in_limits : Float → Bool
in_limits x = le MINUS_LIMIT x && le x LIMIT

-- with the filter off there is no multiplier
abbrev pub filter_fits : Filter → Bool
filter_fits Off = true
filter_fits (On m) = in_limits m

-- global scale 1 to 73,728
abbrev pub scale_fits : ℕ → Bool
scale_fits n = nat_le 1 n && nat_le n 73728

-- the eight look-up numbers
abbrev pub lookups_fit : List Float → Bool
lookups_fit lookups = each (λ (k : ℕ). in_limits (slice_index_or lookups k nan)) 8 0

-- checked even when the filter is off
abbrev pub params_fit : Filter → List Float → ℕ → Bool
params_fit filter lookups scale = scale_fits scale && filter_fits filter && lookups_fit lookups
