-- Every filter strength under the limits is finite: its size is at most 65,504 × 65,536 × 65,504.
use Rattle.std.specs.Prelude.{ℕ, ◌*◌, ◌<◌, ◌≤◌, List, slice_index_or, Float, Option, Some, None}
use Rattle.std.specs.Float.Ieee.{nan, binary32, mul}
use Rattle.layout_filter.specs.declared.ScaledMultiplier.{ScaledMultiplier}
use Rattle.layout_filter.specs.declared.DividedMultiplier.{DividedMultiplier}
use Rattle.layout_filter.specs.Strength.{divided_by}
use Rattle.layout_filter.specs.Finite.{SIGMA_MOST, Within}

-- what bounds the scaled multiplier and sigma; both are numbers that f32 has, as are 1 and 2^32
abbrev pub SCALED_MOST : ℕ
SCALED_MOST = 65504 * 65536

abbrev pub TimesWithin : Type 0
TimesWithin = (q l : Float) → Within SCALED_MOST q → Within 65504 l → Within SIGMA_MOST (mul binary32 q l)

-- ---- under the limits: a multiplier × 65536 / scale, divided or not, within 65,504 × 65,536, and the eight look-up numbers within 65,504
abbrev pub Bounds : Float → List Float → Type 0
Bounds q lookups = Within SCALED_MOST q × ((k : ℕ) → k < 8 → Within 65504 (slice_index_or lookups k nan))

unfoldable pub ScaledBounded : Option ScaledMultiplier → List Float → Type 0
ScaledBounded None lookups = Unit
ScaledBounded (Some q) lookups = Bounds q.0 lookups

unfoldable pub DividedBounded : Option DividedMultiplier → List Float → Type 0
DividedBounded None lookups = Unit
DividedBounded (Some q) lookups = Bounds q.0 lookups

abbrev pub DividedBoundedLaw : Type 0
DividedBoundedLaw = (f : Option ScaledMultiplier) (lookups : List Float) (h : ℕ) → 1 ≤ h → h < 4294967296 → ScaledBounded f lookups → DividedBounded (divided_by f h) lookups
