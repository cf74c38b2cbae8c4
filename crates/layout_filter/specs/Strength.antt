-- Filter strength of a block (document 01, Layout and filter strength): in f32, each step rounded once,
-- multiplier × 65536, / scale, / hf_mul, × look-up[sharpness].
use Rattle.std.specs.Prelude.{ℕ, false, List, pos, slice_index_or, to_bits, Float, Option, Some, None}
use Rattle.std.specs.Float.{fin, nan, binary32}
use Rattle.std.specs.Float.Ieee.{mul, div, of_int}
use Rattle.layout_filter.specs.declared.Filter.{Filter}
use Rattle.layout_filter.specs.declared.Filter.TheVariants.{Off, On}
use Rattle.layout_filter.specs.declared.ScaledMultiplier.{ScaledMultiplier}
use Rattle.layout_filter.specs.declared.DividedMultiplier.{DividedMultiplier}

-- +0.0, 65536 and the nearest f32 to a whole number, ties to even
abbrev pub zero32 : Float
zero32 = fin false 0 (pos 0)

abbrev pub two16 : Float
two16 = fin false 1 (pos 16)

abbrev pub nearest : ℕ → Float
nearest n = of_int binary32 (pos n)

-- multiplier × 65536, / scale
abbrev pub scaled : Float → ℕ → Float
scaled m scale = div binary32 (mul binary32 m two16) (nearest scale)

-- / hf_mul
abbrev pub divided : Float → ℕ → Float
divided a h = div binary32 a (nearest h)

-- × look-up[sharpness]
abbrev pub times_look_up : Float → List Float → ℕ → Float
times_look_up q lookups sharpness = mul binary32 q (slice_index_or lookups sharpness nan)

-- all four steps; filter off: +0.0
unfoldable pub sigma_of : Filter → ℕ → ℕ → List Float → ℕ → Float
sigma_of Off scale h lookups sharpness = zero32
sigma_of (On m) scale h lookups sharpness = times_look_up (divided (scaled m scale) h) lookups sharpness

-- its bit pattern, as it is handed out; filter off: 0
abbrev pub pattern : Float → ℕ
pattern x = to_bits binary32 x

-- the steps on a filter, off staying off
unfoldable pub scaled_by : Filter → ℕ → Option ScaledMultiplier
scaled_by Off scale = None
scaled_by (On m) scale = Some (record { 0 = scaled m scale })

unfoldable pub divided_by : Option ScaledMultiplier → ℕ → Option DividedMultiplier
divided_by None h = None
divided_by (Some a) h = Some (record { 0 = divided a.0 h })
