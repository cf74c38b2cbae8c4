-- Document 01's marked examples of the layout call, by computation: M4 to M6, and the examples of refusals 4 to 10; document 02's No. 5.
use Rattle.std.specs.Prelude.{◌≡◌, Bool, true, [], ◌∷◌}
use Rattle.std.specs.Float.Ieee.{le, lt, eq}
use Rattle.dct_select.specs.Transforms.{TRANSFORMS, wide, high}
use Rattle.layout.specs.RowByRow.{along_row, rows}
use Rattle.layout_sizes.specs.Blocks.{bw_in, bh_in}
use Rattle.layout_filter.specs.Strength.{scaled_by, divided_by}
use Rattle.layout_filter.specs.Limits.{in_limits}
use Rattle.layout_placing.specs.Scan.{take_cell, scan}
use Rattle.layout_placing.specs.Reading.{place, column, reading}
use Rattle.layout_call.specs.Call.{layout_of}
use Rattle.layout_accepted.specs.Marked.{off}

-- what opens for a layout call to be computed
unfoldable pub layout_computes : Bool
unfolding layout_of bw_in bh_in in_limits le lt eq reading column place scan take_cell rows along_row wide high TRANSFORMS scaled_by divided_by
layout_computes = true

-- M5: mul 0 gives 1, −1 is refused, and so is the largest mul
abbrev pub M5 : Type 0
M5 = (off 1 1 (0 ∷ []) (0 ∷ [])).hf_mul ≡ 1 ∷ []
