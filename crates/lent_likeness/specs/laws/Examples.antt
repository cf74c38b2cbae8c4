-- Examples of likeness (document 02, No. 12).
use Rattle.std.specs.Prelude.{Bool, true}
use Rattle.std.specs.Float.Ieee.{of_bits, of_fields, odd}
use Rattle.dct_select.specs.Transforms.{TRANSFORMS, wide, high}
use Rattle.layout.specs.Check.{clear, fitting, visit_cell, check_run}
use Rattle.layout.specs.RowByRow.{along_row, rows}
use Rattle.laws.specs.Lists.{fill_from}
use Rattle.lent_sides.specs.Limits.{in_limits, lengths_fit}
use Rattle.lent_lists.specs.Same.{same_by}
use Rattle.lent_likeness.specs.Calls.{alike, like_of}

-- what opens for likeness to be computed
unfoldable pub likeness_computes : Bool
unfolding like_of alike same_by in_limits lengths_fit check_run visit_cell fitting clear fill_from rows along_row wide high TRANSFORMS of_bits of_fields odd
likeness_computes = true
