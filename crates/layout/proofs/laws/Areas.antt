-- Equal areas do not show an exact cover (document 01, Refused, 18): of 2 x 2 blocks, type 7 at (0, 0) and type 6 at (1, 0) share the cell (1, 0),
-- the occupied cell (0, 1) is in neither, and their areas sum to 4.
use Rattle.std.specs.Prelude.{◌≡◌, refl, false, [], ◌∷◌}
use Rattle.dct_select.specs.Transforms.{TRANSFORMS, wide, high}
use Rattle.layout.specs.RowByRow.{along_row, rows}
use Rattle.laws.specs.Lists.{fill_from}
use Rattle.layout.specs.Check.{clear, fitting, visit_cell, check_run, is_layout}
use Rattle.layout.specs.Varblocks.{varblocks_of, area, corners_row, corners_from}

pub areas_equal : area (varblocks_of 2 2 (9 ∷ 8 ∷ 1 ∷ 1 ∷ []) (1 ∷ 1 ∷ 0 ∷ 0 ∷ [])) ≡ 4
unfolding area corners_row corners_from wide high TRANSFORMS
areas_equal = refl

pub no_cover : is_layout 2 2 (9 ∷ 8 ∷ 1 ∷ 1 ∷ []) (1 ∷ 1 ∷ 0 ∷ 0 ∷ []) ≡ false
unfolding check_run visit_cell fitting clear fill_from rows along_row wide high TRANSFORMS
no_cover = refl
