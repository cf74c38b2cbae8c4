-- Turns of the loops that write the natural order.
use Rattle.std.specs.Prelude.{ℕ, ◌-◌, ◌*◌, List}
use Rattle.order_natural.specs.Places.{run, joins, flat}
use Rattle.order_natural.specs.Natural.{in_row, diagonal, keep}

-- what is left of the square
unfoldable pub rest_of_square : ℕ → ℕ → ℕ → ℕ → List ℕ
rest_of_square w s b d = flat (keep w s (joins (diagonal b) (2 * b - d) d))

unfoldable pub rest_of_row : ℕ → ℕ → ℕ → List ℕ
rest_of_row w y x = flat (run (in_row y) (w - x) x)

unfoldable pub rest_of_rows : ℕ → ℕ → ℕ → List ℕ
rest_of_rows w h y = flat (joins (λ y. run (in_row y) w 0) (h - y) y)
