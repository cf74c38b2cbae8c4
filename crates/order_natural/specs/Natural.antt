-- The natural order (document 01, Orders; `fill_natural_order`).
use Rattle.std.specs.Prelude.{ℕ, ◌-◌, ◌*◌, ◌/◌, ◌%◌, Bool, cond, not, ◌&&◌, List, [], ◌∷◌, ◌++◌, ◌==◌, nat_lt}
use Rattle.order_natural.specs.Places.{Place, run, joins}

abbrev pub in_row : ℕ → ℕ → Place
in_row y x = (x, y)

-- w × h cells row by row
abbrev pub rows : ℕ → ℕ → List Place
rows w h = joins (λ y. run (in_row y) w 0) h 0

-- cell o of the diagonal x + y + 1 = dist: odd dist upwards in x, even dist downwards
abbrev pub on_diagonal : ℕ → ℕ → Place
on_diagonal dist o = cond (dist % 2 == 1) (o, dist - 1 - o) (dist - 1 - o, o)

-- the diagonal inside the b × b square: o from the margin dist - b to dist less the margin
abbrev pub diagonal : ℕ → ℕ → List Place
diagonal b dist = run (on_diagonal dist) (dist - (dist - b) - (dist - b)) (dist - b)

-- the b × b square, diagonal by diagonal
abbrev pub square : ℕ → List Place
square b = joins (diagonal b) (2 * b - 1) 1

-- not both x and y below w, and in a row divisible by s
abbrev pub listed : ℕ → ℕ → Place → Bool
listed w s p = not (nat_lt p.0 w && nat_lt p.1 w) && p.1 % s == 0

-- the listed cells, y divided by s
abbrev pub keep : ℕ → ℕ → List Place → List Place
keep w s [] = []
keep w s (p ∷ l) = let r = keep w s l in cond (listed w s p) ((p.0, p.1 / s) ∷ r) r

-- first the corner row by row, then what is kept of the width × width square's diagonals
unfoldable pub natural : ℕ → ℕ → List Place
natural width height = rows (width / 8) (height / 8) ++ keep (width / 8) (width / height) (square width)
