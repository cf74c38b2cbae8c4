-- The diagonals of the b × b square: each cell once.
use Rattle.std.specs.Prelude.{◌≡◌, ℕ, ◌+◌, ◌-◌, ◌*◌, ◌%◌, ◌<◌, ◌≤◌, Bool, true, false, cond, ◌==◌, ◌≢◌, refl}
use Rattle.std.proofs.Common.{sym, arith}
use Rattle.order_natural.specs.Places.{Place, run, count, Lists}
use Rattle.order_natural.specs.Natural.{on_diagonal, diagonal, square}
use Rattle.order_natural.specs.Order.{Hit}
use Rattle.order_natural.proofs.laws.Counts.{run_none, run_once, joins_none, joins_once}
use Rattle.order_natural.proofs.laws.Rows.{by_inside}

-- the cell that a diagonal has at o, in its direction
abbrev go : Bool → ℕ → ℕ → Place
go t d o = cond t (o, d - 1 - o) (d - 1 - o, o)

-- the sum of x and y tells the diagonal
on_one : (t : Bool) (x y d o : ℕ) → o < d → Hit x y (go t d o) → x + y + 1 ≡ d
on_one true x y d o a h = omega arith
on_one false x y d o a h = omega arith

in_square : (t : Bool) (x y d o b : ℕ) → d - b ≤ o → o < d - b + (d - (d - b) - (d - b)) → Hit x y (go t d o) → (x < b) × (y < b)
in_square true x y d o b p q h = (omega arith, omega arith)
in_square false x y d o b p q h = (omega arith, omega arith)

once : (t : Bool) (x y b d : ℕ) → x < b → y < b → x + y + 1 ≡ d → count x y (run (go t d) (d - (d - b) - (d - b)) (d - b)) ≡ 1
once true x y b d p q e =
    run_once x y (go true d) (d - (d - b) - (d - b)) (d - b) x (omega arith) (omega arith) (refl, omega arith) (λ j c f t. sym t.0)
once false x y b d p q e =
    run_once x y (go false d) (d - (d - b) - (d - b)) (d - b) y (omega arith) (omega arith) (omega arith, refl) (λ j c f t. sym t.1)

diagonal_once : (x y b d : ℕ) → x < b → y < b → x + y + 1 ≡ d → count x y (diagonal b d) ≡ 1
diagonal_once x y b d p q e = once (d % 2 == 1) x y b d p q e

diagonal_other : (x y b d : ℕ) → (x + y + 1 ≢ d) → count x y (diagonal b d) ≡ 0
diagonal_other x y b d n =
    run_none x y (on_diagonal d) (d - (d - b) - (d - b)) (d - b) (λ j p q t. n (on_one (d % 2 == 1) x y d j (omega arith) t))

diagonal_out : (x y b d : ℕ) → ((x < b) × (y < b) → ⊥) → count x y (diagonal b d) ≡ 0
diagonal_out x y b d n =
    run_none x y (on_diagonal d) (d - (d - b) - (d - b)) (d - b) (λ j p q t. n (in_square (d % 2 == 1) x y d j b p q t))

pub square_lists : (b : ℕ) → Lists b b (square b)
square_lists b x y =
    by_inside (count x y (square b)) x y b b
    (λ p q. joins_once x y (diagonal b) (2 * b - 1) 1 (x + y + 1) (omega arith) (omega arith)
    (diagonal_once x y b (x + y + 1) p q refl)
    (λ j c d n. diagonal_other x y b j (λ e. n (sym e))))
    (λ p. joins_none x y (diagonal b) (2 * b - 1) 1 (λ j c d. diagonal_out x y b j (λ t. omega arith)))
    (λ p. joins_none x y (diagonal b) (2 * b - 1) 1 (λ j c d. diagonal_out x y b j (λ t. omega arith)))
