-- w × h cells row by row: each once, and w * h of them.
use Rattle.std.specs.Prelude.{◌≡◌, ℕ, zero, suc, ◌*◌, ◌<◌, ◌≤◌, ◌&&◌, List, length, nat_lt, refl}
use Rattle.std.proofs.Common.{ap, sym, ◌∙◌, zero-mul, suc-mul, arith, length-append, lt-ltb, le-ltb}
use Rattle.std.proofs.Math.Decide.{dec_lt}
use Rattle.order_natural.specs.Places.{Place, run, joins, tally, count, Lists}
use Rattle.order_natural.specs.Natural.{in_row, rows}
use Rattle.order_natural.proofs.laws.Counts.{run_none, run_once, joins_none, joins_once}
use Rattle.order_natural.proofs.laws.Bools.{and_false}

-- the test of a cell, decided
pub inside_yes : (x y w h : ℕ) → x < w → y < h → tally (nat_lt x w && nat_lt y h) ≡ 1
inside_yes x y w h a b = rw (lt-ltb x w a, lt-ltb y h b)

pub inside_no_x : (x y w h : ℕ) → w ≤ x → tally (nat_lt x w && nat_lt y h) ≡ 0
inside_no_x x y w h a = rw (le-ltb x w a)

pub inside_no_y : (x y w h : ℕ) → h ≤ y → tally (nat_lt x w && nat_lt y h) ≡ 0
inside_no_y x y w h a = rw (le-ltb y h a, and_false)

-- for a fact of n that holds of 1 inside and of 0 outside
pub by_inside : (n x y w h : ℕ) → (x < w → y < h → n ≡ 1) → (w ≤ x → n ≡ 0) → (h ≤ y → n ≡ 0) → n ≡ tally (nat_lt x w && nat_lt y h)
by_inside n x y w h i p q = go (dec_lt x w) (dec_lt y h)
  where
    go : Dec (x < w) → Dec (y < h) → n ≡ tally (nat_lt x w && nat_lt y h)
    go (yes a) (yes b) = i a b ∙ sym (inside_yes x y w h a b)
    go (no a) b = p (omega arith) ∙ sym (inside_no_x x y w h (omega arith))
    go (yes a) (no b) = q (omega arith) ∙ sym (inside_no_y x y w h (omega arith))

pub length_run : (f : ℕ → Place) (n o : ℕ) → length (run f n o) ≡ n
length_run f zero o = refl
length_run f (suc n) o = ap suc (length_run f n (suc o))

length_joins : (g : ℕ → List Place) (w n o : ℕ) → ((j : ℕ) → length (g j) ≡ w) → length (joins g n o) ≡ n * w
length_joins g w zero o h = sym (zero-mul w)
length_joins g w (suc n) o h =
    omega (arith, length-append (g o) (joins g n (suc o)), h o, length_joins g w n (suc o) h, suc-mul n w)

pub rows_length : (w h : ℕ) → length (rows w h) ≡ h * w
rows_length w h = length_joins (λ y. run (in_row y) w 0) w h 0 (λ j. length_run (in_row j) w 0)

pub rows_lists : (w h : ℕ) → Lists w h (rows w h)
rows_lists w h x y =
    by_inside (count x y (rows w h)) x y w h
    (λ a b. joins_once x y (λ y. run (in_row y) w 0) h 0 y (omega arith) (omega arith)
    (run_once x y (in_row y) w 0 x (omega arith) (omega arith) (refl, refl) (λ j c d t. sym t.0))
    (λ j c d n. run_none x y (in_row j) w 0 (λ i e f t. n (sym t.1))))
    (λ a. joins_none x y (λ y. run (in_row y) w 0) h 0 (λ j c d. run_none x y (in_row j) w 0 (λ i e f t. omega arith)))
    (λ a. joins_none x y (λ y. run (in_row y) w 0) h 0 (λ j c d. run_none x y (in_row j) w 0 (λ i e f t. omega arith)))
