-- Turns of the loops that write the natural order.
use Rattle.std.specs.Prelude.{◌≡◌, ℕ, suc, ◌+◌, ◌-◌, ◌*◌, ◌/◌, ◌<◌, ◌≤◌, Bool, true, false, cond, List, [], ◌∷◌, ◌++◌, length, refl}
use Rattle.std.proofs.Common.{ap, sym, ◌∙◌, add-one, arith, length-append}
use Rattle.order_natural.specs.Places.{Place, run, joins, flat}
use Rattle.order_natural.specs.Natural.{in_row, diagonal, square, listed, keep, rows, natural}
use Rattle.order_natural.specs.Order.{Size}
use Rattle.order_natural.proofs.laws.Order.{natural_facts}
use Rattle.order_natural.specs.laws.Turns.{rest_of_square, rest_of_row, rest_of_rows}

-- runs and joined lists from o to e
pub run_from : (f : ℕ → Place) (o e : ℕ) → o < e → run f (e - o) o ≡ f o ∷ run f (e - (o + 1)) (o + 1)
run_from f o e h =
    let n : e - o ≡ suc (e - (o + 1)) = omega arith in
    ap (λ (k : ℕ). run f k o) n ∙ ap (λ (k : ℕ). f o ∷ run f (e - (o + 1)) k) (sym (add-one o))

pub run_end : (f : ℕ → Place) (o e : ℕ) → e ≤ o → run f (e - o) o ≡ []
run_end f o e h = let n : e - o ≡ 0 = omega arith in rw n

pub joins_from : (g : ℕ → List Place) (o e : ℕ) → o < e → joins g (e - o) o ≡ g o ++ joins g (e - (o + 1)) (o + 1)
joins_from g o e h =
    let n : e - o ≡ suc (e - (o + 1)) = omega arith in
    ap (λ (k : ℕ). joins g k o) n ∙ ap (λ (k : ℕ). g o ++ joins g (e - (o + 1)) k) (sym (add-one o))

pub joins_end : (g : ℕ → List Place) (o e : ℕ) → e ≤ o → joins g (e - o) o ≡ []
joins_end g o e h = let n : e - o ≡ 0 = omega arith in rw n

pub keep_append : (w s : ℕ) (l m : List Place) → keep w s (l ++ m) ≡ keep w s l ++ keep w s m
keep_append w s [] m = refl
keep_append w s (p ∷ l) m = ap (λ (r : List Place). cond (listed w s p) ((p.0, p.1 / s) ∷ r) r) (keep_append w s l m) ∙ go (listed w s p)
  where
    go : (b : Bool) → cond b ((p.0, p.1 / s) ∷ (keep w s l ++ keep w s m)) (keep w s l ++ keep w s m) ≡ cond b ((p.0, p.1 / s) ∷ keep w s l) (keep w s l) ++ keep w s m
    go true = refl
    go false = refl

pub flat_append : (l m : List Place) → flat (l ++ m) ≡ flat l ++ flat m
flat_append [] m = refl
flat_append (p ∷ l) m = ap (λ (r : List ℕ). p.0 ∷ p.1 ∷ r) (flat_append l m)

pub square_turn : (w s b d : ℕ) → d < 2 * b → rest_of_square w s b d ≡ flat (keep w s (diagonal b d)) ++ rest_of_square w s b (d + 1)
unfolding rest_of_square
square_turn w s b d h =
    let rest = joins (diagonal b) (2 * b - (d + 1)) (d + 1) in
    ap (λ (l : List Place). flat (keep w s l)) (joins_from (diagonal b) d (2 * b) h)
    ∙ ap flat (keep_append w s (diagonal b d) rest)
    ∙ flat_append (keep w s (diagonal b d)) (keep w s rest)

pub square_start : (w s b : ℕ) → rest_of_square w s b 1 ≡ flat (keep w s (square b))
unfolding rest_of_square
square_start w s b = refl

pub square_end : (w s b d : ℕ) → 2 * b ≤ d → rest_of_square w s b d ≡ []
unfolding rest_of_square
square_end w s b d h = ap (λ (l : List Place). flat (keep w s l)) (joins_end (diagonal b) d (2 * b) h)

pub row_turn : (w y x : ℕ) → x < w → rest_of_row w y x ≡ (x ∷ y ∷ []) ++ rest_of_row w y (x + 1)
unfolding rest_of_row
row_turn w y x h = ap flat (run_from (in_row y) x w h)

pub row_end : (w y x : ℕ) → w ≤ x → rest_of_row w y x ≡ []
unfolding rest_of_row
row_end w y x h = ap flat (run_end (in_row y) x w h)

row_whole : (w y : ℕ) → rest_of_row w y 0 ≡ flat (run (in_row y) w 0)
unfolding rest_of_row
row_whole w y = let e : w - 0 ≡ w = omega arith in rw e

pub rows_turn : (w h y : ℕ) → y < h → rest_of_rows w h y ≡ rest_of_row w y 0 ++ rest_of_rows w h (y + 1)
unfolding rest_of_rows
rows_turn w h y k =
    let g : ℕ → List Place = λ y. run (in_row y) w 0 in
    ap flat (joins_from g y h k) ∙ flat_append (g y) (joins g (h - (y + 1)) (y + 1)) ∙ rw (row_whole w y)

pub rows_start : (w h : ℕ) → rest_of_rows w h 0 ≡ flat (rows w h)
unfolding rest_of_rows
rows_start w h = let e : h - 0 ≡ h = omega arith in rw e

pub rows_end : (w h y : ℕ) → h ≤ y → rest_of_rows w h y ≡ []
unfolding rest_of_rows
rows_end w h y k = ap flat (joins_end (λ y. run (in_row y) w 0) y h k)

-- the corner, then the square
pub natural_parts : (width height : ℕ) → flat (natural width height) ≡ flat (rows (width / 8) (height / 8)) ++ flat (keep (width / 8) (width / height) (square width))
unfolding natural
natural_parts width height = flat_append (rows (width / 8) (height / 8)) (keep (width / 8) (width / height) (square width))

pub flat_length : (l : List Place) → length (flat l) ≡ 2 * length l
flat_length [] = refl
flat_length (p ∷ l) = let r = flat_length l in omega arith

pub natural_numbers : (width height : ℕ) → Size width height → length (flat (natural width height)) ≡ 2 * (width * height)
natural_numbers width height z = flat_length (natural width height) ∙ ap (λ (n : ℕ). 2 * n) (natural_facts width height z).long

pub natural_sum : (width height : ℕ) → Size width height → length (flat (rows (width / 8) (height / 8))) + length (flat (keep (width / 8) (width / height) (square width))) ≡ 2 * (width * height)
natural_sum width height z =
    omega (
      arith,
      natural_numbers width height z,
      ap length (natural_parts width height),
      length-append (flat (rows (width / 8) (height / 8))) (flat (keep (width / 8) (width / height) (square width))),
    )
