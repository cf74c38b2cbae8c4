-- What follows for a list that has each cell of w × h once: its length, its places, no place twice, each cell found.
use Rattle.std.specs.Prelude.{◌≡◌, ℕ, zero, suc, ◌+◌, ◌*◌, ◌<◌, ◌≤◌, Bool, true, false, cond, ◌&&◌, List, [], ◌∷◌, length, get_or, ◌==◌, nat_lt, slice_index_or, refl}
use Rattle.std.proofs.Common.{ap, sym, ◌∙◌, not-suc-le-zero, le_of_suc-le-suc, mul_comm, arith, eqb-true}
use Rattle.std.proofs.Math.Decide.{dec_lt}
use Rattle.order_natural.specs.Places.{Place, is, tally, count, Lists}
use Rattle.order_natural.specs.Natural.{rows}
use Rattle.order_natural.specs.Order.{Hit}
use Rattle.order_natural.proofs.laws.Counts.{is_hit}
use Rattle.order_natural.proofs.laws.Rows.{inside_yes, inside_no_x, inside_no_y, rows_lists, rows_length}
use Rattle.order_natural.proofs.laws.Bools.{and_left, and_right, tally_one}

pub hit_of : (x y : ℕ) (p : Place) → is x y p ≡ true → Hit x y p
hit_of x y p e = (eqb-true x p.0 (and_left (x == p.0) (y == p.1) e), eqb-true y p.1 (and_right (x == p.0) (y == p.1) e))

-- the list without its first x, y
abbrev strip : ℕ → ℕ → List Place → List Place
strip x y [] = []
strip x y (q ∷ m) = cond (is x y q) m (q ∷ strip x y m)

strip_length : (x y : ℕ) (m : List Place) → 0 < count x y m → suc (length (strip x y m)) ≡ length m
strip_length x y [] h = absurd (not-suc-le-zero h)
strip_length x y (q ∷ m) h = go (is x y q) h (strip_length x y m)
  where
    go : (b : Bool) → 0 < tally b + count x y m → (0 < count x y m → suc (length (strip x y m)) ≡ length m) → suc (length (cond b m (q ∷ strip x y m))) ≡ suc (length m)
    go true h r = refl
    go false h r = ap suc (r (omega arith))

strip_count : (x y a c : ℕ) (m : List Place) → 0 < count x y m → count a c m ≡ tally (is a c (x, y)) + count a c (strip x y m)
strip_count x y a c [] h = absurd (not-suc-le-zero h)
strip_count x y a c (q ∷ m) h = go (is x y q) refl h (strip_count x y a c m)
  where
    go : (b : Bool) → is x y q ≡ b → 0 < tally b + count x y m → (0 < count x y m → count a c m ≡ tally (is a c (x, y)) + count a c (strip x y m))
        → tally (is a c q) + count a c m ≡ tally (is a c (x, y)) + count a c (cond b m (q ∷ strip x y m))
    go true e h r = let k = hit_of x y q e in rw (k.0, k.1)
    go false e h r = omega (arith, r (omega arith))

pub self : (p : Place) (l : List Place) → 0 < count p.0 p.1 (p ∷ l)
self p l = rw (is_hit p.0 p.1 p (refl, refl)) (omega arith)

-- lists that have each place equally often are equally long
pub same_length : (l m : List Place) → ((x y : ℕ) → count x y l ≡ count x y m) → length l ≡ length m
same_length [] [] e = refl
same_length [] (q ∷ m) e = absurd (omega (arith, self q m, e q.0 q.1))
same_length (p ∷ l) m e =
    let h : 0 < count p.0 p.1 m = omega (arith, self p l, e p.0 p.1) in
    ap suc (same_length l (strip p.0 p.1 m) (λ a c. omega (arith, strip_count p.0 p.1 a c m h, e a c)))
    ∙ strip_length p.0 p.1 m h

pub count_at : (l : List Place) (i : ℕ) → i < length l → 0 < count (get_or l i (0, 0)).0 (get_or l i (0, 0)).1 l
count_at [] i h = absurd (not-suc-le-zero h)
count_at (p ∷ l) zero h = self p l
count_at (p ∷ l) (suc i) h = omega (arith, count_at l i (le_of_suc-le-suc h))

pub count_two : (l : List Place) (i j : ℕ) → i < j → j < length l → slice_index_or l i (0, 0) ≡ slice_index_or l j (0, 0) → 1 < count (get_or l i (0, 0)).0 (get_or l i (0, 0)).1 l
count_two [] i j a b e = absurd (not-suc-le-zero b)
count_two (p ∷ l) i zero a b e = absurd (not-suc-le-zero a)
count_two (p ∷ l) zero (suc j) a b e =
    let r = count_at l j (le_of_suc-le-suc b) in
    let r' : 0 < count p.0 p.1 l = rw e r in
    rw (is_hit p.0 p.1 p (refl, refl)) (omega arith)
count_two (p ∷ l) (suc i) (suc j) a b e = omega (arith, count_two l i j (le_of_suc-le-suc a) (le_of_suc-le-suc b) e)

count_found : (x y : ℕ) (l : List Place) → 0 < count x y l → (i : ℕ) × (i < length l) × Hit x y (slice_index_or l i (0, 0))
count_found x y [] h = absurd (not-suc-le-zero h)
count_found x y (p ∷ l) h = go (is x y p) refl h (count_found x y l)
  where
    go : (b : Bool) → is x y p ≡ b → 0 < tally b + count x y l → (0 < count x y l → (i : ℕ) × (i < length l) × Hit x y (slice_index_or l i (0, 0)))
        → (i : ℕ) × (i < suc (length l)) × Hit x y (slice_index_or (p ∷ l) i (0, 0))
    go true e h r = (zero, omega arith, hit_of x y p e)
    go false e h r = let (i, a, k) = r (omega arith) in (suc i, omega arith, k)

pub inside_of : (x y w h : ℕ) → 0 < tally (nat_lt x w && nat_lt y h) → (x < w) × (y < h)
inside_of x y w h t = go (dec_lt x w) (dec_lt y h)
  where
    go : Dec (x < w) → Dec (y < h) → (x < w) × (y < h)
    go (yes a) (yes b) = (a, b)
    go (no a) b = absurd (omega (arith, inside_no_x x y w h (omega arith)))
    go (yes a) (no b) = absurd (omega (arith, inside_no_y x y w h (omega arith)))

module _ (w h : ℕ) (l : List Place) (e : Lists w h l) where
  pub listing_length : length l ≡ w * h
  listing_length = same_length l (rows w h) (λ x y. e x y ∙ sym (rows_lists w h x y)) ∙ rows_length w h ∙ mul_comm h w

  -- every place is inside
  pub listing_inside : (i : ℕ) → i < length l → ((get_or l i (0, 0)).0 < w) × ((get_or l i (0, 0)).1 < h)
  listing_inside i a =
      let x = (get_or l i (0, 0)).0 in
      let y = (get_or l i (0, 0)).1 in
      inside_of x y w h (rw (e x y) at (count_at l i a))

  -- no place stands at two indices
  pub listing_distinct : (i j : ℕ) → i < length l → j < length l → slice_index_or l i (0, 0) ≡ slice_index_or l j (0, 0) → i ≡ j
  listing_distinct i j a b k = go (dec_lt i j) (dec_lt j i)
    where
      most : (x y : ℕ) → count x y l ≤ 1
      most x y = rw (e x y) (tally_one (nat_lt x w && nat_lt y h))

      go : Dec (i < j) → Dec (j < i) → i ≡ j
      go (yes c) d = absurd (omega (arith, count_two l i j c b k, most (get_or l i (0, 0)).0 (get_or l i (0, 0)).1))
      go (no c) (yes d) = absurd (omega (arith, count_two l j i d a (sym k), most (get_or l j (0, 0)).0 (get_or l j (0, 0)).1))
      go (no c) (no d) = omega arith

  -- each cell stands at an index
  pub listing_found : (x y : ℕ) → x < w → y < h → (i : ℕ) × (i < length l) × Hit x y (slice_index_or l i (0, 0))
  listing_found x y a b = count_found x y l (omega (arith, e x y, inside_yes x y w h a b))
