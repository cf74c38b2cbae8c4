-- Laws: What the check of stored places says of each place (document 01, Refused, 13).
use Rattle.std.specs.Prelude.{◌≡◌, refl, Bool, true, false, ◌&&◌, List, [], ◌∷◌, ℕ, zero, suc, ◌+◌, ◌*◌, ◌/◌, ◌%◌, ◌<◌, ◌≤◌, eqb, ltb, length, take, drop}
use Rattle.std.proofs.Common.{sym, ◌∙◌, arith, length-drop, length-take-le, lt-ltb, eq-eqb, eqb-true, ltb-true}
use Rattle.std.proofs.lemmas.Bool.{eqb-false}
use Rattle.order_sizes.specs.BlockSizes.{width_of, height_of}
use Rattle.order_natural.proofs.laws.Bools.{and_left, and_right}
use Rattle.order_store.specs.Store.{PLACES, stretch, inside_all, places_fit, first_of}
use Rattle.order_store.specs.laws.Offsets.{first_step, first_most, places_by}
use Rattle.order_places.specs.laws.Checking.{fit_from, fit_start, fit_next, fit_end}
use Rattle.order_places.specs.Places.{Inside}

inside_of : (w h n : ℕ) (l : List ℕ) → length l ≡ 2 * n → inside_all w h l ≡ true → Inside w h n l
inside_of w h n [] e t i b = absurd (omega arith)
inside_of w h n (x ∷ []) e t i b = absurd (omega arith)
inside_of w h n (x ∷ y ∷ r) e t zero b =
    let u = and_right (ltb x w) (ltb y h && inside_all w h r) t in
    (ltb-true x w (and_left (ltb x w) (ltb y h && inside_all w h r) t), ltb-true y h (and_left (ltb y h) (inside_all w h r) u))
inside_of w h n (x ∷ y ∷ r) e t (suc i) b =
    let u = and_right (ltb x w) (ltb y h && inside_all w h r) t in
    let v : 2 * suc i ≡ suc (suc (2 * i)) = omega arith in
    let a : suc (suc (2 * i)) + 1 ≡ suc (suc (2 * i + 1)) = omega arith in
    rw (v, a) (inside_of w h (length r / 2) r (omega arith) (and_right (ltb y h) (inside_all w h r) u) i (omega arith))

of_inside : (w h n : ℕ) (l : List ℕ) → length l ≡ 2 * n → Inside w h n l → inside_all w h l ≡ true
of_inside w h n [] e f = refl
of_inside w h n (x ∷ []) e f = refl
of_inside w h n (x ∷ y ∷ r) e f =
    let a = f 0 (omega arith) in
    rw (lt-ltb x w a.0, lt-ltb y h a.1) (of_inside w h (length r / 2) r (omega arith) (λ i b. let v : 2 * suc i ≡ suc (suc (2 * i)) = omega arith in let c : suc (suc (2 * i)) + 1 ≡ suc (suc (2 * i + 1)) = omega arith in rw (v, c) at (f (suc i) (omega arith))))

-- the list of an order and a channel of a whole store
pub stretch_whole : (store : List ℕ) (k c : ℕ) → length store ≡ 2 * PLACES → k < 13 → c < 3 → stretch store k c ≡ take (2 * (width_of k * height_of k)) (drop (first_of (3 * k + c)) store)
unfolding stretch first_of
stretch_whole store k c n h l = rw (lt-ltb k 13 h, lt-ltb c 3 l, eq-eqb (length store) (2 * PLACES) n)

module _ (store : List ℕ) (n : length store ≡ 2 * PLACES) where
  -- list i of 39
  abbrev list_at : ℕ → List ℕ
  list_at i = take (2 * (width_of (i / 3) * height_of (i / 3))) (drop (first_of i) store)

  list_long : (i : ℕ) → i < 39 → length (list_at i) ≡ 2 * (width_of (i / 3) * height_of (i / 3))
  list_long i h = length-take-le (2 * (width_of (i / 3) * height_of (i / 3))) (drop (first_of i) store) (omega (arith, length-drop (first_of i) store, first_step i h, first_most (i + 1) (omega arith), places_by))

  -- each list that passes, from list i on
  passes : (j i : ℕ) → i + j ≡ 39 → fit_from store i ≡ true → (m : ℕ) → i ≤ m → m < 39 → inside_all (width_of (m / 3)) (height_of (m / 3)) (list_at m) ≡ true
  passes zero i e t m a b = absurd (omega arith)
  passes (suc j) i e t m a b =
      let u = sym (fit_next store i (omega arith)) ∙ t in
      let one = inside_all (width_of (i / 3)) (height_of (i / 3)) (list_at i) in
      go (eqb i m) refl (and_left one (fit_from store (i + 1)) u) (λ c. passes j (i + 1) (omega arith) (and_right one (fit_from store (i + 1)) u) m c b)
    where
      go : (q : Bool) → eqb i m ≡ q → inside_all (width_of (i / 3)) (height_of (i / 3)) (list_at i) ≡ true
          → (i + 1 ≤ m → inside_all (width_of (m / 3)) (height_of (m / 3)) (list_at m) ≡ true) → inside_all (width_of (m / 3)) (height_of (m / 3)) (list_at m) ≡ true
      go true f p r = let x = eqb-true i m f in rw (← x) p
      go false f p r = r (let x = eqb-false i m f in omega arith)

  build : (j i : ℕ) → i + j ≡ 39 → ((m : ℕ) → i ≤ m → m < 39 → inside_all (width_of (m / 3)) (height_of (m / 3)) (list_at m) ≡ true) → fit_from store i ≡ true
  build zero i e f = fit_end store i (omega arith)
  build (suc j) i e f = fit_next store i (omega arith) ∙ rw (f i (omega arith) (omega arith)) (build j (i + 1) (omega arith) (λ m a b. f m (omega arith) b))

  third_of : (k c : ℕ) → c < 3 → (3 * k + c) / 3 ≡ k
  third_of k c l = omega arith

  -- it passes exactly if in each of the 39 lists each place is inside its order's size
  pub fits_at : places_fit store ≡ true → (k c : ℕ) → k < 13 → c < 3 → Inside (width_of k) (height_of k) (width_of k * height_of k) (stretch store k c)
  fits_at t k c h l =
      let m = 3 * k + c in
      let p = passes 39 0 (omega arith) (fit_start store (n ∙ places_by) ∙ t) m (omega arith) (omega arith) in
      rw (stretch_whole store k c n h l) (inside_of (width_of k) (height_of k) (width_of k * height_of k) (take (2 * (width_of k * height_of k)) (drop (first_of m) store)) (rw (third_of k c l) at (list_long m (omega arith))) (rw (third_of k c l) at p))

  pub at_fits : ((k c : ℕ) → k < 13 → c < 3 → Inside (width_of k) (height_of k) (width_of k * height_of k) (stretch store k c)) → places_fit store ≡ true
  at_fits f =
      sym (fit_start store (n ∙ places_by))
      ∙ build 39 0 (omega arith)
      (λ m a b.
      let k = m / 3 in
      let c = m % 3 in
      let e : 3 * k + c ≡ m = omega arith in
      let s : stretch store k c ≡ list_at m = stretch_whole store k c n (omega arith) (omega arith) ∙ rw e in
      of_inside (width_of k) (height_of k) (width_of k * height_of k) (list_at m) (list_long m b) (rw s at (f k c (omega arith) (omega arith))))
