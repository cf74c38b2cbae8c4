-- Diagonals in closed form: what is kept of them is a place for each row that is a multiple of s, outside the corner.
use Rattle.std.specs.Prelude.{◌≡◌, ℕ, zero, suc, ◌+◌, ◌-◌, ◌*◌, ◌/◌, ◌%◌, ◌<◌, ◌≤◌, Bool, true, false, cond, not, ◌&&◌, ◌⊎◌, List, [], ◌∷◌, ◌++◌, length, ◌==◌, nat_eq, nat_lt}
use Rattle.std.proofs.Math.Path.{refl, ap}
use Rattle.std.proofs.Common.{ap₂, sym, ◌∙◌, inl, inr, div-add-mod', suc-mul, le_of_mul-le-mul_right, lt_of_mul-lt-mul_right, mul-le-mul_right, add-one, length-append, eqb-true, eq-eqb, ne_eqb, lt-ltb, le-ltb}
use Rattle.std.proofs.Math.Nat.{zero-mul, mul-mod_left, div-eq_of_lt-le}
use native.Mathlib.Omega.{arith}
use Rattle.std.proofs.lemmas.Bool.{eqb-false}
use Rattle.laws.specs.laws.Cases.{le_or_lt}
use Rattle.order_natural.specs.Places.{Place, run, flat}
use Rattle.order_natural.specs.Natural.{on_diagonal, diagonal, listed, keep}
use Rattle.order_natural.proofs.laws.Turns.{keep_append, flat_append}
use Rattle.order_natural.specs.laws.Slants.{multiples, ups, downs, near, Near, Slant}

pub ups_long : (t s n q : ℕ) → length (flat (ups t s n q)) ≡ 2 * n
unfolding ups
ups_long t s zero q = refl
ups_long t s (suc n) q = omega (arith, ups_long t s n (suc q))

pub downs_long : (t s n q : ℕ) → length (flat (downs t s n q)) ≡ 2 * n
unfolding downs
downs_long t s zero q = refl
downs_long t s (suc n) q = omega (arith, downs_long t s n (q - 1))

module _ (s : ℕ) (some : 0 < s) where
  -- the only multiple of s from u to u + s, if u is one
  at_multiple : (u m : ℕ) → u % s ≡ 0 → u ≤ m * s → m * s < u + s → m ≡ u / s
  at_multiple u m z a b =
      let d = div-add-mod' u s in
      let lo : u / s ≤ m = le_of_mul-le-mul_right {m = u / s} {n = m} {k = s} (omega arith) some in
      let hi : m < suc (u / s) = lt_of_mul-lt-mul_right s {m = m} {n = suc (u / s)} (omega (arith, suc-mul (u / s) s)) in
      omega arith

  bounds : (u : ℕ) → (u ≤ multiples s u * s) × (multiples s u * s < u + s)
  unfolding multiples
  bounds zero = let z = zero-mul s in (omega arith, omega arith)
  bounds (suc u) = go (u % s == 0) refl (bounds u)
    where
      m : ℕ
      m = multiples s u

      go : (b : Bool) → (u % s == 0) ≡ b → (u ≤ m * s) × (m * s < u + s) → (suc u ≤ cond b (suc m) m * s) × (cond b (suc m) m * s < suc u + s)
      go true e h =
          let z : u % s ≡ 0 = eqb-true (u % s) 0 e in
          let k : m ≡ u / s = at_multiple u m z h.0 h.1 in
          let v : m * s ≡ u / s * s = ap (λ (n : ℕ). n * s) k in
          let d = div-add-mod' u s in
          let x = suc-mul m s in
          (omega (arith, h.0, h.1), omega (arith, h.0, h.1))
      go false e h = go' (le_or_lt (m * s) u)
        where
          go' : (m * s ≤ u) ⊎ (u < m * s) → (suc u ≤ m * s) × (m * s < suc u + s)
          go' (inl k) =
              let v : m * s ≡ u = omega (arith, h.0) in
              absurd (eqb-false (u % s) 0 e (ap (λ (n : ℕ). n % s) (sym v) ∙ mul-mod_left m s))
          go' (inr k) = (k, omega (arith, h.1))

  pub multiple_at : (u : ℕ) → u % s ≡ 0 → (multiples s u ≡ u / s) × (multiples s u * s ≡ u)
  multiple_at u z =
      let k = at_multiple u (multiples s u) z (bounds u).0 (bounds u).1 in
      let v : multiples s u * s ≡ u / s * s = ap (λ (n : ℕ). n * s) k in
      let d = div-add-mod' u s in
      (k, omega arith)

  pub multiples_div : (u : ℕ) → (u + (s - 1)) / s ≡ multiples s u
  multiples_div u =
      let m = multiples s u in
      let k : (m + 1) * s ≡ m * s + s = ap (λ (n : ℕ). n * s) (add-one m) ∙ suc-mul m s in
      div-eq_of_lt-le {k = m} s {m = u + (s - 1)} (omega (arith, (bounds u).1)) (omega (arith, (bounds u).0))

  pub multiples_below : (q u : ℕ) → q < multiples s u → q * s < u
  multiples_below q u h = omega (arith, suc-mul q s, mul-le-mul_right {m = suc q} {n = multiples s u} s h, (bounds u).1)

none_below : (s : ℕ) → multiples s 0 ≡ 0
unfolding multiples
none_below s = refl

pub multiples_most : (s u : ℕ) → multiples s u ≤ u
unfolding multiples
multiples_most s zero = omega arith
multiples_most s (suc u) = go (u % s == 0) (multiples_most s u)
  where
    go : (b : Bool) → multiples s u ≤ u → cond b (suc (multiples s u)) (multiples s u) ≤ suc u
    go true h = omega arith
    go false h = omega arith

pub multiples_more : (s n u : ℕ) → multiples s u ≤ multiples s (u + n)
unfolding multiples
multiples_more s zero u = let e : u + 0 ≡ u = omega arith in rw e (omega arith)
multiples_more s (suc n) u = let e : u + suc n ≡ suc (u + n) = omega arith in rw e (go ((u + n) % s == 0) (multiples_more s n u))
  where
    go : (b : Bool) → multiples s u ≤ multiples s (u + n) → multiples s u ≤ cond b (suc (multiples s (u + n))) (multiples s (u + n))
    go true h = omega arith
    go false h = h

-- x or y not below w
abbrev Outside : ℕ → ℕ → ℕ → Type 0
Outside w x y = (w ≤ x) ⊎ (w ≤ y)

listed_outside : (w s x y : ℕ) → Outside w x y → listed w s (x, y) ≡ (y % s == 0)
listed_outside w s x y (inl h) = rw (le-ltb x w h)
listed_outside w s x y (inr h) = rw (le-ltb y w h) (go (nat_lt x w))
  where
    go : (b : Bool) → (not (b && false) && y % s == 0) ≡ (y % s == 0)
    go true = refl
    go false = refl

listed_inside : (w s x y : ℕ) → x < w → y < w → listed w s (x, y) ≡ false
listed_inside w s x y h k = rw (lt-ltb x w h, lt-ltb y w k)

module _ (w s t : ℕ) (some : 0 < s) where
  up_kept : (n o : ℕ) → o + n ≤ t + 1 → ((y : ℕ) → o ≤ y → y < o + n → Outside w (t - y) y) → keep w s (run (λ o. (t - o, o)) n o) ≡ ups t s (multiples s (o + n) - multiples s o) (multiples s o)
  unfolding multiples ups
  up_kept zero o h f =
      let e : o + 0 ≡ o = omega arith in
      let z : multiples s o - multiples s o ≡ 0 = omega arith in
      rw (e, z)
  up_kept (suc n) o h f =
      let e : o + suc n ≡ suc o + n = omega arith in
      rw (e, listed_outside w s (t - o) o (f o (omega arith) (omega arith)))
      (go (o % s == 0) refl (up_kept n (suc o) (omega arith) (λ y a b. f y (omega arith) (omega arith))) (multiples_more s n (suc o)))
    where
      m : ℕ
      m = multiples s o

      go : (b : Bool) → (o % s == 0) ≡ b → keep w s (run (λ o. (t - o, o)) n (suc o)) ≡ ups t s (multiples s (suc o + n) - cond b (suc m) m) (cond b (suc m) m) → cond b (suc m) m ≤ multiples s (suc o + n)
          → cond b ((t - o, o / s) ∷ keep w s (run (λ o. (t - o, o)) n (suc o))) (keep w s (run (λ o. (t - o, o)) n (suc o))) ≡ ups t s (multiples s (suc o + n) - m) m
      go true e i l =
          let k = multiple_at s some o (eqb-true (o % s) 0 e) in
          let z : multiples s (suc o + n) - m ≡ suc (multiples s (suc o + n) - suc m) = omega arith in
          rw (z, i, k.1, k.0)
      go false e i l = i

  down_cell : (o y : ℕ) (l : List Place) → t - o ≡ y → Outside w o y → keep w s ((o, t - o) ∷ l) ≡ cond (y % s == 0) ((o, y / s) ∷ keep w s l) (keep w s l)
  down_cell o y l e h = rw (e, listed_outside w s o y h)

  -- of the rows from m to m + n, from above
  down_kept : (n m : ℕ) → m + n ≤ t + 1 → ((y : ℕ) → m ≤ y → y < m + n → Outside w (t - y) y)
      → keep w s (run (λ o. (o, t - o)) n (t + 1 - (m + n))) ≡ downs t s (multiples s (m + n) - multiples s m) (multiples s (m + n))
  unfolding multiples downs
  down_kept zero m h f =
      let e : m + 0 ≡ m = omega arith in
      let z : multiples s m - multiples s m ≡ 0 = omega arith in
      rw (e, z)
  down_kept (suc n) m h f =
      let e : m + suc n ≡ suc (m + n) = omega arith in
      let x : t + 1 - (m + suc n) ≡ t - (m + n) = omega arith in
      let x' : suc (t - (m + n)) ≡ t + 1 - (m + n) = omega arith in
      ap (λ (o : ℕ). keep w s (run (λ o. (o, t - o)) (suc n) o)) x
      ∙ down_cell (t - (m + n)) (m + n) (run (λ o. (o, t - o)) n (suc (t - (m + n)))) (omega arith) (f (m + n) (omega arith) (omega arith))
      ∙ rw (e, x') (go ((m + n) % s == 0) refl (down_kept n m (omega arith) (λ y a b. f y a (omega arith))) (multiples_more s n m))
    where
      y : ℕ
      y = m + n

      r : List Place
      r = keep w s (run (λ o. (o, t - o)) n (t + 1 - y))

      k : ℕ
      k = multiples s y

      go : (b : Bool) → (y % s == 0) ≡ b → r ≡ downs t s (k - multiples s m) k → multiples s m ≤ k
          → cond b ((t - y, y / s) ∷ r) r ≡ downs t s (cond b (suc k) k - multiples s m) (cond b (suc k) k)
      go true e i l =
          let v = multiple_at s some y (eqb-true (y % s) 0 e) in
          let z : suc k - multiples s m ≡ suc (k - multiples s m) = omega arith in
          let o : suc k - 1 ≡ k = omega arith in
          rw (z, o, i, v.1, v.0)
      go false e i l = i

-- nothing is kept of cells in the corner
inside_none : (w s : ℕ) (f : ℕ → Place) (n o : ℕ) → ((i : ℕ) → o ≤ i → i < o + n → ((f i).0 < w) × ((f i).1 < w)) → keep w s (run f n o) ≡ []
inside_none w s f zero o h = refl
inside_none w s f (suc n) o h =
    let k = h o (omega arith) (omega arith) in
    rw (listed_inside w s (f o).0 (f o).1 k.0 k.1) (inside_none w s f n (suc o) (λ i a b. h i (omega arith) (omega arith)))

run_append : (f : ℕ → Place) (n m o : ℕ) → run f (n + m) o ≡ run f n o ++ run f m (o + n)
run_append f zero m o =
    let e : 0 + m ≡ m = omega arith in
    let z : o + 0 ≡ o = omega arith in
    rw (e, z)
run_append f (suc n) m o =
    let e : suc n + m ≡ suc (n + m) = omega arith in
    let z : o + suc n ≡ suc o + n = omega arith in
    rw (e, z) (ap (λ (l : List Place). f o ∷ l) (run_append f n m (suc o)))

-- three runs of which the middle one lies in the corner
around : (w s : ℕ) (f : ℕ → Place) (a c : ℕ) → ((i : ℕ) → a ≤ i → i < a + c → ((f i).0 < w) × ((f i).1 < w)) → keep w s (run f (a + (c + a)) 0) ≡ keep w s (run f a 0) ++ keep w s (run f a (a + c))
around w s f a c h =
    let z : 0 + a ≡ a = omega arith in
    let p : run f (a + (c + a)) 0 ≡ run f a 0 ++ (run f c a ++ run f a (a + c)) = run_append f a (c + a) 0 ∙ rw z (ap (λ (l : List Place). run f a 0 ++ l) (run_append f c a a)) in
    ap (keep w s) p
    ∙ keep_append w s (run f a 0) (run f c a ++ run f a (a + c))
    ∙ ap (λ (l : List Place). keep w s (run f a 0) ++ l) (keep_append w s (run f c a) (run f a (a + c)) ∙ ap (λ (l : List Place). l ++ keep w s (run f a (a + c))) (inside_none w s f c a h))

-- a cell by the direction of its diagonal
abbrev way : Bool → ℕ → ℕ → Place
way t d o = cond t (o, d - 1 - o) (d - 1 - o, o)

module _ (w s b d : ℕ) (some : 0 < s) (in_b : 2 * w ≤ b) where
  whole : d < 2 * w → diagonal b d ≡ run (on_diagonal d) d 0
  whole h =
      let z : d - b ≡ 0 = omega arith in
      let y : d - 0 - 0 ≡ d = omega arith in
      rw (z, y)

  cell_in : (t : Bool) → d ≤ w → (i : ℕ) → 0 ≤ i → i < 0 + d → ((way t d i).0 < w) × ((way t d i).1 < w)
  cell_in true h i a c = (omega arith, omega arith)
  cell_in false h i a c = (omega arith, omega arith)

  -- a short one lies in the corner
  pub short_none : 0 < w → d ≤ w → flat (keep w s (diagonal b d)) ≡ []
  short_none v h = ap (λ (l : List Place). flat (keep w s l)) (whole (omega arith)) ∙ ap flat (inside_none w s (on_diagonal d) d 0 (cell_in (d % 2 == 1) h))

  module _ (long : w < d) (short : d < 2 * w) where
    sides : d - w + (2 * w - d + (d - w)) ≡ d
    sides = omega arith

    middle_in : (t : Bool) (i : ℕ) → d - w ≤ i → i < d - w + (2 * w - d) → ((way t d i).0 < w) × ((way t d i).1 < w)
    middle_in true i a c = (omega arith, omega arith)
    middle_in false i a c = (omega arith, omega arith)

    by_way : (t : Bool) → keep w s (run (way t d) d 0)
        ≡ cond t (downs (d - 1) s (multiples s d - multiples s w) (multiples s d) ++ downs (d - 1) s (multiples s (d - w)) (multiples s (d - w))) (ups (d - 1) s (multiples s (d - w)) 0 ++ ups (d - 1) s (multiples s d - multiples s w) (multiples s w))
    by_way true =
        let f : ℕ → Place = λ o. (o, d - 1 - o) in
        let a = d - w in
        let o₁ : d - 1 + 1 - (w + a) ≡ 0 = omega arith in
        let u₁ : w + a ≡ d = omega arith in
        let o₂ : d - 1 + 1 - (0 + a) ≡ a + (2 * w - d) = omega arith in
        let u₂ : 0 + a ≡ a = omega arith in
        let n₂ : multiples s a - 0 ≡ multiples s a = omega arith in
        let one : keep w s (run f a 0) ≡ downs (d - 1) s (multiples s d - multiples s w) (multiples s d) = rw (o₁, u₁) at (down_kept w s (d - 1) some a w (omega arith) (λ y g h. inr g)) in
        let two : keep w s (run f a (a + (2 * w - d))) ≡ downs (d - 1) s (multiples s a) (multiples s a) = rw (o₂, u₂, none_below s, n₂) at (down_kept w s (d - 1) some a 0 (omega arith) (λ y g h. inl (omega arith))) in
        ap (λ (n : ℕ). keep w s (run f n 0)) (sym sides) ∙ around w s f a (2 * w - d) (middle_in true) ∙ ap₂ (λ (l m : List Place). l ++ m) one two
    by_way false =
        let f : ℕ → Place = λ o. (d - 1 - o, o) in
        let a = d - w in
        let u₁ : 0 + a ≡ a = omega arith in
        let n₁ : multiples s a - 0 ≡ multiples s a = omega arith in
        let o₂ : w ≡ a + (2 * w - d) = omega arith in
        let u₂ : w + a ≡ d = omega arith in
        let one : keep w s (run f a 0) ≡ ups (d - 1) s (multiples s a) 0 = rw (u₁, none_below s, n₁) at (up_kept w s (d - 1) some a 0 (omega arith) (λ y g h. inl (omega arith))) in
        let two : keep w s (run f a w) ≡ ups (d - 1) s (multiples s d - multiples s w) (multiples s w) = rw u₂ at (up_kept w s (d - 1) some a w (omega arith) (λ y g h. inr g)) in
        ap (λ (n : ℕ). keep w s (run f n 0)) (sym sides) ∙ around w s f a (2 * w - d) (middle_in false) ∙ ap₂ (λ (l m : List Place). l ++ m) one (ap (λ (o : ℕ). keep w s (run f a o)) (sym o₂) ∙ two)

    pub near_kept : flat (keep w s (diagonal b d)) ≡ flat (near w s d)
    unfolding near
    near_kept = ap (λ (l : List Place). flat (keep w s l)) (whole short) ∙ ap flat (by_way (d % 2 == 1))

near_long : (w s d : ℕ) → length (flat (near w s d)) ≡ 2 * (multiples s d - multiples s w) + 2 * multiples s (d - w)
unfolding near
near_long w s d = go (d % 2 == 1)
  where
    n : ℕ
    n = multiples s d - multiples s w

    m : ℕ
    m = multiples s (d - w)

    go : (b : Bool) → length (flat (cond b (downs (d - 1) s n (multiples s d) ++ downs (d - 1) s m m) (ups (d - 1) s m 0 ++ ups (d - 1) s n (multiples s w)))) ≡ 2 * n + 2 * m
    go true = rw (flat_append, length-append, downs_long, downs_long)
    go false = rw (flat_append, length-append, ups_long, ups_long) (omega arith)

pub near_at : (w s d rest lo hi : ℕ) → 0 < s → 0 < d → w ≤ d → rest ≡ multiples s (d - w) → lo ≡ multiples s w → hi ≡ multiples s d → Near w s d rest lo hi
unfolding near
near_at w s d rest lo hi some d-some inside er el eh =
    let t = d - 1 in
    let u : w + (d - w) ≡ d = omega arith in
    rw (er, el, eh)
    record {
      few = rw u at (multiples_more s (d - w) w);
      most = multiples_most s d;
      less = omega (arith, multiples_most s (d - w));
      rows = λ q h. omega (arith, multiples_below s some q d h);
      rows_left = λ q h. omega (arith, multiples_below s some q (d - w) h);
      long = near_long w s d;
      down = λ e. rw (eq-eqb (d % 2) 1 e) (flat_append (downs t s (multiples s d - multiples s w) (multiples s d)) (downs t s (multiples s (d - w)) (multiples s (d - w))));
      up = λ e. rw (ne_eqb (d % 2) 1 e) (flat_append (ups t s (multiples s (d - w)) 0) (ups t s (multiples s d - multiples s w) (multiples s w)));
    }

-- a diagonal behind the corner, by its direction
module _ (w s b d : ℕ) (some : 0 < s) (d-some : 0 < d) (inside : d ≤ 2 * b) (far : 2 * w ≤ d) where
  abbrev lowest : ℕ
  lowest = multiples s (d - b)

  abbrev highest : ℕ
  highest = multiples s (d - (d - b))

  outside : (y : ℕ) → y < d → Outside w (d - 1 - y) y
  outside y h = go (le_or_lt w y)
    where
      go : (w ≤ y) ⊎ (y < w) → Outside w (d - 1 - y) y
      go (inl k) = inr k
      go (inr k) = inl (omega arith)

  odd_kept : nat_eq (d % 2) 1 ≡ true → keep w s (diagonal b d) ≡ downs (d - 1) s (highest - lowest) highest
  odd_kept e =
      let m = d - b in
      let n = d - m - m in
      let u : m + n ≡ d - m = omega arith in
      let o : d - 1 + 1 - (m + n) ≡ m = omega arith in
      ap (λ (t : Bool). keep w s (run (way t d) n m)) e ∙ rw (o, u) at (down_kept w s (d - 1) some n m (omega arith) (λ y g h. outside y (omega arith)))

  even_kept : nat_eq (d % 2) 1 ≡ false → keep w s (diagonal b d) ≡ ups (d - 1) s (highest - lowest) lowest
  even_kept e =
      let m = d - b in
      let n = d - m - m in
      let u : m + n ≡ d - m = omega arith in
      ap (λ (t : Bool). keep w s (run (way t d) n m)) e ∙ rw u at (up_kept w s (d - 1) some n m (omega arith) (λ y g h. outside y (omega arith)))

  lowest_most : lowest ≤ highest
  lowest_most =
      let m = d - b in
      let u : m + (d - m - m) ≡ d - m = omega arith in
      rw u at (multiples_more s (d - m - m) m)

  highest_most : highest ≤ d
  highest_most = omega (arith, multiples_most s (d - (d - b)))

  slant_long : length (flat (keep w s (diagonal b d))) ≡ 2 * (highest - lowest)
  slant_long = go (d % 2 == 1) refl
    where
      go : (t : Bool) → (d % 2 == 1) ≡ t → length (flat (keep w s (diagonal b d))) ≡ 2 * (highest - lowest)
      go true e = rw (odd_kept e) (downs_long (d - 1) s (highest - lowest) highest)
      go false e = rw (even_kept e) (ups_long (d - 1) s (highest - lowest) lowest)

  row_below : (q : ℕ) → q < highest → q * s ≤ d - 1
  row_below q h = omega (arith, multiples_below s some q (d - (d - b)) h)

pub slant : (w s b d m lo hi : ℕ) → 0 < s → 0 < d → d ≤ 2 * b → 2 * w ≤ d → m ≡ d - b → lo ≡ multiples s m → hi ≡ multiples s (d - m) → Slant w s b d lo hi
slant w s b d m lo hi some d-some inside far em el eh =
    let l : lo ≡ multiples s (d - b) = el ∙ ap (multiples s) em in
    let h : hi ≡ multiples s (d - (d - b)) = eh ∙ ap (λ (n : ℕ). multiples s (d - n)) em in
    rw (l, h)
    record {
      few = lowest_most w s b d some d-some inside far;
      most = highest_most w s b d some d-some inside far;
      rows = row_below w s b d some d-some inside far;
      long = slant_long w s b d some d-some inside far;
      down = λ e. ap flat (odd_kept w s b d some d-some inside far (eq-eqb (d % 2) 1 e));
      up = λ e. ap flat (even_kept w s b d some d-some inside far (ne_eqb (d % 2) 1 e));
    }

-- one more place
pub ups_turn : (t s n q j : ℕ) → j < n → flat (ups t s (n - j) q) ≡ ((t - q * s) ∷ q ∷ []) ++ flat (ups t s (n - (j + 1)) (q + 1))
unfolding ups
ups_turn t s n q j h = let e : n - j ≡ suc (n - (j + 1)) = omega arith in rw (e, add-one q)

pub ups_end : (t s n q j : ℕ) → n ≤ j → flat (ups t s (n - j) q) ≡ []
unfolding ups
ups_end t s n q j h = let e : n - j ≡ 0 = omega arith in rw e

pub downs_turn : (t s n q j : ℕ) → j < n → flat (downs t s (n - j) q) ≡ ((t - (q - 1) * s) ∷ (q - 1) ∷ []) ++ flat (downs t s (n - (j + 1)) (q - 1))
unfolding downs
downs_turn t s n q j h = let e : n - j ≡ suc (n - (j + 1)) = omega arith in rw e

pub downs_end : (t s n q j : ℕ) → n ≤ j → flat (downs t s (n - j) q) ≡ []
unfolding downs
downs_end t s n q j h = let e : n - j ≡ 0 = omega arith in rw e

-- a row further
pub next_row : (q s : ℕ) → (q + 1) * s ≡ q * s + s
next_row q s = rw (add-one q) (suc-mul q s)
