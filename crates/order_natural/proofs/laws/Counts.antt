-- Laws: How often a place stands in a run of places, and in lists behind one another.
use Rattle.std.specs.Prelude.{◌≡◌, ℕ, zero, suc, ◌+◌, ◌<◌, ◌≤◌, true, false, List, [], ◌∷◌, ◌++◌, ◌≢◌, refl}
use Rattle.std.proofs.Common.{arith, eq-eqb, ne_eqb}
use Rattle.std.proofs.Math.Decide.{ℕ_discrete}
use Rattle.order_natural.specs.Places.{Place, run, joins, is, count}
use Rattle.order_natural.proofs.laws.Bools.{and_false}
use Rattle.order_natural.specs.Order.{Hit}

pub is_hit : (x y : ℕ) (p : Place) → Hit x y p → is x y p ≡ true
is_hit x y p h = rw (eq-eqb x p.0 h.0, eq-eqb y p.1 h.1)

pub is_miss : (x y : ℕ) (p : Place) → (Hit x y p → ⊥) → is x y p ≡ false
is_miss x y p n = go (ℕ_discrete x p.0) (ℕ_discrete y p.1)
  where
    go : Dec (x ≡ p.0) → Dec (y ≡ p.1) → is x y p ≡ false
    go (no a) e = rw (ne_eqb x p.0 a)
    go (yes a) (no b) = rw (ne_eqb y p.1 b, and_false)
    go (yes a) (yes b) = absurd (n (a, b))

pub count_append : (x y : ℕ) (l m : List Place) → count x y (l ++ m) ≡ count x y l + count x y m
count_append x y [] m = omega arith
count_append x y (p ∷ l) m = omega (arith, count_append x y l m)

module _ (x y : ℕ) (f : ℕ → Place) where
  pub run_none : (n o : ℕ) → ((j : ℕ) → o ≤ j → j < o + n → Hit x y (f j) → ⊥) → count x y (run f n o) ≡ 0
  run_none zero o h = refl
  run_none (suc n) o h =
      rw (is_miss x y (f o) (h o (omega arith) (omega arith)))
      (omega (arith, run_none n (suc o) (λ j a b. h j (omega arith) (omega arith))))

  -- f i is the place, and no other of the run is
  pub run_once : (n o i : ℕ) → o ≤ i → i < o + n → Hit x y (f i) → ((j : ℕ) → o ≤ j → j < o + n → Hit x y (f j) → j ≡ i) → count x y (run f n o) ≡ 1
  run_once zero o i a b k u = absurd (omega arith)
  run_once (suc n) o i a b k u = go (ℕ_discrete o i) (λ c d. run_once n (suc o) i c d k (λ j c d t. u j (omega arith) (omega arith) t))
    where
      go : Dec (o ≡ i) → (suc o ≤ i → i < suc o + n → count x y (run f n (suc o)) ≡ 1) → count x y (run f (suc n) o) ≡ 1
      go (yes e) r =
          rw (is_hit x y (f o) (rw e k))
          (omega (arith, run_none n (suc o) (λ j c d t. let z = u j (omega arith) (omega arith) t in omega arith)))
      go (no e) r = rw (is_miss x y (f o) (λ t. e (u o (omega arith) (omega arith) t))) (omega (arith, r (omega arith) (omega arith)))

module _ (x y : ℕ) (g : ℕ → List Place) where
  pub joins_none : (n o : ℕ) → ((j : ℕ) → o ≤ j → j < o + n → count x y (g j) ≡ 0) → count x y (joins g n o) ≡ 0
  joins_none zero o h = refl
  joins_none (suc n) o h =
      omega (arith, count_append x y (g o) (joins g n (suc o)), h o (omega arith) (omega arith), joins_none n (suc o) (λ j a b. h j (omega arith) (omega arith)))

  -- g i has the place once, and no other list has it
  pub joins_once : (n o i : ℕ) → o ≤ i → i < o + n → count x y (g i) ≡ 1 → ((j : ℕ) → o ≤ j → j < o + n → (j ≢ i) → count x y (g j) ≡ 0) → count x y (joins g n o) ≡ 1
  joins_once zero o i a b k u = absurd (omega arith)
  joins_once (suc n) o i a b k u = go (ℕ_discrete o i) (λ c d. joins_once n (suc o) i c d k (λ j c d t. u j (omega arith) (omega arith) t))
    where
      go : Dec (o ≡ i) → (suc o ≤ i → i < suc o + n → count x y (joins g n (suc o)) ≡ 1) → count x y (joins g (suc n) o) ≡ 1
      go (yes e) r =
          let k' : count x y (g o) ≡ 1 = rw e k in
          omega (arith, count_append x y (g o) (joins g n (suc o)), joins_none n (suc o) (λ j c d. u j (omega arith) (omega arith) (omega arith)))
      go (no e) r = omega (arith, count_append x y (g o) (joins g n (suc o)), u o (omega arith) (omega arith) e, r (omega arith) (omega arith))
