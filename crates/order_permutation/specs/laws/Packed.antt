-- Places below 256 × 256 as one number each.
use Rattle.std.specs.Prelude.{◌≡◌, refl, true, ltb, take}
use Rattle.std.proofs.Math.Path.{ap, sym}
use Rattle.std.proofs.Common.{◌∙◌, not-suc-le-zero, drop_of_length-le, take-take, ltb-true}
use mathlib.Core.List.{List, [], ◌∷◌, map}
use Prim.Native.Nat.{ℕ, zero, suc, ◌+◌, ◌*◌, ◌-◌, ◌/◌, ◌%◌, ◌<◌, ◌≤◌}
use native.Mathlib.Omega.{arith}
use Rattle.std.proofs.Math.ListN.{length, get_or, drop, set, length-set}
use Rattle.std.proofs.Math.Seq.{drop-cons, take-set-le, drop-set-lt, get_or-take, get_or-set_other, get_or-set_same, length-take-le}
use Rattle.order_natural.specs.Places.{Place, flat, paired}
use Rattle.order_natural.proofs.laws.Bools.{and_left, and_right}
use Rattle.order_permutation.specs.laws.Permuted.{all_below}
use Rattle.order_natural.proofs.laws.Flat.{paired_length}

abbrev pub code : Place → ℕ
code p = p.0 + 256 * p.1

abbrev pub decode : ℕ → Place
decode v = (v % 256, v / 256)

unfoldable pub packed : List Place → List ℕ
packed l = map code l

unfoldable pub unpacked : List ℕ → List Place
unpacked l = map decode l

-- numbers below n, one by one
pub below_at : (n : ℕ) (l : List ℕ) (i : ℕ) → all_below n l ≡ true → i < length l → get_or l i 0 < n
unfolding all_below
below_at n [] i t h = absurd (not-suc-le-zero h)
below_at n (x ∷ l) zero t h = ltb-true x n (and_left (ltb x n) (all_below n l) t)
below_at n (x ∷ l) (suc i) t h = below_at n l i (and_right (ltb x n) (all_below n l) t) (omega arith)

drop_set : (l : List ℕ) (n v : ℕ) → n < length l → drop n (set l n v) ≡ v ∷ drop (suc n) l
drop_set [] n v h = absurd (not-suc-le-zero h)
drop_set (x ∷ l) zero v h = refl
drop_set (x ∷ l) (suc n) v h = drop_set l n v (omega arith)

-- the i-th place of a stored list
paired_at : (l : List ℕ) (n i : ℕ) → length l ≡ 2 * n → i < n → get_or (paired l) i (0, 0) ≡ (get_or l (2 * i) 0, get_or l (2 * i + 1) 0)
unfolding paired
paired_at [] n i e h = absurd (omega arith)
paired_at (x ∷ []) n i e h = absurd (omega arith)
paired_at (x ∷ y ∷ r) n zero e h = refl
paired_at (x ∷ y ∷ r) n (suc i) e h =
    let v : 2 * suc i ≡ suc (suc (2 * i)) = omega arith in
    let w : suc (suc (2 * i)) + 1 ≡ suc (suc (2 * i + 1)) = omega arith in
    rw (v, w) (paired_at r (n - 1) i (omega arith) (omega arith))

-- what an unread front still says
same_at : (l l₀ : List ℕ) (n i : ℕ) → take n l ≡ take n l₀ → i < n → get_or l i 0 ≡ get_or l₀ i 0
same_at l l₀ n i e h = sym (get_or-take n l i 0 h) ∙ ap (λ (k : List ℕ). get_or k i 0) e ∙ get_or-take n l₀ i 0 h

shorter : (l l₀ : List ℕ) (n k : ℕ) → k ≤ n → take n l ≡ take n l₀ → take k l ≡ take k l₀
shorter l l₀ n k h e = sym (take-take k n l h) ∙ ap (take k) e ∙ take-take k n l₀ h

-- places from i on are packed, those before are unread
pub record Packing (l₀ l : List ℕ) (size i : ℕ) : Type 0 where
  pub fewer : i ≤ size
  pub long : length l ≡ 2 * size
  pub unread : take (2 * i) l ≡ take (2 * i) l₀
  pub done : drop (size + i) l ≡ packed (drop i (paired l₀))

pub pack_start : (l : List ℕ) (size : ℕ) → length l ≡ 2 * size → Packing l l size size
unfolding packed
pack_start l size e =
    let a : length l ≤ size + size = omega arith in
    let b : length (paired l) ≤ size = omega (arith, paired_length l size e) in
    record { fewer = omega arith; long = e; unread = refl; done = rw (drop_of_length-le l a, drop_of_length-le (paired l) b) }

module _ (l₀ l : List ℕ) (size i : ℕ) (p : Packing l₀ l size i) (e : length l₀ ≡ 2 * size) (h : 0 < i) where
  pub pack_x : get_or l (2 * (i - 1)) 0 ≡ get_or l₀ (2 * (i - 1)) 0
  pack_x = same_at l l₀ (2 * i) (2 * (i - 1)) p.unread (omega arith)

  pub pack_y : get_or l (2 * (i - 1) + 1) 0 ≡ get_or l₀ (2 * (i - 1) + 1) 0
  pack_y = same_at l l₀ (2 * i) (2 * (i - 1) + 1) p.unread (omega arith)

  pub pack_turn : Packing l₀ (set l (size + (i - 1)) (get_or l (2 * (i - 1)) 0 + 256 * get_or l (2 * (i - 1) + 1) 0)) size (i - 1)
  unfolding packed
  pack_turn =
      let j = i - 1 in
      let v = get_or l (2 * j) 0 + 256 * get_or l (2 * j + 1) 0 in
      let n = paired_length l₀ size e in
      let u : drop j (paired l₀) ≡ get_or (paired l₀) j (0, 0) ∷ drop (suc j) (paired l₀) = drop-cons (paired l₀) j (0, 0) (omega (arith, p.fewer)) in
      let s : suc (size + j) ≡ size + i = omega arith in
      let t : suc j ≡ i = omega arith in
      let c : v ≡ code (get_or (paired l₀) j (0, 0)) = rw (paired_at l₀ size j e (omega (arith, p.fewer)), pack_x, pack_y) in
      record {
        fewer = omega (arith, p.fewer);
        long = length-set l (size + j) v ∙ p.long;
        unread = take-set-le (2 * j) l (size + j) v (omega (arith, p.fewer)) ∙ shorter l l₀ (2 * i) (2 * j) (omega arith) p.unread;
        done = drop_set l (size + j) v (omega (arith, p.long, p.fewer))
            ∙ ap (λ (k : List ℕ). v ∷ k) (ap (λ (q : ℕ). drop q l) s ∙ p.done)
            ∙ ap (λ (k : ℕ). k ∷ map code (drop i (paired l₀))) c
            ∙ sym (ap (map code) (u ∙ ap (λ (q : ℕ). get_or (paired l₀) j (0, 0) ∷ drop q (paired l₀)) t));
      }

pub pack_end : (l₀ l : List ℕ) (size i : ℕ) → Packing l₀ l size i → i ≡ 0 → drop size l ≡ packed (paired l₀)
pack_end l₀ l size i p e =
    let z : size + i ≡ size = omega arith in
    let d : drop size l ≡ packed (drop i (paired l₀)) = rw z at p.done in
    d ∙ ap (λ (k : ℕ). packed (drop k (paired l₀))) e

-- places from i on are unpacked, those before are unread
pub record Unpacking (l₀ l : List ℕ) (size i : ℕ) : Type 0 where
  pub fewer : i ≤ size
  pub long : length l ≡ 2 * size
  pub unread : take i l ≡ take i l₀
  pub done : drop (2 * i) l ≡ flat (unpacked (drop i (take size l₀)))

pub unpack_start : (l : List ℕ) (size : ℕ) → length l ≡ 2 * size → Unpacking l l size size
unfolding unpacked
unpack_start l size e =
    let a : length l ≤ 2 * size = omega arith in
    let b : length (take size l) ≤ size = omega (arith, length-take-le size l (omega arith)) in
    record { fewer = omega arith; long = e; unread = refl; done = rw (drop_of_length-le l a, drop_of_length-le (take size l) b) }

module _ (l₀ l : List ℕ) (size i : ℕ) (p : Unpacking l₀ l size i) (e : length l₀ ≡ 2 * size) (h : 0 < i) where
  pub unpack_turn : Unpacking l₀ (set (set l (2 * (i - 1)) (get_or l (i - 1) 0 % 256)) (2 * (i - 1) + 1) (get_or l (i - 1) 0 / 256)) size (i - 1)
  unfolding unpacked
  unpack_turn =
      let j = i - 1 in
      let v = get_or l j 0 in
      let l₁ = set l (2 * j) (v % 256) in
      let n₁ : length l₁ ≡ 2 * size = length-set l (2 * j) (v % 256) ∙ p.long in
      let s : get_or (take size l₀) j 0 ≡ v = get_or-take size l₀ j 0 (omega (arith, p.fewer)) ∙ sym (same_at l l₀ i j p.unread (omega arith)) in
      let u : drop j (take size l₀) ≡ v ∷ drop i (take size l₀) =
      let t : suc j ≡ i = omega arith in drop-cons (take size l₀) j 0 (omega (arith, p.fewer, length-take-le size l₀ (omega arith))) ∙ rw (s, t) in
      let a : suc (2 * j) ≡ 2 * j + 1 = omega arith in
      let b : suc (2 * j + 1) ≡ 2 * i = omega arith in
      let d₁ : drop (2 * j) (set l₁ (2 * j + 1) (v / 256)) ≡ v % 256 ∷ v / 256 ∷ drop (2 * i) l =
      drop-cons (set l₁ (2 * j + 1) (v / 256)) (2 * j) 0 (omega (arith, length-set l₁ (2 * j + 1) (v / 256), p.fewer))
      ∙ rw (
        get_or-set_other l₁ (2 * j + 1) (2 * j) (v / 256) 0 (λ q. omega arith),
        get_or-set_same l (2 * j) (v % 256) 0 (omega (arith, p.long, p.fewer)),
        a,
        drop_set l₁ (2 * j + 1) (v / 256) (omega (arith, p.fewer)),
        b,
        drop-set-lt (2 * i) l (2 * j) (v % 256) (omega arith),
      ) in
      record {
        fewer = omega (arith, p.fewer);
        long = length-set l₁ (2 * j + 1) (v / 256) ∙ n₁;
        unread = take-set-le j l₁ (2 * j + 1) (v / 256) (omega arith) ∙ take-set-le j l (2 * j) (v % 256) (omega arith) ∙ shorter l l₀ i j (omega arith) p.unread;
        done = d₁ ∙ rw (u, p.done);
      }

pub unpack_end : (l₀ l : List ℕ) (size i : ℕ) → Unpacking l₀ l size i → i ≡ 0 → l ≡ flat (unpacked (take size l₀))
unpack_end l₀ l size i p e =
    let z : 2 * i ≡ 0 = omega arith in
    let d : drop 0 l ≡ flat (unpacked (drop i (take size l₀))) = rw z at p.done in
    d ∙ ap (λ (k : ℕ). flat (unpacked (drop k (take size l₀)))) e
