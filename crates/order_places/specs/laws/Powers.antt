-- The sides of an order are powers of two: a test of all places is a test of the or of them.
use Rattle.std.specs.Prelude.{◌≡◌, Bool, ◌&&◌, List, [], ◌∷◌, map, length, drop}
use Rattle.std.proofs.Math.Path.{refl}
use Rattle.std.proofs.Common.{ap, sym, ◌∙◌, pow_pos}
use Rattle.std.proofs.Math.Bool.{true, false}
use Prim.Native.Nat.{ℕ, zero, suc, ◌+◌, ◌*◌, ◌^◌, ◌<◌, ◌≤◌}
use native.Mathlib.Omega.{arith}
use Rattle.std.proofs.Math.Decide.{dec_lt}
use Rattle.std.specs.Int.Bits.{bit_or, or_add_and}
use Rattle.std.proofs.lemmas.Nat.{or_lt, and_le_l, and_le_r}
use Rattle.std.proofs.Math.Dec.{ltb}
use Rattle.std.proofs.Math.ListN.{get_or, length-drop}
use Rattle.std.proofs.Math.Seq.{drop-cons}
use borrow.Author.Tests.{lt-ltb, le-ltb}
use Rattle.order_sizes.specs.BlockSizes.{BLOCK_SIZES, width_of, height_of}
use Rattle.order_natural.proofs.laws.Bools.{and_false}
use Rattle.order_store.specs.Store.{inside_all}

pub record Power (w : ℕ) : Type 0 where
  pub exponent : ℕ
  pub is : w ≡ 2 ^ exponent

pub zero_below : (v : ℕ) → Power v → 0 < v
zero_below v p = rw p.is (positive p.exponent)
  where
    positive : (k : ℕ) → 0 < 2 ^ k
    positive k = pow_pos k

EXPONENTS : List (ℕ × ℕ)
EXPONENTS = (3, 3) ∷ (3, 3) ∷ (4, 4) ∷ (5, 5) ∷ (4, 3) ∷ (5, 3) ∷ (5, 4) ∷ (6, 6) ∷ (6, 5) ∷ (7, 7) ∷ (7, 6) ∷ (8, 8) ∷ (8, 7) ∷ []

abbrev power : ℕ × ℕ → ℕ × ℕ
power e = (2 ^ e.0, 2 ^ e.1)

sizes_powers : map power EXPONENTS ≡ BLOCK_SIZES
unfolding BLOCK_SIZES EXPONENTS
sizes_powers = refl

size_power : (k : ℕ) → k < 13 → get_or BLOCK_SIZES k (0, 0) ≡ power (get_or EXPONENTS k (0, 0))
unfolding EXPONENTS
size_power k h = ap (λ (l : List (ℕ × ℕ)). get_or l k (0, 0)) (sym sizes_powers) ∙ at_power EXPONENTS k h
  where
    at_power : (l : List (ℕ × ℕ)) (k : ℕ) → k < length l → get_or (map power l) k (0, 0) ≡ power (get_or l k (0, 0))
    at_power [] k h = absurd (omega arith)
    at_power (e ∷ l) zero h = refl
    at_power (e ∷ l) (suc k) h = at_power l k (omega arith)

pub width_power : (k : ℕ) → k < 13 → Power (width_of k)
unfolding width_of
width_power k h = record { exponent = (get_or EXPONENTS k (0, 0)).0; is = ap (λ (s : ℕ × ℕ). s.0) (size_power k h) }

pub height_power : (k : ℕ) → k < 13 → Power (height_of k)
unfolding height_of
height_power k h = record { exponent = (get_or EXPONENTS k (0, 0)).1; is = ap (λ (s : ℕ × ℕ). s.1) (size_power k h) }

-- both below a power of two just if their or is
pub or_below : (k x y : ℕ) → ltb (bit_or x y) (2 ^ k) ≡ (ltb x (2 ^ k) && ltb y (2 ^ k))
or_below k x y = go (dec_lt x (2 ^ k)) (dec_lt y (2 ^ k))
  where
    go : Dec (x < 2 ^ k) → Dec (y < 2 ^ k) → ltb (bit_or x y) (2 ^ k) ≡ (ltb x (2 ^ k) && ltb y (2 ^ k))
    go (yes a) (yes b) = rw (lt-ltb x (2 ^ k) a, lt-ltb y (2 ^ k) b, lt-ltb (bit_or x y) (2 ^ k) (or_lt k x y a b))
    go (no a) b =
        let l : 2 ^ k ≤ x = omega arith in
        rw (le-ltb x (2 ^ k) l, le-ltb (bit_or x y) (2 ^ k) (omega (arith, or_add_and x y, and_le_r x y)))
    go (yes a) (no b) =
        let l : 2 ^ k ≤ y = omega arith in
        rw (le-ltb y (2 ^ k) l, and_false (ltb x (2 ^ k)), le-ltb (bit_or x y) (2 ^ k) (omega (arith, or_add_and x y, and_le_l x y)))

-- what the ors so far and the numbers still to come say together
unfoldable pub so_far : ℕ → ℕ → ℕ → ℕ → List ℕ → Bool
so_far w h xs ys l = ltb xs w && ltb ys h && inside_all w h l

module _ (w h : ℕ) (pw : Power w) (ph : Power h) (list : List ℕ) where
  pub inside_start : so_far w h 0 0 (drop 0 list) ≡ inside_all w h list
  unfolding so_far
  inside_start = rw (lt-ltb 0 w (zero_below w pw), lt-ltb 0 h (zero_below h ph))

  pub inside_turn : (xs ys i : ℕ) → 2 * i + 1 < length list
      → so_far w h xs ys (drop (2 * i) list) ≡ so_far w h (bit_or xs (get_or list (2 * i) 0)) (bit_or ys (get_or list (2 * i + 1) 0)) (drop (2 * (i + 1)) list)
  unfolding so_far
  inside_turn xs ys i l =
      let x = get_or list (2 * i) 0 in
      let y = get_or list (2 * i + 1) 0 in
      let e : 2 * (i + 1) ≡ suc (suc (2 * i)) = omega arith in
      let f : 2 * i + 1 ≡ suc (2 * i) = omega arith in
      let ox : ltb (bit_or xs x) w ≡ (ltb xs w && ltb x w) = rw pw.is (or_below pw.exponent xs x) in
      let oy : ltb (bit_or ys y) h ≡ (ltb ys h && ltb y h) = rw ph.is (or_below ph.exponent ys y) in
      rw (ox, oy, e, drop-cons list (2 * i) 0 (omega arith), drop-cons list (suc (2 * i)) 0 (omega arith), f)
      (regroup (ltb xs w) (ltb ys h) (ltb x w) (ltb (get_or list (suc (2 * i)) 0) h) (inside_all w h (drop (suc (suc (2 * i))) list)))
    where
      regroup : (a b c d r : Bool) → (a && b && (c && (d && r))) ≡ (a && c && (b && d) && r)
      regroup true true true d r = refl
      regroup true true false d r = refl
      regroup true false true d r = refl
      regroup true false false d r = refl
      regroup false b c d r = refl

  inside_end : (xs ys i : ℕ) → length list ≤ 2 * i + 1 → so_far w h xs ys (drop (2 * i) list) ≡ (ltb xs w && ltb ys h)
  unfolding so_far
  inside_end xs ys i l = go (drop (2 * i) list) (omega (arith, length-drop (2 * i) list))
    where
      right : (b : Bool) → (b && true) ≡ b
      right true = refl
      right false = refl

      go : (r : List ℕ) → length r ≤ 1 → (ltb xs w && ltb ys h && inside_all w h r) ≡ (ltb xs w && ltb ys h)
      go [] k = right (ltb xs w && ltb ys h)
      go (x ∷ []) k = right (ltb xs w && ltb ys h)
      go (x ∷ y ∷ r) k = absurd (omega arith)

  -- the two ways out
  pub inside_both : (xs ys i : ℕ) → length list ≤ 2 * i + 1 → xs < w → so_far w h xs ys (drop (2 * i) list) ≡ ltb ys h
  inside_both xs ys i l a = inside_end xs ys i l ∙ rw (lt-ltb xs w a)

  pub inside_not : (xs ys i : ℕ) → length list ≤ 2 * i + 1 → w ≤ xs → so_far w h xs ys (drop (2 * i) list) ≡ false
  inside_not xs ys i l a = inside_end xs ys i l ∙ rw (le-ltb xs w a)
