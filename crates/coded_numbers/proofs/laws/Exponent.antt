-- Laws: How many bits tell so many things apart (document 01, Layout's column count and Coefficients' preset number).
use Rattle.std.specs.Prelude.{◌≡◌, refl, Bool, true, false, cond, ◌⊎◌, ℕ, zero, suc, ◌+◌, ◌*◌, ◌-◌, ◌^◌, ◌≤◌, ◌<◌, leb}
use Rattle.std.proofs.Common.{◌∙◌, inl, inr, arith, pow_pos, pow-add, pow_mono, leb-true, leb-false}
use Rattle.laws.specs.laws.Cases.{le_or_lt}
use Rattle.std.proofs.lemmas.Nat.{leading_length}
use lib.Count.{count_leading_zeros}
use Rattle.coded_numbers.specs.Exponent.{exponent, exponent_from}

pub doubled : (e : ℕ) → 2 ^ (e + 1) ≡ 2 ^ e + 2 ^ e
doubled e = pow-add 2 e 1 ∙ omega arith

-- a number is below the power of two that it is the exponent of
pub below_power : (n : ℕ) → n < 2 ^ n
below_power zero = pow_pos 0
below_power (suc n) = let e : suc n ≡ n + 1 = omega arith in rw e (omega (arith, doubled n, below_power n))

-- it is a power not below n ..
above_from : (k e n : ℕ) → n ≤ e + k → n ≤ 2 ^ exponent_from k e n
unfolding exponent_from
above_from zero e n h = omega (arith, below_power e)
above_from (suc k) e n h = go (leb n (2 ^ e)) refl (above_from k (e + 1) n (omega arith))
  where
    go : (b : Bool) → leb n (2 ^ e) ≡ b → n ≤ 2 ^ exponent_from k (e + 1) n → n ≤ 2 ^ cond (leb n (2 ^ e)) e (exponent_from k (e + 1) n)
    go true f r = rw f (leb-true n (2 ^ e) f)
    go false f r = rw f r

pub exponent_above : (n : ℕ) → n ≤ 2 ^ exponent n
exponent_above n = above_from n 0 n (omega arith)

-- .. and the least
least_from : (k e n m : ℕ) → e ≤ m → n ≤ 2 ^ m → exponent_from k e n ≤ m
unfolding exponent_from
least_from zero e n m h l = h
least_from (suc k) e n m h l = go (leb n (2 ^ e)) refl (λ i. least_from k (e + 1) n m i l)
  where
    go : (b : Bool) → leb n (2 ^ e) ≡ b → (e + 1 ≤ m → exponent_from k (e + 1) n ≤ m) → cond (leb n (2 ^ e)) e (exponent_from k (e + 1) n) ≤ m
    go true f r = rw f h
    go false f r = rw f (r (further (le_or_lt m e)))
      where
        further : (m ≤ e) ⊎ (e < m) → e + 1 ≤ m
        further (inl p) = absurd (omega (arith, leb-false n (2 ^ e) f, pow_mono p))
        further (inr p) = omega arith

pub exponent_least : (n m : ℕ) → n ≤ 2 ^ m → exponent n ≤ m
exponent_least n m l = least_from n 0 n m (omega arith) l

-- the bits of the number before n
pub exponent_length : (n a : ℕ) → n < 2 ^ 32 → a ≡ n - 1 → 32 - count_leading_zeros 32 a ≡ exponent n
exponent_length n a h g =
    let l = leading_length 32 a (omega arith) in
    omega (arith, exponent_least n l.0 (omega arith), below l.0 l.3 (le_or_lt l.0 (exponent n)))
  where
    below : (m : ℕ) → 2 ^ m ≤ 2 * a + 1 → (m ≤ exponent n) ⊎ (exponent n < m) → m ≤ exponent n
    below m k (inl p) = p
    below m k (inr p) =
        let q : exponent n + 1 ≤ m = omega arith in
        absurd (omega (arith, pow_mono q, doubled (exponent n), exponent_above n, pow_pos (exponent n)))
