-- The fewest digits that hold a number are its decimal digits.
use Rattle.std.specs.Prelude.{◌≡◌, List, [], ◌∷◌, ◌++◌, ◌⊎◌, ℕ, zero, suc, ◌+◌, ◌-◌, ◌*◌, ◌/◌, ◌%◌, ◌^◌, ◌≤◌, ◌<◌}
use Rattle.std.proofs.Common.{ap, ◌∙◌, inl, inr, arith, pow-add, lt-ltb, le-ltb}
use Rattle.std.proofs.Math.Nat.{pow-le-pow_right}
use Rattle.laws.specs.laws.Cases.{le_or_lt}
use Rattle.io.specs.Digits.{hex_digit_ascii, last_digits, IsDigitCount}
use Rattle.text.specs.Text.{digits_of, decimal}

low : (n : ℕ) → n < 10 → hex_digit_ascii n ≡ 48 + n
low n h = rw (lt-ltb n 10 h)

pub ten : (k : ℕ) → 10 ^ suc k ≡ 10 * 10 ^ k
ten k = let e : suc k ≡ 1 + k = omega arith in ap (λ (j : ℕ). 10 ^ j) e ∙ pow-add 10 1 k

some : (k : ℕ) → 1 ≤ 10 ^ k
some k = pow-le-pow_right {n = 10} (omega arith) {i = 0} {j = k} (omega arith)

fewest_digits : (r k n : ℕ) → suc r ≤ suc k → n < 10 ^ suc r → (0 < r → 10 ^ r ≤ n) → last_digits 10 (suc r) n ≡ digits_of k n
unfolding digits_of
fewest_digits zero zero n h l m = let e : n % 10 ≡ n = omega (arith, ten 0) in ap (λ (d : ℕ). hex_digit_ascii d ∷ []) e ∙ ap (λ (d : ℕ). d ∷ []) (low n (omega (arith, ten 0)))
fewest_digits zero (suc k) n h l m =
    let s : n < 10 = omega (arith, ten 0) in
    let e : n % 10 ≡ n = omega arith in
    ap (λ (d : ℕ). hex_digit_ascii d ∷ []) e ∙ ap (λ (d : ℕ). d ∷ []) (low n s) ∙ rw (lt-ltb n 10 s)
fewest_digits (suc r) zero n h l m = absurd (omega arith)
fewest_digits (suc r) (suc k) n h l m =
    let b : 10 ≤ n = omega (arith, m (omega arith), ten r, some r) in
    let u : n / 10 < 10 ^ suc r = omega (arith, ten (suc r)) in
    let v : 0 < r → 10 ^ r ≤ n / 10 = λ q. omega (arith, m (omega arith), ten r) in
    rw (le-ltb n 10 b, low (n % 10) (omega arith)) (ap (λ (l : List ℕ). l ++ ((48 + n % 10) ∷ [])) (fewest_digits r k (n / 10) (omega arith) u v))

-- a number below 2^64 has at most 20
pub fewest_decimal : (n r : ℕ) → n < 2 ^ 64 → IsDigitCount 10 1 n r → last_digits 10 r n ≡ decimal n
fewest_decimal n zero h f = absurd (omega arith)
fewest_decimal n (suc r) h f = fewest_digits r 19 n (few f.2) f.1 (λ q. least (f.2 (omega arith)))
  where
    less : suc r - 1 ≡ r
    less = omega arith

    least : 10 ^ (suc r - 1) ≤ n → 10 ^ r ≤ n
    least p = rw less at p

    few : (1 < suc r → 10 ^ (suc r - 1) ≤ n) → suc r ≤ 20
    few g = go (le_or_lt (suc r) 20)
      where
        go : (suc r ≤ 20) ⊎ (20 < suc r) → suc r ≤ 20
        go (inl q) = q
        go (inr q) = absurd (omega (arith, least (g (omega arith)), pow-le-pow_right {n = 10} (omega arith) {i = 20} {j = r} (omega arith)))
