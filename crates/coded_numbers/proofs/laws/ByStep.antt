-- The exponent, searched power by power.
use Rattle.std.specs.Prelude.{◌≡◌, refl, ◌⊎◌, ℕ, zero, suc, ◌+◌, ◌-◌, ◌^◌, ◌≤◌, ◌<◌}
use Rattle.std.proofs.Common.{ap, ◌∙◌, inl, inr, arith, pow_mono, le-leb}
use Rattle.laws.specs.laws.Cases.{le_or_lt}
use Rattle.std.proofs.lemmas.Bool.{lt-leb}
use Rattle.coded_numbers.specs.Exponent.{exponent_from}
use Rattle.coded_numbers.proofs.laws.Exponent.{below_power}

pub exponent_stop : (k e n : ℕ) → n ≤ 2 ^ e → exponent_from k e n ≡ e
unfolding exponent_from
exponent_stop zero e n h = refl
exponent_stop (suc k) e n h = rw (le-leb n (2 ^ e) h)

pub exponent_on : (k e n : ℕ) → 2 ^ e < n → exponent_from (suc k) e n ≡ exponent_from k (e + 1) n
unfolding exponent_from
exponent_on k e n h = rw (lt-leb n (2 ^ e) h)

-- One turn of a search from exponent 0 on.
pub exponent_turn : (e n : ℕ) → 2 ^ e < n → exponent_from (n - e) e n ≡ exponent_from (n - (e + 1)) (e + 1) n
exponent_turn e n h =
    let k : n - e ≡ suc (n - (e + 1)) = omega (arith, below_power e) in
    ap (λ (i : ℕ). exponent_from i e n) k ∙ exponent_on (n - (e + 1)) e n h

pub exponent_small : (e n w : ℕ) → 2 ^ e < n → n ≤ 2 ^ w → e < w
exponent_small e n w h l = go (le_or_lt w e)
  where
    go : (w ≤ e) ⊎ (e < w) → e < w
    go (inl p) = absurd (omega (arith, pow_mono p))
    go (inr p) = p
