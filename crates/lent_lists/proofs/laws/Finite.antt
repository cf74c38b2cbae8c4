-- A pattern is finite if without its sign it is below that of infinity.
use Rattle.std.specs.Prelude.{◌≡◌, refl, Bool, true, false, not, cond, ◌⊎◌, ℕ, zero, suc, ◌+◌, ◌/◌, ◌%◌, ◌^◌, ◌≤◌, ◌<◌, leb, ltb, eqb}
use Rattle.std.proofs.Common.{sym, ◌∙◌, inl, inr, arith, lt-ltb, le-ltb, eq-eqb, ne_eqb}
use lib.Ieee.{binary32, of_fields, of_bits, odd}
use Rattle.std.specs.Float.Ieee.Scale.{finite}
use Rattle.laws.specs.laws.Cases.{le_or_lt}
use Rattle.lent_lists.specs.Finite.{finite_pattern}

odd_finite : (d : ℕ) (s : Bool) (q k l : ℕ) → finite (odd d s q k l) ≡ true
unfolding odd
odd_finite d s zero k l = refl
odd_finite d s (suc q) k l = refl

special : (s b : Bool) → finite (cond b (lib.Ieee.inf s) lib.Ieee.nan) ≡ false
special s true = refl
special s false = refl

-- finite unless the exponent's field is all ones
fields_finite : (s : Bool) (x t : ℕ) → finite (of_fields binary32 s x t) ≡ not (eqb x 255)
unfolding of_fields
fields_finite s zero t = odd_finite 24 s t 0 149
fields_finite s (suc x) t = go (eqb (suc x) 255)
  where
    go : (b : Bool) → finite (cond b (cond (eqb t 0) (lib.Ieee.inf s) lib.Ieee.nan) (odd 24 s (2 ^ 23 + t) x 149)) ≡ not b
    go true = special s (eqb t 0)
    go false = odd_finite 24 s (2 ^ 23 + t) x 149

pub finite_below : (s : ℕ) → ltb (s % 2147483648) 2139095040 ≡ finite_pattern s
unfolding of_bits
finite_below s = go (le_or_lt 2139095040 (s % 2147483648)) ∙ sym (fields_finite (leb 2147483648 s) (s % 2147483648 / 8388608) (s % 8388608))
  where
    go : (2139095040 ≤ s % 2147483648) ⊎ (s % 2147483648 < 2139095040) → ltb (s % 2147483648) 2139095040 ≡ not (eqb (s % 2147483648 / 8388608) 255)
    go (inl h) = rw (le-ltb (s % 2147483648) 2139095040 h, eq-eqb (s % 2147483648 / 8388608) 255 (omega arith))
    go (inr h) = rw (lt-ltb (s % 2147483648) 2139095040 h, ne_eqb (s % 2147483648 / 8388608) 255 (λ e. omega arith))
