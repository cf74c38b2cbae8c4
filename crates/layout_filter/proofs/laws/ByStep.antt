-- Look-up numbers within their limits, one after the other.
use Rattle.std.specs.Prelude.{◌≡◌, ℕ, suc, ◌+◌, ◌-◌, ◌<◌, ◌≤◌, Bool, true, false, ◌&&◌, List, slice_index_or, refl, Float}
use Rattle.std.proofs.Common.{ap, ◌∙◌, arith}
use Rattle.std.specs.Float.{nan}
use Rattle.laws.specs.Tables.{each}
use Rattle.layout_filter.specs.Limits.{in_limits, lookups_fit}

module _ (lookups : List Float) where
  abbrev pub rule : ℕ → Bool
  rule k = in_limits (slice_index_or lookups k nan)

  -- those from k on
  abbrev pub fits_from : ℕ → Bool
  fits_from k = each rule (8 - k) k

  pub fits_start : lookups_fit lookups ≡ fits_from 0
  fits_start = refl

  one : (k : ℕ) → k < 8 → fits_from k ≡ rule k && fits_from (k + 1)
  one k h = let e : 8 - k ≡ suc (8 - (k + 1)) = omega arith in ap (λ (n : ℕ). each rule n k) e

  pub fits_next : (k : ℕ) → k < 8 → rule k ≡ true → fits_from k ≡ fits_from (k + 1)
  fits_next k h e = one k h ∙ ap (λ (b : Bool). b && fits_from (k + 1)) e

  pub fits_stop : (k : ℕ) → k < 8 → rule k ≡ false → fits_from k ≡ false
  fits_stop k h e = one k h ∙ ap (λ (b : Bool). b && fits_from (k + 1)) e

  pub fits_end : (k : ℕ) → 8 ≤ k → fits_from k ≡ true
  fits_end k h = let e : 8 - k ≡ 0 = omega arith in ap (λ (n : ℕ). each rule n k) e
