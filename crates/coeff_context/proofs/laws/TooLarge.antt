-- Contexts of 458 and more, which 17 refuses (document 01, Refused): where they are met.
use Rattle.std.specs.Prelude.{◌⊎◌, ◌↔◌, ℕ, ◌*◌, ◌-◌, ◌/◌, ◌<◌, ◌≤◌, T}
use Rattle.std.proofs.Common.{inl, inr, arith, le-div_iff_mul-le, le-leb, leb→le}
use Rattle.std.proofs.lemmas.Bool.{lt-leb}
use Rattle.laws.specs.Tables.{each}
use Rattle.laws.specs.laws.Tables.{each_at}
use Rattle.laws.specs.laws.Cases.{le_or_lt}
use Rattle.coeff_context.specs.Context.{coeff_context, NUM_NONZERO, FREQ}
use Rattle.coeff_context.specs.Census.{Situation, context_of}
use Rattle.coeff_context.specs.laws.Contexts.{entries}
use Rattle.coeff_context.proofs.laws.Contexts.{below_63}
use Rattle.coeff_context.specs.laws.TooLarge.{parted}

pairs : T (each (λ (a : ℕ). each (parted a) 63 0) 63 0)
unfolding NUM_NONZERO FREQ
pairs = tt

module _ (a c : ℕ) (h : a < 63) (g : c < 63) where
  pair : T (parted a c)
  pair = each_at (parted a) 63 0 (each_at (λ (m : ℕ). each (parted m) 63 0) 63 0 pairs a (omega arith) (omega arith)) c (omega arith) (omega arith)

  above : 32 ≤ a → 31 ≤ c → 229 ≤ entries a c
  above m n = leb→le 229 (entries a c) (rw (le-leb 32 a m, le-leb 31 c n) at pair)

  few : a < 32 → entries a c ≤ 228
  few m = leb→le (entries a c) 228 (rw (lt-leb 32 a m) at pair)

  early : 32 ≤ a → c < 31 → entries a c ≤ 228
  early m n = leb→le (entries a c) 228 (rw (le-leb 32 a m, lt-leb 31 c n) at pair)

-- at a place that there is, with a count that 16 lets pass: where more than 32 × blocks are due from place 31 × blocks on, and nowhere else
pub too_large : (s : Situation) → 1 ≤ s.count → s.count ≤ 63 * s.blocks → s.place < 63 * s.blocks → s.prev ≤ 1
    → (458 ≤ context_of s) ↔ ((32 * s.blocks < s.count) × (31 * s.blocks ≤ s.place))
unfolding coeff_context
too_large s some most there flag = (to, from)
  where
    a : ℕ
    a = (s.count - 1) / s.blocks

    c : ℕ
    c = s.place / s.blocks

    positive : 0 < s.blocks
    positive = omega (arith, there)

    h : a < 63
    h = below_63 s.blocks (s.count - 1) (omega (arith, some, most))

    g : c < 63
    g = below_63 s.blocks s.place there

    many_due : (32 ≤ a) ↔ (32 * s.blocks ≤ s.count - 1)
    many_due = le-div_iff_mul-le {k = s.blocks} {x = 32} {y = s.count - 1} positive

    late : (31 ≤ c) ↔ (31 * s.blocks ≤ s.place)
    late = le-div_iff_mul-le {k = s.blocks} {x = 31} {y = s.place} positive

    to : 458 ≤ context_of s → (32 * s.blocks < s.count) × (31 * s.blocks ≤ s.place)
    to e = by (le_or_lt 32 a) (le_or_lt 31 c)
      where
        by : (32 ≤ a) ⊎ (a < 32) → (31 ≤ c) ⊎ (c < 31) → (32 * s.blocks < s.count) × (31 * s.blocks ≤ s.place)
        by (inl m) (inl n) = (omega (arith, some, many_due.0 m), late.0 n)
        by (inl m) (inr n) = absurd (omega (arith, e, flag, early a c h g m n))
        by (inr m) n = absurd (omega (arith, e, flag, few a c h g m))

    from : (32 * s.blocks < s.count) × (31 * s.blocks ≤ s.place) → 458 ≤ context_of s
    from e = omega (arith, above a c h g (many_due.1 (omega (arith, e.0))) (late.1 e.1))
