-- Runs of zeros within the walk.
use Rattle.std.specs.Prelude.{◌≡◌, refl, List, ℕ, zero, suc, ◌+◌, ◌*◌, ◌-◌, ◌/◌, ◌%◌, ◌^◌, ◌<◌, ◌≤◌, length, set, take, drop}
use Rattle.std.proofs.Common.{sym, ◌∙◌, length-set, length-drop, get_or-drop}
use native.Mathlib.Omega.{arith}
use Rattle.std.proofs.Math.ListN.{get_or}
use Rattle.std.proofs.lemmas.List.{set-get_or}
use Rattle.laws.specs.laws.Lists.{tail_all}
use Rattle.coded_numbers.specs.Signed.{unpack_signed}
use Rattle.coeff_context.specs.Context.{coeff_context, FREQ, NUM_NONZERO}
use Rattle.coeff_context.proofs.laws.Contexts.{entry_at, context_fits}
use Rattle.coeff_walk.specs.Walk.{gain}
use Rattle.coeff_walk.proofs.laws.Outcome.{walk_zero}
use Rattle.coeff_walk.specs.laws.Runs.{entries_for, Zeros}

-- the same as they are lent
module _ (exponent : ℕ) (coeff_map : List ℕ) (left x : ℕ) (e : x ≡ 2 * get_or NUM_NONZERO ((left - 1) / 2 ^ exponent) 0) where
  pub entries_lent : take (length coeff_map - x) (drop x coeff_map) ≡ entries_for exponent coeff_map left
  entries_lent = tail_all coeff_map x ∙ rw e

  pub entries_room : left - 1 < 32 * 2 ^ exponent → length coeff_map ≡ 458 → 60 < length (take (length coeff_map - x) (drop x coeff_map))
  entries_room h l = rw (tail_all coeff_map x, length-drop x coeff_map) (omega (arith, entry_at (2 ^ exponent) (left - 1) h))

module _ (exponent : ℕ) (entries symbols : List ℕ) (at from stop : ℕ) (log₀ : List ℕ) where
  pub zeros_start : from ≤ stop → Zeros exponent entries symbols at from stop log₀ from log₀
  zeros_start h = record { lower = omega arith; upper = h; long = refl; skipped = λ shift coeff_map places left g l m e s. refl }

  pub zeros_turn : (k : ℕ) (log : List ℕ) → k < stop → stop ≤ 63 * 2 ^ exponent → at + stop ≤ length symbols → get_or symbols (at + k) 0 ≡ 0
      → Zeros exponent entries symbols at from stop log₀ k log
      → Zeros exponent entries symbols at from stop log₀ (k + 1) (set log (at + k) (get_or entries (get_or FREQ (k / 2 ^ exponent) 0 * 2) 0))
  zeros_turn k log h b n u z =
      record {
        lower = omega (arith, z.lower);
        upper = omega arith;
        long = length-set log (at + k) (get_or entries (get_or FREQ (k / 2 ^ exponent) 0 * 2) 0) ∙ z.long;
        skipped = λ shift coeff_map places left g l m e s.
            let x : ℕ = get_or NUM_NONZERO ((left - 1) / 2 ^ exponent) 0 in
            let y : ℕ = get_or FREQ (k / 2 ^ exponent) 0 in
            let c : coeff_context (2 ^ exponent) (left - 1) k 0 ≡ 2 * x + y * 2 = unfold coeff_context in omega arith in
            let d : get_or entries (y * 2) 0 ≡ get_or coeff_map (coeff_context (2 ^ exponent) (left - 1) k 0) 0 = rw (e, c) (get_or-drop (2 * x) coeff_map (y * 2) 0) in
            let a : at + (k + 1) ≡ at + k + 1 = omega arith in
            rw (d, a) (sym (walk_zero shift (2 ^ exponent) coeff_map places symbols k 0 left (at + k) log g (omega arith) l (context_fits (2 ^ exponent) (left - 1) k 0 (omega arith) (omega arith) (omega arith)) (omega arith) u) ∙ z.skipped shift coeff_map places left g l m e s);
      }

-- a sum in the cell, also for a symbol 0
pub gain_sum : (shift : ℕ) (g : List ℕ) (p u v : ℕ) → v ≡ (get_or g p 0 + unpack_signed u * 2 ^ shift % 2 ^ 32) % 2 ^ 32 → (unpack_signed u * 2 ^ shift % 2 ^ 32 ≡ 0 → v ≡ get_or g p 0)
    → set g p v ≡ gain shift g p u
gain_sum shift g p zero v e z = let n : unpack_signed 0 * 2 ^ shift % 2 ^ 32 ≡ 0 = unfold unpack_signed in omega arith in rw (z n) (set-get_or g p 0)
gain_sum shift g p (suc u) v e z = rw e
