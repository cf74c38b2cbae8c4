-- How far the reads of thresholds go, and what they give.
use Rattle.std.specs.Prelude.{◌≡◌, ℕ, zero, suc, ◌+◌, ◌*◌, ◌^◌, ◌<◌, ◌≤◌, Bool, T, List, [], ◌∷◌, length, refl}
use Rattle.std.proofs.Common.{ap, arith}
use Rattle.std.specs.Float.Ieee.Fits.{and_i}
use Rattle.laws.specs.Tables.{every}
use Rattle.bits.specs.Bits.{Bytes, Read, Offset, read_bits}
use Rattle.bits.specs.laws.Near.{Near, here_near, then_near, map_near, field_near, offset_near, u32_near}
use Rattle.bits.specs.declared.BitPlace.{BitPlace}
use Rattle.bits.specs.Reads.{got_of, got_value}
use Rattle.bits.specs.laws.Laws.{was_value}
use Rattle.coded_numbers.specs.Signed.{unpack_signed}
use Rattle.context_thresholds.specs.Thresholds.{lf_u32, lf_value, qf_u32, qf_value, prepend, read_values, read_list}

module _ (s : List ℕ) (h : Bytes s) where
  pub qf_u32_lem : (p : ℕ) → Near (λ (u : ℕ). u ≤ 299) (qf_u32 s p) p 34 2
  qf_u32_lem =
      let few : ℕ → Type 0 = λ (u : ℕ). u ≤ 299 in
      u32_near s h few (Offset 0 2) (Offset 4 3) (Offset 12 5) (Offset 44 8) (offset_near s h few 0 2 (omega arith) (λ v l. omega arith))
      (offset_near s h few 4 3 (omega arith) (λ v l. omega arith))
      (offset_near s h few 12 5 (omega arith) (λ v l. omega arith))
      (offset_near s h few 44 8 (omega arith) (λ v l. omega arith))

  -- as the code reads it
  pub qf_u32_le : (p u : ℕ) (q : BitPlace) → got_of p (qf_u32 s p) ≡ got_value u q → u ≤ 299
  qf_u32_le p u q e = let w = was_value p (qf_u32 s p) u q e in ((qf_u32_lem p).value u w.at w.is).0

  -- a qf value is 1 to 300
  pub qf_near : (Fine : ℕ → Type 0) → ((v : ℕ) → 1 ≤ v → v ≤ 300 → Fine v) → (p : ℕ) → Near Fine (qf_value s p) p 34 2
  unfolding qf_value
  qf_near Fine f p = map_near (λ (u : ℕ). u ≤ 299) Fine p 34 2 (λ (u : ℕ). 1 + u) (λ u l. f (1 + u) (omega arith) (omega arith)) (qf_u32 s p) (qf_u32_lem p)

  pub lf_near : (p : ℕ) → Near (λ (v : ℕ). Unit) (lf_value s p) p 34 2
  unfolding lf_value
  lf_near p =
      let any : ℕ → Type 0 = λ (v : ℕ). Unit in
      map_near any any p 34 2 unpack_signed (λ u l. tt) (lf_u32 s p)
      (u32_near s h any (Offset 0 4) (Offset 16 8) (Offset 272 16) (Offset 65808 32) (offset_near s h any 0 4 (omega arith) (λ v l. tt))
      (offset_near s h any 16 8 (omega arith) (λ v l. tt))
      (offset_near s h any 272 16 (omega arith) (λ v l. tt))
      (offset_near s h any 65808 32 (omega arith) (λ v l. tt))
      p)

  pub qf_any : (p : ℕ) → Near (λ (v : ℕ). Unit) (qf_value s p) p 34 2
  qf_any p = qf_near (λ (v : ℕ). Unit) (λ v a b. tt) p

-- lists of values that pass a rule
module _ (value : ℕ → Read ℕ) (rule : ℕ → Bool) (near : (p : ℕ) → Near (λ (v : ℕ). T (rule v)) (value p) p 34 2) where
  abbrev Good : ℕ → List ℕ → Type 0
  Good n vs = (length vs ≡ n) × T (every rule vs)

  values_near : (n p : ℕ) → Near (Good n) (read_values value n p) p (34 * n) (34 * n + 2)
  unfolding read_values
  values_near zero p = here_near (Good 0) [] p (34 * 0) (34 * 0 + 2) (refl, tt)
  values_near (suc n) p =
      then_near (λ (v : ℕ). T (rule v)) (Good (suc n)) p 34 2 (34 * n) (34 * n + 2) (34 * suc n) (34 * suc n + 2) (omega arith) (omega arith) (omega arith)
      (λ v at. prepend v (read_values value n at)) (value p) (near p)
      (λ v q t. map_near (Good n) (Good (suc n)) q (34 * n) (34 * n + 2) (λ (vs : List ℕ). v ∷ vs) (λ vs g. (ap suc g.0, and_i (rule v) (every rule vs) t g.1))
      (read_values value n q) (values_near n q))

  -- at most 15 values, of at most 34 bits each, behind the four of their number
  pub list_near : (s : List ℕ) → Bytes s → (p : ℕ) → Near (λ (vs : List ℕ). (length vs ≤ 15) × T (every rule vs)) (read_list s value p) p 514 516
  unfolding read_list
  list_near s h p =
      then_near (λ (n : ℕ). n < 2 ^ 4) (λ (vs : List ℕ). (length vs ≤ 15) × T (every rule vs)) p 4 0 510 512 514 516 (omega arith) (omega arith) (omega arith)
      (read_values value) (read_bits s p 4) (field_near s h p 4 4 (omega arith)) (λ n q l. few n q (omega arith))
    where
      few : (n q : ℕ) → n ≤ 15 → Near (λ (vs : List ℕ). (length vs ≤ 15) × T (every rule vs)) (read_values value n q) q 510 512
      few n q l =
          let r = values_near n q in
          record {
            value = λ vs at e. let t = r.value vs at e in ((omega (arith, t.0.0), t.0.1), t.1, omega (arith, t.2));
            end = λ at e. let t = r.end at e in (t.0, omega (arith, t.1));
          }
