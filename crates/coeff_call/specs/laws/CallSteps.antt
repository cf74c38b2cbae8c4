-- The coefficient call as the code goes: its checks, its preset number, its work.
use Rattle.std.specs.Prelude.{◌≡◌, refl, Bool, true, false, cond, List, [], ◌∷◌, ℕ, ◌+◌, ◌*◌, ◌<◌, ◌≤◌, ltb, length, Result, Ok, Err}
use Rattle.std.proofs.Common.{ap, ◌∙◌, mul-le-mul, mul_comm, mul-add, arith, ltb-true}
use Rattle.std.proofs.Math.Path.{sym}
use Rattle.refusal.specs.declared.Refusal.{Refusal}
use Rattle.refusal.specs.declared.Refusal.TheVariants.{Preset}
use Rattle.refusal.specs.Said.{said}
use Rattle.refusal.specs.Answer.{gives, refuses, answered}
use Rattle.bits.specs.Bits.{Read, Value, Ended}
use Rattle.layout.proofs.laws.Theorems.{layout_iff}
use Rattle.coeff_group.specs.Group.{PerChannel, Reading, going, refused}
use Rattle.coeff_group.specs.Work.{clusters_of}
use Rattle.coeff_group.specs.laws.Due.{GroupShown}
use Rattle.coeff_group.specs.laws.WorkLaws.{WorkReady}
use Rattle.coeff_preset.specs.Preset.{preset_of}
use Rattle.coeff_checks.proofs.laws.ChecksLaws.{sides_fit_lem, parameters_fit_lem, few_clusters}
use Rattle.coeff_call.specs.Call.{Lent, before_work, Passed, reading, outcome_of, leaves, refuse, preset_bits, call}
use Rattle.coeff_call.specs.laws.CallLaws.{checks_pass, passed_by, lengths_fit_lem, call_refused}

-- what the checks answered
module _ (L : Lent) (r : Result Unit Refusal) (e : answered r ≡ before_work L) where
  pub checks_refused : (why : Refusal) → r ≡ Err why → refuse L (said why) ≡ call L
  checks_refused why f = sym (call_refused L (said why) (sym e ∙ ap answered f))

  pub checks_passed : (u : Unit) → r ≡ Ok u → Passed L
  checks_passed u f = passed_by L (sym e ∙ ap answered f)

-- what the preset number answered
module _ (L : Lent) (p : Passed L) (r : Result ℕ Refusal) (e : answered r ≡ preset_of L.presets (preset_bits L)) where
  pub preset_refused : (why : Refusal) → r ≡ Err why → refuse L (said why) ≡ call L
  unfolding call
  preset_refused why f = rw (checks_pass L p, sym e, f)

  module _ (n : ℕ) (f : r ≡ Ok n) where
    call_read : outcome_of (reading L n) ≡ call L
    unfolding call
    call_read = rw (checks_pass L p, sym e, f)

    pub below : n < L.presets
    below = by (preset_bits L) (ap answered (sym f) ∙ e)
      where
        by : (R : Read ℕ) → gives n ≡ preset_of L.presets R → n < L.presets
        by (Ended at) g = absurd (let z : ◌≡◌ {A = ℕ} 0 1 = cc in omega arith)
        by (Value v at) g = go (ltb v L.presets) refl g
          where
            go : (b : Bool) → ltb v L.presets ≡ b → gives n ≡ cond b (gives v) (refuses (said (Preset at))) → n < L.presets
            go true i g = let t : n ≡ v = cc in let l = ltb-true v L.presets i in omega arith
            go false i g = absurd (let z : ◌≡◌ {A = ℕ} 0 1 = cc in omega arith)

-- The work.
outcome_by : (r : Result ℕ Refusal) (log : List ℕ) (G : PerChannel) (R : Reading) → GroupShown r log G R → record { answer = answered r; log = log; grids = G } ≡ outcome_of R
outcome_by r log G (going us at log₁ G₁ rows) d = rw (d.answer, d.logged, d.cells)
outcome_by r log G (refused why at log₁ G₁) d = rw (d.answer, d.logged, d.cells)

-- the group is read, with the preset that was chosen
pub call_done : (L : Lent) → Passed L → (q : Result ℕ Refusal) → answered q ≡ preset_of L.presets (preset_bits L) → (n : ℕ) → q ≡ Ok n
    → (r : Result ℕ Refusal) (log g0 g1 g2 : List ℕ) → GroupShown r log (g0 ∷ g1 ∷ g2 ∷ []) (reading L n) → leaves r log g0 g1 g2 ≡ call L
call_done L p q e n f r log g0 g1 g2 d = outcome_by r log (g0 ∷ g1 ∷ g2 ∷ []) (reading L n) d ∙ call_read L p q e n f

pub work_ready : (L : Lent) → Passed L → (n : ℕ) → n < L.presets → WorkReady L.pass_group (length L.cluster_map) L.shift (length L.log) n
work_ready L p n h =
    let P = L.pass_group in
    let s = sides_fit_lem P p.sides in
    let t = parameters_fit_lem L.shift L.presets p.parameters in
    let l = lengths_fit_lem L p.lengths in
    let k = few_clusters P.contexts p.contexts in
    record {
      clusters = k;
      part = within (495 * clusters_of P) n L.presets (length L.cluster_map) h l.map;
      number = omega (arith, t.1);
      ready = λ m e. record {
        narrow = s.wide;
        below = s.high;
        layout = (layout_iff P.bw P.bh P.kinds P.hf_mul l.kinds l.hf_mul).0 p.layout;
        contexts = p.contexts;
        clustered = refl;
        few = k;
        whole = l.store;
        entries = e;
        shifts = t.0;
        room = rw (mul_comm P.bw P.bh) l.room;
      };
    }
  where
    within : (w n m k : ℕ) → n < m → k ≡ w * m → w * n + w ≤ k
    within w n m k h e = let a : w * (n + 1) ≤ w * m = mul-le-mul (let b : w ≤ w = omega arith in b) (let d : n + 1 ≤ m = omega arith in d) in omega (arith, mul-add w n 1)
