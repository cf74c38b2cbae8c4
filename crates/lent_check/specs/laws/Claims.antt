-- X's claimed one by one, where all of them are clear.
use Rattle.std.specs.Prelude.{◌≡◌, refl, Bool, true, false, ◌&&◌, cond, List, leb, ltb, eqb, get_or, set}
use Rattle.std.proofs.Common.{ap, sym, ◌∙◌, ⊎_elim, le-leb, le-ltb, lt-ltb, ne_eqb}
use Prim.Native.Nat.{ℕ, ◌+◌, ◌-◌, ◌^◌, ◌≤◌, ◌<◌, max}
use native.Mathlib.Omega.{arith}
use Rattle.std.proofs.Math.Seq.{set-get_or}
use Rattle.std.proofs.lemmas.Bool.{lt-leb}
use Rattle.laws.specs.laws.Cases.{le_or_lt}
use Rattle.laws.specs.Lists.{fill_from}
use Rattle.layout.specs.Check.{Covering, Fault, Until, clear}
use Rattle.layout.proofs.laws.RowByRowSteps.{clear_step, clear_end, fill_step, fill_end}
use Rattle.lent_check.specs.laws.Apart.{clear_set}

-- the last test of where a corner may stand, hf_mul being seen to
pub fits_last : (b : Bool) → b ≡ b && leb 1 1 && ltb 1 (2 ^ 31)
fits_last true = refl
fits_last false = refl

abbrev pub claimed : List ℕ → ℕ → ℕ → ℕ → Covering
claimed d x n v = cond (clear d 0 x n) (Until (fill_from d x n v)) Fault

pub claim_start : (d : List ℕ) (x n v : ℕ) → claimed d x n v ≡ claimed d x (x + n - x) v
claim_start d x n v = let e : n ≡ x + n - x = omega arith in ap (λ (k : ℕ). claimed d x k v) e

module _ (d : List ℕ) (i e v : ℕ) where
  pub claim_end : e ≤ i → claimed d i (e - i) v ≡ Until d
  claim_end h = rw (clear_end d 0 i e h, fill_end d i e v h)

  module _ (h : i < e) where
    pub claim_stop : 0 < get_or d i 0 → claimed d i (e - i) v ≡ Fault
    claim_stop l = rw (clear_step d 0 i e h, lt-leb (get_or d i 0) 0 l)

    pub claim_next : get_or d i 0 ≤ 0 → claimed d i (e - i) v ≡ claimed (set d i v) (i + 1) (e - (i + 1)) v
    claim_next l = rw (clear_step d 0 i e h, le-leb (get_or d i 0) 0 l, fill_step d i e v h, clear_set d i v 0 (i + 1) (e - (i + 1)) (omega arith))

-- The first x's, n of which are claimed, without a branch: the others keep what they have. The most depth that was met tells whether one was covered.
module _ (x n v : ℕ) where
  abbrev pub claiming : ℕ → ℕ → List ℕ → Covering
  claiming found i d = cond (eqb found 0) (claimed d (x + i) (n - i) v) Fault

  pub first_start : (d : List ℕ) → claimed d x n v ≡ claiming 0 0 d
  first_start d = let e : x + 0 ≡ x = omega arith in let f : n - 0 ≡ n = omega arith in rw (e, f)

  module _ (found i : ℕ) (d : List ℕ) where
    abbrev Next : Bool → Type 0
    Next b = claiming found i d ≡ claiming (max found (cond b (get_or d (x + i) 0) 0)) (i + 1) (set d (x + i) (cond b v (get_or d (x + i) 0)))

    beyond : n ≤ i → Next false
    unfolding clear fill_from
    beyond h =
        let a : n - i ≡ 0 = omega arith in
        let b : n - (i + 1) ≡ 0 = omega arith in
        let c : max found 0 ≡ found = omega arith in
        rw (a, b, c, set-get_or d (x + i) 0)

    stopped : i < n → 0 < get_or d (x + i) 0 → Next true
    stopped h l =
        let a : x + n - (x + i) ≡ n - i = omega arith in
        let b : claimed d (x + i) (n - i) v ≡ Fault = ap (λ (k : ℕ). claimed d (x + i) k v) (sym a) ∙ claim_stop d (x + i) (x + n) v (omega arith) l in
        rw (ne_eqb (max found (get_or d (x + i) 0)) 0 (λ e. omega arith)) (ap (λ (s : Covering). cond (eqb found 0) s Fault) b ∙ same (eqb found 0))
      where
        same : (b : Bool) → cond b Fault Fault ≡ Fault
        same true = refl
        same false = refl

    passed : i < n → get_or d (x + i) 0 ≤ 0 → Next true
    passed h l =
        let a : n - i ≡ x + n - (x + i) = omega arith in
        let b : x + n - (x + i + 1) ≡ n - (i + 1) = omega arith in
        let c : x + i + 1 ≡ x + (i + 1) = omega arith in
        let m : found ≡ max found (get_or d (x + i) 0) = omega arith in
        ap (λ (k : ℕ). cond (eqb found 0) (claimed d (x + i) k v) Fault) a
        ∙ ap (λ (s : Covering). cond (eqb found 0) s Fault) (claim_next d (x + i) (x + n) v (omega arith) l)
        ∙ ap (λ (k : ℕ). cond (eqb found 0) (claimed (set d (x + i) v) (x + i + 1) k v) Fault) b
        ∙ ap (λ (k : ℕ). cond (eqb found 0) (claimed (set d (x + i) v) k (n - (i + 1)) v) Fault) c
        ∙ ap (λ (k : ℕ). cond (eqb k 0) (claimed (set d (x + i) v) (x + (i + 1)) (n - (i + 1)) v) Fault) m

    pub first_next : Next (ltb i n)
    first_next =
        ⊎_elim (λ (h : n ≤ i). rw (le-ltb i n h) (beyond h))
        (λ (h : i < n). rw (lt-ltb i n h) (⊎_elim (passed h) (stopped h) (le_or_lt (get_or d (x + i) 0) 0)))
        (le_or_lt n i)

  -- what the result over the first x's says
  pub first_good : (r : Bool) (s t : Covering) → cond r s Fault ≡ t → r ≡ true → t ≡ s
  first_good r s t e h = sym (rw h at e)

  pub first_bad : (r : Bool) (s t : Covering) → cond r s Fault ≡ t → r ≡ false → t ≡ Fault
  first_bad r s t e h = sym (rw h at e)
