-- Laws: Sides and lengths of a record (document 01, Refused, 1 and 2).
use Rattle.std.specs.Prelude.{◌≡◌, Bool, true, false, ◌&&◌, ℕ, ◌*◌, ◌/◌, ◌%◌, leb, eqb}
use Rattle.std.proofs.Math.Path.{refl}
use Rattle.std.proofs.Common.{ap, sym, ◌∙◌, add-zero, div-add-mod', mul-div_cancel, arith, leb-true, eqb-true, le-leb, eq-eqb}
use Rattle.std.proofs.Math.Nat.{mul-zero, mul-mod_left}
use Rattle.std.proofs.lemmas.Bool.{eqb-false}
use Rattle.laws.specs.laws.Cases.{and-true}
use Rattle.lent_sides.specs.Limits.{Sided, in_limits, lengths_fit}

pub in_limits_lem : (limit bw bh : ℕ) → in_limits limit bw bh ≡ true → Sided limit bw bh
unfolding in_limits
in_limits_lem limit bw bh e =
    let p = and-true (leb bw limit) (leb bh limit) e in
    record { bw_to = leb-true bw limit p.0; bh_to = leb-true bh limit p.1 }

pub limits_in : (limit bw bh : ℕ) → Sided limit bw bh → in_limits limit bw bh ≡ true
unfolding in_limits
limits_in limit bw bh s = rw (le-leb bw limit s.bw_to, le-leb bh limit s.bh_to)

pub fit_lengths : (bw bh kinds hf_mul : ℕ) → kinds ≡ bh * bw → hf_mul ≡ bh * bw → lengths_fit bw bh kinds hf_mul ≡ true
unfolding lengths_fit
fit_lengths bw bh kinds hf_mul e f = rw (eq-eqb kinds (bh * bw) e, eq-eqb hf_mul (bh * bw) f)

pub lengths_fit_lem : (bw bh kinds hf_mul : ℕ) → lengths_fit bw bh kinds hf_mul ≡ true → (kinds ≡ bh * bw) × (hf_mul ≡ bh * bw)
unfolding lengths_fit
lengths_fit_lem bw bh kinds hf_mul e =
    let p = and-true (eqb kinds (bh * bw)) (eqb hf_mul (bh * bw)) e in
    (eqb-true kinds (bh * bw) p.0, eqb-true hf_mul (bh * bw) p.1)

both : (b : Bool) → b && b ≡ b
both true = refl
both false = refl

-- The lengths, without the product.
module _ (bw bh kinds hf_mul : ℕ) where
  unfit : (k m : Bool) → eqb kinds (bh * bw) ≡ k → eqb hf_mul (bh * bw) ≡ m → (kinds ≡ bh * bw → hf_mul ≡ bh * bw → ⊥) → k && m ≡ false
  unfit false m e f n = refl
  unfit true false e f n = refl
  unfit true true e f n = absurd (n (eqb-true kinds (bh * bw) e) (eqb-true hf_mul (bh * bw) f))

  pub lengths_unfit : (kinds ≡ bh * bw → hf_mul ≡ bh * bw → ⊥) → lengths_fit bw bh kinds hf_mul ≡ false
  unfolding lengths_fit
  lengths_unfit n = unfit (eqb kinds (bh * bw)) (eqb hf_mul (bh * bw)) refl refl n

  pub lengths_unlike : (kinds ≡ hf_mul → ⊥) → lengths_fit bw bh kinds hf_mul ≡ false
  lengths_unlike n = lengths_unfit (λ e f. n (e ∙ sym f))

  module _ (e : kinds ≡ hf_mul) where
    pub lengths_narrow : bw ≡ 0 → lengths_fit bw bh kinds hf_mul ≡ eqb kinds 0
    unfolding lengths_fit
    lengths_narrow z = rw (z, ← e, mul-zero bh) (both (eqb kinds 0))

    module _ (s : bw ≡ 0 → ⊥) where
      pub lengths_ragged : (kinds % bw ≡ 0 → ⊥) → lengths_fit bw bh kinds hf_mul ≡ false
      lengths_ragged n = lengths_unfit (λ k m. n (ap (λ (x : ℕ). x % bw) k ∙ mul-mod_left bh bw))

      pub lengths_rows : kinds % bw ≡ 0 → lengths_fit bw bh kinds hf_mul ≡ eqb (kinds / bw) bh
      lengths_rows z = rows (eqb (kinds / bw) bh) refl
        where
          rows : (b : Bool) → eqb (kinds / bw) bh ≡ b → lengths_fit bw bh kinds hf_mul ≡ b
          rows true t =
              let k : kinds ≡ bh * bw = sym (div-add-mod' kinds bw) ∙ rw (z, eqb-true (kinds / bw) bh t, add-zero (bh * bw)) in
              fit_lengths bw bh kinds hf_mul k (sym e ∙ k)
          rows false t =
              lengths_unfit (λ k m. eqb-false (kinds / bw) bh t (ap (λ (x : ℕ). x / bw) k ∙ mul-div_cancel bh (omega (arith, s))))
