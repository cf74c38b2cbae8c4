-- Text in lent bytes, and numbers in decimal.
use Rattle.std.specs.Prelude.{◌≡◌, refl, List, [], ◌∷◌, ◌++◌, ◌⊎◌, ℕ, suc, ◌+◌, ◌≤◌, ◌<◌, min, length, get_or, set, drop}
use Rattle.std.proofs.Common.{ap, sym, ◌∙◌, inl, inr, arith, length-append, drop_of_length-le, drop-cons}
use Rattle.std.proofs.lemmas.List.Edits.{sets}
use Rattle.std.proofs.Math.Seq.{length-sets, set_out}
use Rattle.laws.specs.laws.Lists.{sets_append}
use Rattle.laws.specs.laws.Cases.{le_or_lt}
use Rattle.text.specs.Text.{Puts}

-- nothing is put behind the end
pub sets_out : (s d : List ℕ) (i : ℕ) → length d ≤ i → sets d i s ≡ d
sets_out [] d i h = refl
sets_out (a ∷ s) d i h =
    let e = set_out d i a h in
    ap (λ (l : List ℕ). sets l (suc i) s) e ∙ sets_out s d (suc i) (omega arith)

-- a place that was cut to the length does as well
pub clipped : (t d : List ℕ) (i : ℕ) → sets d (min i (length d)) t ≡ sets d i t
clipped t d i = go (le_or_lt (length d) i)
  where
    go : (length d ≤ i) ⊎ (i < length d) → sets d (min i (length d)) t ≡ sets d i t
    go (inl h) = sets_out t d (min i (length d)) (omega arith) ∙ sym (sets_out t d i h)
    go (inr h) = let e : min i (length d) ≡ i = omega arith in ap (λ (k : ℕ). sets d k t) e

-- one text behind the other
pub puts_then : (d d₁ d₂ s t : List ℕ) (i i₁ i₂ : ℕ) → Puts d i s d₁ i₁ → Puts d₁ i₁ t d₂ i₂ → Puts d i (s ++ t) d₂ i₂
puts_then d d₁ d₂ s t i i₁ i₂ p q =
    let l : length d₁ ≡ length d = ap length p.bytes ∙ length-sets d i s in
    let m : length (s ++ t) ≡ length s + length t = length-append s t in
    let a = p.place in
    let b = q.place in
    let c : i₁ ≡ min (i + length s) (length d₁) = a ∙ ap (λ (n : ℕ). min (i + length s) n) (sym l) in
    record {
      bytes = q.bytes ∙ ap (λ (k : ℕ). sets d₁ k t) c ∙ clipped t d₁ (i + length s) ∙ ap (λ (e : List ℕ). sets e (i + length s) t) p.bytes ∙ sym (sets_append s t d i);
      place = omega arith;
    }

pub puts_none : (d : List ℕ) (i : ℕ) → i ≤ length d → Puts d i [] d i
puts_none d i h = record { bytes = refl; place = omega arith }

-- The bytes one after the other, as a loop goes.
pub byte_next : (d s d₁ : List ℕ) (i k to : ℕ) → k < length s → to ≡ i + k → sets d i s ≡ sets d₁ (i + k) (drop k s)
    → sets d i s ≡ sets (set d₁ to (get_or s k 0)) (i + (k + 1)) (drop (k + 1) s)
byte_next d s d₁ i k to h e f =
    let n : suc (i + k) ≡ i + (k + 1) = omega arith in
    let m : suc k ≡ k + 1 = omega arith in
    f ∙ ap (λ (l : List ℕ). sets d₁ (i + k) l) (drop-cons s k 0 h)
    ∙ ap (λ (j : ℕ). sets (set d₁ j (get_or s k 0)) (suc (i + k)) (drop (suc k) s)) (sym e)
    ∙ ap (λ (j : ℕ). sets (set d₁ to (get_or s k 0)) j (drop (suc k) s)) n
    ∙ ap (λ (j : ℕ). sets (set d₁ to (get_or s k 0)) (i + (k + 1)) (drop j s)) m

pub byte_full : (d s d₁ : List ℕ) (i k : ℕ) → length d₁ ≤ i + k → sets d i s ≡ sets d₁ (i + k) (drop k s) → d₁ ≡ sets d i s
byte_full d s d₁ i k h f = sym (f ∙ sets_out (drop k s) d₁ (i + k) h)

pub byte_end : (d s d₁ : List ℕ) (i k : ℕ) → length s ≤ k → sets d i s ≡ sets d₁ (i + k) (drop k s) → d₁ ≡ sets d i s
byte_end d s d₁ i k h f = sym (f ∙ ap (λ (l : List ℕ). sets d₁ (i + k) l) (drop_of_length-le s {i = k} h))
