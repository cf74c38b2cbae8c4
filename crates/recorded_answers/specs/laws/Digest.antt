-- Laws of digests: one element more, and the end; what numbers themselves have.
use Rattle.std.specs.Prelude.{◌≡◌, List, [], ◌∷◌, ℕ, suc, ◌+◌, ◌<◌, ◌≤◌, length, get_or, drop}
use Rattle.std.proofs.Common.{subst, sym, ap, ◌∙◌, add-one, drop_of_length-le, drop-cons}
use Rattle.recorded_answers.specs.Digest.{Digests, digest, digested}

pub digest_step : (h : ℕ) (s : List ℕ) (i : ℕ) → i < length s → digest h (drop i s) ≡ digest (digested h (get_or s i 0)) (drop (i + 1) s)
unfolding digest
digest_step h s i l = rw (add-one, drop-cons s i 0)

pub digest_all : (h : ℕ) (s : List ℕ) (i : ℕ) → length s ≤ i → digest h (drop i s) ≡ h
unfolding digest
digest_all h s i l = rw (drop_of_length-le s l)

module _ {T : Type 0} (converts : T → ℕ → Type 0) where
  -- one element more, a number n
  digests_more : (h n d : ℕ) (s : List T) (e : T) → converts e n → Digests converts (digested h n) s d → Digests converts h (e ∷ s) d
  unfolding Digests
  digests_more h n d s e k g = (n, k, g)

  pub digests_step : (h n d : ℕ) (s : List T) (i : ℕ) (e : T) → i < length s → e ≡ get_or s i e → converts e n
      → Digests converts (digested h n) (drop (i + 1) s) d → Digests converts h (drop i s) d
  digests_step h n d s i e l m k g =
      let u : drop i s ≡ e ∷ drop (i + 1) s = rw add-one (drop-cons s i e l ∙ ap (λ (x : T). x ∷ drop (suc i) s) (sym m)) in
      subst (λ (r : List T). Digests converts h r d) (sym u) (digests_more h n d (drop (i + 1) s) e k g)

  -- none is left
  pub digests_all : (h : ℕ) (s : List T) (i : ℕ) → length s ≤ i → Digests converts h (drop i s) h
  unfolding Digests
  digests_all h s i l = rw (drop_of_length-le s l)

-- a list of numbers as they are has its digest
pub digests_numbers : (h d : ℕ) (s : List ℕ) → Digests (λ x y. y ≡ x) h s d → d ≡ digest h s
unfolding digest Digests
digests_numbers h d [] e = e
digests_numbers h d (x ∷ s) (n, e, g) = digests_numbers (digested h n) d s g ∙ ap (λ (m : ℕ). digest (digested h m) s) e
