-- The text of a job depends on its own bytes alone, and they are all that is read (document 01, The lister: "what follows is not read").
use Rattle.std.specs.Prelude.{◌≡◌, refl, Bool, true, false, cond, List, [], ◌++◌, ◌⊎◌, ℕ, zero, suc, ◌+◌, ◌≤◌, min, eqb, length, take, drop}
use Rattle.std.proofs.Common.{ap, sym, ◌∙◌, append-nil, inl, inr, arith, length-append, length-take}
use Rattle.std.proofs.Math.Seq.{take-nil, drop-nil}
use Rattle.laws.specs.laws.Cases.{eq_or_ne}
use Rattle.laws.specs.laws.Lists.{no_elements}
use Rattle.lister_job.specs.Job.{has_size, is_job, needed, read_by, read, Same}
use Rattle.lister_job.proofs.laws.Needed.{needed_none, needed_job, needed_fits}
use Rattle.lister_job.proofs.laws.Reading.{read_stops, read_goes, seam}
use Rattle.lister.specs.Listing.{text_of}

same_text : (s s' : List ℕ) → Same s s' → text_of s' ≡ text_of s
unfolding text_of
same_text s s' e = go (has_size s) refl
  where
    go : (b : Bool) → has_size s ≡ b → text_of s' ≡ text_of s
    go true h = rw (e.size_is, e.width_is h, e.height_is h, e.end_is h, e.types_are h, e.muls_are h)
    go false h = rw (e.size_is, h)

-- where nothing more is needed, nothing that follows changes the text
pub text_decided : (s u : List ℕ) → needed s ≡ 0 → text_of (s ++ u) ≡ text_of s
text_decided s u e = same_text s (s ++ u) (needed_none s u e)

-- whatever follows a job, its text is the job's
pub text_job : (j u : List ℕ) → is_job j ≡ true → text_of (j ++ u) ≡ text_of j
text_job j u job = text_decided j u (needed_job j job)

-- where input has ended
read_none : (n : ℕ) (s : List ℕ) → read_by n s [] ≡ s
unfolding read_by
read_none zero s = refl
read_none (suc n) s = rw (take-nil {A = ℕ} (needed s), drop-nil {A = ℕ} (needed s), append-nil s, read_none n s) (same (eqb (needed s) 0))
  where
    same : (b : Bool) → cond b s s ≡ s
    same true = refl
    same false = refl

read_rest : (n : ℕ) (s u : List ℕ) → length s ≤ 36870 → 36870 ≤ length s + n → text_of (read_by n s u) ≡ text_of (s ++ u)
read_rest zero s u h l = let f = needed_fits s h in ap text_of (read_stops zero s u (omega arith)) ∙ sym (text_decided s u (omega arith))
read_rest (suc n) s u h l = go (eq_or_ne (needed s) 0) (eq_or_ne (length u) 0) (read_rest n (s ++ take (needed s) u) (drop (needed s) u))
  where
    grown : length (s ++ take (needed s) u) ≡ length s + min (needed s) (length u)
    grown = length-append s (take (needed s) u) ∙ ap (λ (k : ℕ). length s + k) (length-take (needed s) u)

    go : (needed s ≡ 0) ⊎ (needed s ≡ 0 → ⊥) → (length u ≡ 0) ⊎ (length u ≡ 0 → ⊥)
        → (length (s ++ take (needed s) u) ≤ 36870 → 36870 ≤ length (s ++ take (needed s) u) + n → text_of (read_by n (s ++ take (needed s) u) (drop (needed s) u)) ≡ text_of ((s ++ take (needed s) u) ++ drop (needed s) u))
        → text_of (read_by (suc n) s u) ≡ text_of (s ++ u)
    go (inl z) e r = ap text_of (read_stops (suc n) s u z) ∙ sym (text_decided s u z)
    go (inr z) (inl e) r = rw (no_elements u e) (ap text_of (read_none (suc n) s ∙ sym (append-nil s)))
    go (inr z) (inr e) r =
        let f = needed_fits s h in
        ap text_of (read_goes n s u (omega arith)) ∙ r (omega (arith, grown)) (omega (arith, grown)) ∙ ap text_of (seam s u (needed s))

-- whatever the bytes, those that are read have the text of them all
pub text_read : (u : List ℕ) → text_of (read u) ≡ text_of u
text_read u = read_rest 36870 [] u (omega arith) (omega arith)
