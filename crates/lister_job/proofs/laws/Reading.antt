-- A job is read record by record, and nothing behind its end (document 01, The lister).
use Rattle.std.specs.Prelude.{◌≡◌, refl, true, List, [], ◌∷◌, ◌++◌, ◌⊎◌, ℕ, zero, suc, ◌≤◌, ◌<◌, length, take, drop}
use Rattle.std.proofs.Common.{ap, sym, ◌∙◌, append-nil, append_assoc, inl, inr, arith, length-drop, take-append-drop, eq-eqb, ne_eqb}
use Rattle.std.proofs.lemmas.List.{take-append-le, drop-append-le}
use Rattle.laws.specs.laws.Cases.{eq_or_ne}
use Rattle.lister_job.specs.Job.{is_job, needed, read_by, read}
use Rattle.lister_job.proofs.laws.Needed.{needed_inside, needed_until, job_most}

pub read_stops : (n : ℕ) (s u : List ℕ) → needed s ≡ 0 → read_by n s u ≡ s
unfolding read_by
read_stops zero s u e = refl
read_stops (suc n) s u e = rw (eq-eqb (needed s) 0 e)

pub read_goes : (n : ℕ) (s u : List ℕ) → 0 < needed s → read_by (suc n) s u ≡ read_by n (s ++ take (needed s) u) (drop (needed s) u)
unfolding read_by
read_goes n s u h = rw (ne_eqb (needed s) 0 (λ e. omega arith))

-- what was read and what is left are the same bytes
pub seam : (s u : List ℕ) (m : ℕ) → (s ++ take m u) ++ drop m u ≡ s ++ u
seam s u m = append_assoc s (take m u) (drop m u) ∙ ap (λ (z : List ℕ). s ++ z) (take-append-drop m u)

-- a job that begins with s is read to its end
job_end : (n : ℕ) (s t u : List ℕ) → is_job (s ++ t) ≡ true → length t ≡ 0 → read_by n s (t ++ u) ≡ s ++ t
job_end n s [] u job h = let a = needed_inside s [] job in read_stops n s u (omega arith) ∙ sym (append-nil s)
job_end n s (x ∷ t) u job h = absurd (omega arith)

job_rest : (n : ℕ) (s t u : List ℕ) → is_job (s ++ t) ≡ true → length t ≤ n → read_by n s (t ++ u) ≡ s ++ t
job_rest zero s t u job h = job_end zero s t u job (omega arith)
job_rest (suc n) s t u job h = go (eq_or_ne (length t) 0) (job_rest n (s ++ take (needed s) t) (drop (needed s) t) u (rw (seam s t (needed s)) job))
  where
    go : (length t ≡ 0) ⊎ (length t ≡ 0 → ⊥)
        → (length (drop (needed s) t) ≤ n → read_by n (s ++ take (needed s) t) (drop (needed s) t ++ u) ≡ (s ++ take (needed s) t) ++ drop (needed s) t)
        → read_by (suc n) s (t ++ u) ≡ s ++ t
    go (inl z) r = job_end (suc n) s t u job z
    go (inr z) r =
        let l = needed_inside s t job in
        let p = needed_until s t job (omega arith) in
        read_goes n s (t ++ u) p ∙ rw (take-append-le (needed s) t u l, drop-append-le (needed s) t u l) (r (omega (arith, length-drop (needed s) t)) ∙ seam s t (needed s))

-- whatever follows a job, just the job is read
pub read_job : (j u : List ℕ) → is_job j ≡ true → read (j ++ u) ≡ j
read_job j u job = job_rest 36870 [] j u job (job_most j job)
