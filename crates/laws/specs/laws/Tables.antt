-- Laws: A rule over a whole table: one test that computes, and the rule at each entry.
use Rattle.std.specs.Prelude.{Bool, true, false, ◌&&◌, List, [], ◌∷◌, ◌≡◌, refl, ◌⊎◌, ℕ, zero, suc, ◌+◌, ◌≤◌, ◌<◌, T, length, get_or, drop}
use Rattle.std.proofs.lemmas.Bool.{false≢true}
use Rattle.std.proofs.Common.{sym, inl, inr, add-one, arith, not-suc-le-zero, le_of_suc-le-suc, drop_of_length-le, drop-cons}
use Rattle.std.specs.Float.Ieee.Fits.{and_i, and_l, and_r}
use Rattle.laws.specs.laws.Cases.{eq_or_ne}
use Rattle.laws.specs.Tables.{each, every}

module _ {A : Type 0} (rule : A → Bool) where
  pub at_each : (xs : List A) → T (every rule xs) → (d : A) (k : ℕ) → k < length xs → T (rule (get_or xs k d))
  at_each [] t d k h = absurd (not-suc-le-zero h)
  at_each (x ∷ xs) t d zero h = and_l (rule x) (every rule xs) t
  at_each (x ∷ xs) t d (suc k) h = at_each xs (and_r (rule x) (every rule xs) t) d k (le_of_suc-le-suc h)

  pub each_every : (xs : List A) (d : A) → ((k : ℕ) → k < length xs → T (rule (get_or xs k d))) → T (every rule xs)
  each_every [] d f = tt
  each_every (x ∷ xs) d f = and_i (rule x) (every rule xs) (f 0 (omega arith)) (each_every xs d (λ k h. f (suc k) (omega arith)))

  -- where not all pass, one does not
  pub some_fails : (xs : List A) (d : A) → every rule xs ≡ false → (k : ℕ) × (k < length xs) × (rule (get_or xs k d) ≡ false)
  some_fails [] d e = absurd (false≢true (sym e))
  some_fails (x ∷ xs) d e = go (rule x) refl (λ f. some_fails xs d f)
    where
      go : (b : Bool) → rule x ≡ b → (every rule xs ≡ false → (k : ℕ) × (k < length xs) × (rule (get_or xs k d) ≡ false))
          → (k : ℕ) × (k < length (x ∷ xs)) × (rule (get_or (x ∷ xs) k d) ≡ false)
      go false f rest = (0, omega arith, f)
      go true f rest = let r = rest (rw f at e) in (suc r.0, omega (arith, r.1), r.2)

  -- as a loop over indices tests it
  pub every_step : (xs : List A) (d : A) (k : ℕ) → k < length xs → every rule (drop k xs) ≡ rule (get_or xs k d) && every rule (drop (k + 1) xs)
  every_step xs d k h = rw (drop-cons xs k d h, add-one k)

  pub every_done : (xs : List A) (k : ℕ) → length xs ≤ k → every rule (drop k xs) ≡ true
  every_done xs k h = rw (drop_of_length-le xs {i = k} h)

-- A rule over the numbers o, o + 1, .., n of them.
module _ (rule : ℕ → Bool) where
  pub each_at : (n o : ℕ) → T (each rule n o) → (k : ℕ) → o ≤ k → k < o + n → T (rule k)
  each_at zero o t k l h = absurd (omega arith)
  each_at (suc n) o t k l h = go (eq_or_ne k o) (λ a b. each_at n (o + 1) (and_r (rule o) (each rule n (o + 1)) t) k a b)
    where
      go : (k ≡ o) ⊎ (k ≡ o → ⊥) → (o + 1 ≤ k → k < o + 1 + n → T (rule k)) → T (rule k)
      go (inl e) rest = rw e (and_l (rule o) (each rule n (o + 1)) t)
      go (inr d) rest = rest (omega arith) (omega arith)
