-- What an error told anew says of the result before.
use Rattle.std.specs.Prelude.{◌≡◌, refl, ℕ, Result, Ok, Err, MatchResult, IsErrAnd}
use Rattle.std.proofs.Common.{subst, arith}

module _ {T E D : Type 0} (r : Result T E) (m : Result T D) (P : E → D → Type 0) (told : MatchResult r (λ v. m ≡ Ok v) (λ e. IsErrAnd m (P e))) where
  pub mapped_ok : (x : T) → m ≡ Ok x → r ≡ Ok x
  mapped_ok = go r told
    where
      go : (r : Result T E) → MatchResult r (λ v. m ≡ Ok v) (λ e. IsErrAnd m (P e)) → (x : T) → m ≡ Ok x → r ≡ Ok x
      go (Ok v) t x e = cc
      go (Err d) t x e = absurd (subst (λ (z : Result T D). IsErrAnd z (P d)) e t)

  pub mapped_err : (d : D) → m ≡ Err d → (e : E) × (r ≡ Err e) × P e d
  mapped_err = go r told
    where
      go : (r : Result T E) → MatchResult r (λ v. m ≡ Ok v) (λ e. IsErrAnd m (P e)) → (d : D) → m ≡ Err d → (e : E) × (r ≡ Err e) × P e d
      go (Ok v) t d e = absurd (let z : ◌≡◌ {A = ℕ} 0 1 = cc in omega arith)
      go (Err f) t d e = (f, refl, subst (λ (z : Result T D). IsErrAnd z (P f)) e t)
