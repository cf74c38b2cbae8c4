-- A list whose first places were given one value.
use Rattle.std.specs.Prelude.{◌≡◌, refl, List, [], ◌∷◌, ◌++◌, ℕ, zero, suc, ◌+◌, ◌<◌, length, set, drop, replicate}
use Rattle.std.proofs.Common.{ap, sym, subst, ◌∙◌, append-nil, add-one, arith}
use Rattle.std.proofs.Math.Seq.{drop-length}

more : {A : Type 0} (v : A) (n : ℕ) (d : List A) → n < length d → set (replicate n v ++ drop n d) n v ≡ replicate (suc n) v ++ drop (suc n) d
more v zero [] h = absurd (omega arith)
more v zero (x ∷ d) h = refl
more v (suc n) [] h = absurd (omega arith)
more {A} v (suc n) (x ∷ d) h = ap (λ (t : List A). v ∷ t) (more v n d (omega arith))

pub filled_more : {A : Type 0} (v : A) (n : ℕ) (d : List A) → n < length d → set (replicate n v ++ drop n d) n v ≡ replicate (n + 1) v ++ drop (n + 1) d
filled_more {A} v n d h = subst (λ (k : ℕ). set (replicate n v ++ drop n d) n v ≡ replicate k v ++ drop k d) (sym (add-one n)) (more v n d h)

pub filled_all : {A : Type 0} (v : A) (i : ℕ) (d : List A) → i ≡ length d → replicate i v ++ drop i d ≡ replicate (length d) v
filled_all {A} v i d e =
    subst (λ (k : ℕ). replicate k v ++ drop k d ≡ replicate (length d) v) (sym e)
    (ap (λ (t : List A). replicate (length d) v ++ t) (drop-length d) ∙ append-nil (replicate (length d) v))
