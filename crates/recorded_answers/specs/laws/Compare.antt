-- Laws of agreement: one number more agrees, and the ways to end.
use Rattle.std.specs.Prelude.{◌≡◌, refl, List, [], ◌∷◌, ℕ, ◌+◌, ◌<◌, ◌≤◌, length, get_or, drop}
use Rattle.std.proofs.Common.{arith, add-one, drop_of_length-le, drop-cons, eq-eqb, ne_eqb}
use Rattle.recorded_answers.specs.Compare.{common}

pub common_step : (a b : List ℕ) (i : ℕ) → i < length a → i < length b → get_or a i 0 ≡ get_or b i 0 → i + common (drop i a) (drop i b) ≡ i + 1 + common (drop (i + 1) a) (drop (i + 1) b)
unfolding common
common_step a b i l m e = rw (add-one, drop-cons a i 0, drop-cons b i 0, eq-eqb (get_or a i 0) (get_or b i 0) e) (omega arith)

pub common_differs : (a b : List ℕ) (i : ℕ) → i < length a → i < length b → (get_or a i 0 ≡ get_or b i 0 → ⊥) → i + common (drop i a) (drop i b) ≡ i
unfolding common
common_differs a b i l m e = rw (drop-cons a i 0, drop-cons b i 0, ne_eqb (get_or a i 0) (get_or b i 0) e) (omega arith)

pub common_short : (a b : List ℕ) (i : ℕ) → length a ≤ i → i + common (drop i a) (drop i b) ≡ i
unfolding common
common_short a b i l = rw (drop_of_length-le a l) (omega arith)

common_none : (a : List ℕ) → common a [] ≡ 0
unfolding common
common_none [] = refl
common_none (x ∷ a) = refl

pub common_end : (a b : List ℕ) (i : ℕ) → length b ≤ i → i + common (drop i a) (drop i b) ≡ i
common_end a b i l = rw (drop_of_length-le b l, common_none (drop i a)) (omega arith)
