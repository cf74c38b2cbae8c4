-- The test of sameness passes exactly equal lists; and its loop.
use Rattle.std.specs.Prelude.{◌≡◌, refl, Bool, false, ◌&&◌, ◌↔◌, List, [], ◌∷◌, ℕ, suc}
use Rattle.std.proofs.Math.Path.{ap}
use Rattle.std.proofs.Common.{eqb-true, eq-eqb}
use Rattle.std.proofs.Math.Bool.{true}
use Rattle.std.proofs.lemmas.Bool.{false≢true}
use Rattle.std.proofs.Math.Dec.{eqb}
use Rattle.std.proofs.Math.ListN.{length}
use lib.Pointwise.{pointwise}
use Rattle.laws.specs.laws.Cases.{and-true}
use Rattle.lent_lists.specs.Same.{same_by, same}

same_equal : (a b : List ℕ) → same a b ≡ true → a ≡ b
unfolding same_by
same_equal [] [] e = refl
same_equal [] (y ∷ m) e = absurd (false≢true e)
same_equal (x ∷ l) [] e = absurd (false≢true e)
same_equal (x ∷ l) (y ∷ m) e = let p = and-true (eqb x y) (same l m) e in rw (eqb-true x y p.0, same_equal l m p.1)

same_itself : (a : List ℕ) → same a a ≡ true
unfolding same_by
same_itself [] = refl
same_itself (x ∷ l) = rw (eq-eqb x x refl) (same_itself l)

pub same_iff : (a b : List ℕ) → (same a b ≡ true) ↔ (a ≡ b)
same_iff a b = (same_equal a b, λ e. rw e (same_itself b))

pub other_length : (a b : List ℕ) → (length a ≡ length b → ⊥) → same a b ≡ false
other_length a b n = go (same a b) refl
  where
    go : (t : Bool) → same a b ≡ t → t ≡ false
    go true e = absurd (n (ap length (same_equal a b e)))
    go false e = refl

-- std's test of two slices
pub pointwise_same : {A : Type 0} (eq : A → A → Bool) (a b : List A) → pointwise eq a b ≡ same_by eq a b
unfolding same_by
pointwise_same eq [] [] = refl
pointwise_same eq [] (y ∷ m) = refl
pointwise_same eq (x ∷ l) [] = refl
pointwise_same eq (x ∷ l) (y ∷ m) = ap (λ (t : Bool). eq x y && t) (pointwise_same eq l m)

no_more : (t b : Bool) → false ≡ b → false ≡ t && b
no_more true b e = e
no_more false b e = refl

-- lists of two lengths are not the same
pub other_lengths : {A : Type 0} (eq : A → A → Bool) (a b : List A) → (length a ≡ length b → ⊥) → false ≡ same_by eq a b
unfolding same_by
other_lengths eq [] [] n = absurd (n refl)
other_lengths eq [] (y ∷ m) n = refl
other_lengths eq (x ∷ l) [] n = refl
other_lengths eq (x ∷ l) (y ∷ m) n = no_more (eq x y) (same_by eq l m) (other_lengths eq l m (λ e. n (ap suc e)))
