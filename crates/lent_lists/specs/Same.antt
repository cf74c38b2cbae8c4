-- Whether two lists are the same, as a test: laws, same-iff.
use Rattle.std.specs.Prelude.{Bool, true, false, ◌&&◌, List, [], ◌∷◌, ℕ, eqb}

-- as long, and the same by a test of each element and its other
unfoldable pub same_by : {A : Type 0} → (A → A → Bool) → List A → List A → Bool
same_by eq [] [] = true
same_by eq [] (b ∷ m) = false
same_by eq (a ∷ l) [] = false
same_by eq (a ∷ l) (b ∷ m) = eq a b && same_by eq l m

-- number for number
abbrev pub same : List ℕ → List ℕ → Bool
same = same_by eqb
