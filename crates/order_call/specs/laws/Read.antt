-- Laws: What a reading gives, and where a refusal stands.
use Rattle.std.specs.Prelude.{◌≡◌, Bool, false, List, [], ◌∷◌, ◌++◌, ℕ, ◌+◌, ◌*◌, ◌-◌, ◌/◌, ◌≤◌, length}
use Rattle.refusal.specs.declared.Refusal.{Refusal}
use Rattle.order_natural.specs.Places.{Place}
use Rattle.order_natural.specs.Natural.{natural}
use Rattle.order_natural.specs.Order.{Size, Order}
use Rattle.order_permutation.specs.Digits.{Below, ordered}
use Rattle.order_call.specs.Orders.{FromSymbols, Given, Refused, Entry}

-- what holds of a result, or of a refusal
abbrev pub Holds : {A : Type 0} → (A → List ℕ → ℕ → Type 0) → (Refusal → Type 0) → FromSymbols A → Type 0
Holds P Q (Given a us at) = P a us at
Holds P Q (Refused why) = Q why

-- n digits, each below what remains, are the next n symbols
pub record Took (n left : ℕ) (us : List ℕ) (at : ℕ) (ds vs : List ℕ) (m : ℕ) : Type 0 where
  pub below : Below ds left
  pub many : length ds ≡ n
  pub order : us ≡ ds ++ vs
  pub read : m ≡ at + n

-- a used list: its length and digits are the next symbols, and they choose its order
pub record OneGiven (width height : ℕ) (us : List ℕ) (at : ℕ) (l : List Place) (vs : List ℕ) (m : ℕ) : Type 0 where
  pub chose : List ℕ
  pub below : Below chose (width * height - width * height / 64)
  pub symbols : us ≡ length chose ∷ chose ++ vs
  pub list : l ≡ ordered (0, 0) (width * height / 64) (natural width height) chose
  pub read : m ≡ at + 1 + length chose

-- any list of the store
pub record ListGiven (used : Bool) (width height : ℕ) (l : List Place) : Type 0 where
  pub order : Order width height l
  pub unused : used ≡ false → l ≡ natural width height

-- m of `all` symbols are read, `at` before, and vs are left
pub record Counted (at all : ℕ) (vs : List ℕ) (m : ℕ) : Type 0 where
  pub on : at ≤ m
  pub left : m + length vs ≡ all

abbrev pub EntryGiven : Bool → ℕ → ℕ → ℕ → ℕ → List Place → List ℕ → ℕ → Type 0
EntryGiven used width height at all l vs m = ListGiven used width height l × Counted at all vs m

abbrev pub Sized : List Entry → Type 0
Sized [] = Unit
Sized (e ∷ es) = Size e.width e.height × Sized es

-- a list for each entry
abbrev pub Each : List Entry → List (List Place) → Type 0
Each [] [] = Unit
Each [] (l ∷ ls) = ⊥
Each (e ∷ es) [] = ⊥
Each (e ∷ es) (l ∷ ls) = ListGiven e.used e.width e.height l × Each es ls

abbrev pub AllGiven : List Entry → ℕ → ℕ → List (List Place) → List ℕ → ℕ → Type 0
AllGiven es at all ls vs m = Each es ls × Counted at all vs m
