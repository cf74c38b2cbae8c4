-- Counts that are used up, and one that is not or cannot be (document 02, Nos. 8 and 9).
use Rattle.std.specs.Prelude.{◌≡◌, List, [], ◌∷◌, ◌++◌, ℕ, ◌+◌, ◌*◌, ◌<◌, ◌≤◌, length}
use Rattle.coeff_walk.specs.Item.{Item}
use Rattle.coeff_walk.specs.Sent.{non_zeros, sent}

-- a symbol for each place of each item
abbrev pub Long : List Item → List (List ℕ) → Type 0
Long [] [] = Unit
Long [] (ds ∷ dss) = ⊥
Long (it ∷ its) [] = ⊥
Long (it ∷ its) (ds ∷ dss) = (length ds ≡ length it.cells) × Long its dss

-- the symbols s of items in turn that have used their counts up, as `sent` has them; of an item only the number of its places counts here
pub record CountsUsed (its : List Item) (s : List ℕ) : Type 0 where
  pub dss : List (List ℕ)
  pub long : Long its dss
  pub are : s ≡ sent dss

-- the symbols s of an item whose last place is passed with count remaining: a count that 16 lets pass, and a symbol for each place, fewer of them not
-- 0 than the count says; 17 is not judged here
pub record CountRemains (it : Item) (s : List ℕ) : Type 0 where
  pub count : ℕ
  pub most : count ≤ 63 * it.blocks
  pub ds : List ℕ
  pub long : length ds ≡ length it.cells
  pub fewer : non_zeros ds < count
  pub are : s ≡ count ∷ ds

-- the symbols s of an item of which more coefficients are due than places remain (document 02, No. 9): a count that 16 lets pass, and a symbol for each
-- place passed; what is still due of the count is above the number of the places that remain, of which there is one at least
pub record MoreDue (it : Item) (s : List ℕ) : Type 0 where
  pub count : ℕ
  pub most : count ≤ 63 * it.blocks
  pub ds : List ℕ
  pub due : ℕ
  pub still : count ≡ non_zeros ds + due
  pub places_left : ℕ
  pub places : length it.cells ≡ length ds + places_left
  pub some : 1 ≤ places_left
  pub more : places_left < due
  pub are : s ≡ count ∷ ds

-- the symbols s of items in turn: earlier ones that have used their counts up, then one of whose symbols Q holds; none of those behind
pub record StoppedAmong (Q : Item → List ℕ → Type 0) (its : List Item) (s : List ℕ) : Type 0 where
  pub before : List Item
  pub it : Item
  pub behind : List Item
  pub parts : its ≡ before ++ (it ∷ behind)
  pub earlier : List ℕ
  pub last : List ℕ
  pub used : CountsUsed before earlier
  pub holds : Q it last
  pub are : s ≡ earlier ++ last
