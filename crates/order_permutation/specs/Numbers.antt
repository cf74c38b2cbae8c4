-- The same by numbers (document 01, Orders): the numbers 0, 1, .. of the natural order are put in order, and each names its place.
use Rattle.std.specs.Prelude.{List, [], ◌∷◌, ◌++◌, ℕ, zero, suc, ◌-◌}
use Rattle.order_permutation.specs.Digits.{chosen}

-- o, o + 1, .., n of them
abbrev pub upto : ℕ → ℕ → List ℕ
upto zero o = []
upto (suc n) o = o ∷ upto n (suc o)

-- the first `skip` numbers fixed, the ascending rest by digits
abbrev pub numbers : ℕ → ℕ → List ℕ → List ℕ
numbers size skip ds = upto skip 0 ++ chosen 0 ds (upto (size - skip) skip)
