-- What permuting a lent list of places answers and leaves (document 01, Orders).
use Rattle.std.specs.Prelude.{Bool, true, cond, ◌&&◌, List, [], ◌∷◌, ℕ, ◌-◌, ◌/◌, ◌%◌, ltb, leb, eqb, length}
use Rattle.order_natural.specs.Places.{flat, paired}
use Rattle.order_digits.specs.laws.Leading.{leading}
use Rattle.order_permutation.specs.Digits.{ordered}

unfoldable pub all_below : ℕ → List ℕ → Bool
all_below n [] = true
all_below n (x ∷ l) = ltb x n && all_below n l

-- whole places, at most 65,536 of them, x and y below 256; the fixed ones are there; each digit is below what remains
unfoldable pub permutable : List ℕ → ℕ → List ℕ → Bool
permutable list skip ds =
    eqb (length list % 2) 0 && (leb (length list / 2) 65536 && (leb skip (length list / 2) && (all_below 256 list && eqb (leading ds (length list / 2 - skip)) (length ds))))

unfoldable pub permuted : List ℕ → ℕ → List ℕ → List ℕ
permuted list skip ds = cond (permutable list skip ds) (flat (ordered (0, 0) skip (paired list) ds)) list
