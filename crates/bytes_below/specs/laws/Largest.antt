-- The largest of a list against a count.
use Rattle.std.specs.Prelude.{◌≡◌, refl, Bool, true, false, ◌&&◌, List, [], ◌∷◌, ℕ, max, fold, get_or, drop, ◌+◌, ◌≤◌, ◌<◌, eqb, ltb, length}
use Rattle.std.proofs.Common.{ap, sym, ◌∙◌, ⊎_elim, arith, add-one, drop_of_length-le, drop-cons, lt-ltb, le-ltb}
use Rattle.std.proofs.Math.Bool.{and_assoc}
use Rattle.laws.specs.laws.Cases.{le_or_lt}
use Rattle.bytes_below.specs.Below.{bytes_below}

-- place by place
module _ (xs : List ℕ) (m k : ℕ) where
  pub largest_step : k < length xs → fold max m (drop k xs) ≡ fold max (max m (get_or xs k 0)) (drop (k + 1) xs)
  largest_step h = rw (drop-cons xs k 0 h, add-one k)

  pub largest_done : length xs ≤ k → fold max m (drop k xs) ≡ m
  largest_done h = rw (drop_of_length-le xs {i = k} h)

larger_below : (a b n : ℕ) → ltb (max a b) n ≡ ltb a n && ltb b n
larger_below a b n =
    ⊎_elim
    (λ (h : n ≤ a). le-ltb (max a b) n (omega arith) ∙ sym (rw (le-ltb a n h)))
    (λ (h : a < n).
    ⊎_elim
    (λ (k : n ≤ b). le-ltb (max a b) n (omega arith) ∙ sym (rw (lt-ltb a n h, le-ltb b n k)))
    (λ (k : b < n). lt-ltb (max a b) n (omega arith) ∙ sym (rw (lt-ltb a n h, lt-ltb b n k)))
    (le_or_lt n b))
    (le_or_lt n a)

from_below : (n m : ℕ) (bs : List ℕ) → ltb (fold max m bs) n ≡ ltb m n && bytes_below n bs
from_below n m [] = go (ltb m n)
  where
    go : (b : Bool) → b ≡ b && true
    go true = refl
    go false = refl
from_below n m (b ∷ bs) =
    from_below n (max m b) bs ∙ ap (λ (t : Bool). t && bytes_below n bs) (larger_below m b n) ∙ and_assoc (ltb m n) (ltb b n) (bytes_below n bs)

-- of a list that is not empty
pub largest_below : (n : ℕ) (bs : List ℕ) → 0 < length bs → ltb (fold max 0 bs) n ≡ bytes_below n bs
largest_below n [] h = absurd (omega arith)
largest_below n (b ∷ bs) h =
    from_below n (max 0 b) bs ∙ (let e : max 0 b ≡ b = omega arith in ap (λ (m : ℕ). ltb m n && bytes_below n bs) e)

-- as the code tests that
pub largest_some : (n : ℕ) (bs : List ℕ) → eqb (length bs) 0 ≡ false → ltb (fold max 0 bs) n ≡ bytes_below n bs
largest_some n [] h = absurd (let z : ◌≡◌ {A = ℕ} 0 1 = cc in omega arith)
largest_some n (b ∷ bs) h = largest_below n (b ∷ bs) (omega arith)

pub none_below : (n : ℕ) (bs : List ℕ) → length bs ≡ 0 → true ≡ bytes_below n bs
none_below n [] h = refl
none_below n (b ∷ bs) h = absurd (omega arith)
