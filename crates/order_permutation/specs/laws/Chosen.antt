-- What digits choose: each place as often as before, and an order if it was one.
use Rattle.std.specs.Prelude.{◌≡◌, refl, List, [], ◌∷◌, ℕ, zero, suc, ◌+◌, ◌*◌, ◌-◌, ◌/◌, ◌<◌, length, get_or, take, drop}
use Rattle.std.proofs.Common.{ap, sym, ◌∙◌, not-suc-le-zero, le_of_suc-le-suc, div-le_self, arith, take-append-drop, length-drop, take_at, length-take-le}
use Rattle.order_natural.specs.Places.{Place, is, tally, count}
use Rattle.order_natural.specs.Order.{Size, Order}
use Rattle.order_natural.proofs.laws.Counts.{count_append}
use Rattle.order_natural.proofs.laws.Listing.{listing_length}
use Rattle.order_permutation.specs.Digits.{without, chosen, ordered, Below}

module _ {A : Type 0} where
  pub without_length : (d : ℕ) (l : List A) → d < length l → length (without d l) ≡ length l - 1
  without_length d [] h = absurd (not-suc-le-zero h)
  without_length zero (p ∷ l) h = omega arith
  without_length (suc d) (p ∷ l) h = let r = without_length d l (le_of_suc-le-suc h) in omega arith

pub without_count : (x y d : ℕ) (l : List Place) → d < length l → count x y l ≡ tally (is x y (get_or l d (0, 0))) + count x y (without d l)
without_count x y d [] h = absurd (not-suc-le-zero h)
without_count x y zero (p ∷ l) h = refl
without_count x y (suc d) (p ∷ l) h = omega (arith, without_count x y d l (le_of_suc-le-suc h))

-- what is chosen is a permutation
pub chosen_count : (x y : ℕ) (ds : List ℕ) (rest : List Place) → Below ds (length rest) → count x y (chosen (0, 0) ds rest) ≡ count x y rest
chosen_count x y [] rest b = refl
chosen_count x y (d ∷ ds) rest b =
    omega (arith, without_count x y d rest b.0, chosen_count x y ds (without d rest) (rw (without_length d rest b.0) b.1))

-- digits make an order of an order
pub ordered_order : (width height : ℕ) → Size width height → (l : List Place) → Order width height l → (ds : List ℕ) → Below ds (width * height - width * height / 64) → Order width height (ordered (0, 0) (width * height / 64) l ds)
ordered_order width height z l o ds b =
    let skip = width * height / 64 in
    let n = listing_length width height l o.cells in
    let b' : Below ds (length (drop skip l)) = rw (length-drop skip l, n) b in
    record {
      cells = λ x y. count_append x y (take skip l) (chosen (0, 0) ds (drop skip l))
          ∙ ap (λ (m : ℕ). count x y (take skip l) + m) (chosen_count x y ds (drop skip l) b')
          ∙ sym (count_append x y (take skip l) (drop skip l))
          ∙ ap (λ (m : List Place). count x y m) (take-append-drop skip l)
          ∙ o.cells x y;
      corner = take_at (take skip l) (chosen (0, 0) ds (drop skip l)) skip (length-take-le skip l (omega (arith, div-le_self (width * height) 64))) ∙ o.corner;
    }
