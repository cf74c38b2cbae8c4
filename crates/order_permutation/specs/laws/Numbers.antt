-- Laws: The same by numbers (document 01, Orders): the numbers 0, 1, .. of the natural order are put in order, and each names its place.
use Rattle.std.specs.Prelude.{◌≡◌, refl, List, [], ◌∷◌, ◌++◌, map, ℕ, zero, suc, ◌+◌, ◌-◌, ◌<◌, ◌≤◌, length, get_or, take, drop}
use Rattle.std.proofs.Common.{ap, ap₂, sym, ◌∙◌, not-suc-le-zero, le_of_suc-le-suc, arith, length-drop, drop-cons, take_all}
use Rattle.std.proofs.lemmas.List.{map-append}
use Rattle.order_natural.specs.Places.{Place}
use Rattle.order_permutation.specs.Digits.{without, chosen, ordered, Below}
use Rattle.order_permutation.specs.laws.Chosen.{without_length}
use Rattle.order_permutation.specs.Numbers.{numbers, upto}

upto_length : (n o : ℕ) → length (upto n o) ≡ n
upto_length zero o = refl
upto_length (suc n) o = ap suc (upto_length n (suc o))

module _ (f : ℕ → Place) where
  map_at : (l : List ℕ) (d : ℕ) → d < length l → get_or (map f l) d (0, 0) ≡ f (get_or l d 0)
  map_at [] d h = absurd (not-suc-le-zero h)
  map_at (n ∷ l) zero h = refl
  map_at (n ∷ l) (suc d) h = map_at l d (le_of_suc-le-suc h)

  map_without : (l : List ℕ) (d : ℕ) → map f (without d l) ≡ without d (map f l)
  map_without [] d = refl
  map_without (n ∷ l) zero = refl
  map_without (n ∷ l) (suc d) = ap (λ (r : List Place). f n ∷ r) (map_without l d)

  pub map_chosen : (ds l : List ℕ) → Below ds (length l) → map f (chosen 0 ds l) ≡ chosen (0, 0) ds (map f l)
  map_chosen [] l b = refl
  map_chosen (d ∷ ds) l b =
      ap₂ (λ (p : Place) (r : List Place). p ∷ r) (sym (map_at l d b.0))
      (map_chosen ds (without d l) (rw (without_length d l b.0) b.1) ∙ ap (chosen (0, 0) ds) (map_without l d))

map_upto : (l : List Place) (n o : ℕ) → o + n ≤ length l → map (λ (i : ℕ). get_or l i (0, 0)) (upto n o) ≡ take n (drop o l)
map_upto l zero o h = refl
map_upto l (suc n) o h =
    rw (drop-cons l o (0, 0) (omega arith)) (ap (λ (r : List Place). get_or l o (0, 0) ∷ r) (map_upto l n (suc o) (omega arith)))

-- the first numbers fixed; from the ascending rest each digit takes one, and the remainder follows ascending
pub ordered_numbers : (l : List Place) (skip : ℕ) (ds : List ℕ) → skip ≤ length l → Below ds (length l - skip)
    → ordered (0, 0) skip l ds ≡ map (λ (i : ℕ). get_or l i (0, 0)) (numbers (length l) skip ds)
ordered_numbers l skip ds h b =
    let f : ℕ → Place = λ i. get_or l i (0, 0) in
    let n = length l - skip in
    let e : map f (upto n skip) ≡ drop skip l = map_upto l n skip (omega arith) ∙ take_all n (drop skip l) (omega (arith, length-drop skip l)) in
    sym (map-append f (upto skip 0) (chosen 0 ds (upto n skip))
    ∙ ap₂ (λ (a b : List Place). a ++ b) (map_upto l skip 0 (omega arith)) (map_chosen f ds (upto n skip) (rw (upto_length n skip) b) ∙ ap (chosen (0, 0) ds) e))
