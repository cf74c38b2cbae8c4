-- Laws: Lists.
use Rattle.std.specs.Prelude.{◌≡◌, refl, List, [], ◌∷◌, ◌++◌, map, ℕ, zero, suc, ◌+◌, ◌-◌, ◌<◌, ◌≤◌, length, get_or, set, take, drop}
use Rattle.std.proofs.Common.{ap, ◌∙◌, append-nil, arith, length-drop, drop_of_length-le, take_all, length-take-le}
use Rattle.std.proofs.lemmas.List.Edits.{sets, sets-eq}
use Rattle.laws.specs.Lists.{tabulate}

-- a list of no elements
pub no_elements : {A : Type 0} (l : List A) → length l ≡ 0 → l ≡ []
no_elements [] e = refl
no_elements (x ∷ l) e = absurd (omega arith)

-- an entry of a list of images is the image of the entry
pub get_d_map : {A B : Type 0} (f : A → B) (l : List A) (k : ℕ) (d : A) → get_or (map f l) k (f d) ≡ f (get_or l k d)
get_d_map f [] k d = refl
get_d_map f (x ∷ l) zero d = refl
get_d_map f (x ∷ l) (suc k) d = get_d_map f l k d

-- one list behind the other, put into a third
pub sets_append : (s t d : List ℕ) (i : ℕ) → sets d i (s ++ t) ≡ sets (sets d i s) (i + length s) t
sets_append [] t d i = let e : i ≡ i + 0 = omega arith in ap (λ (k : ℕ). sets d k t) e
sets_append (a ∷ s) t d i =
    let e : suc i + length s ≡ i + suc (length s) = omega arith in
    sets_append s t (set d i a) (suc i) ∙ ap (λ (k : ℕ). sets (sets (set d i a) (suc i) s) k t) e

-- a list written over
pub sets_all : (l vs : List ℕ) → length vs ≡ length l → sets l 0 vs ≡ vs
sets_all l vs e =
    let z : length l ≤ 0 + length vs = omega arith in
    sets-eq vs l 0 (omega arith) ∙ ap (λ (r : List ℕ). vs ++ r) (drop_of_length-le l z) ∙ append-nil vs

-- a part, as it is lent
pub part_long : (l : List ℕ) (start end : ℕ) → start ≤ end → end ≤ length l → length (take (end - start) (drop start l)) ≡ end - start
part_long l start end a b = length-take-le (end - start) (drop start l) (omega (arith, length-drop start l))

-- what lies from k on, as it is lent
pub tail_all : (l : List ℕ) (k : ℕ) → take (length l - k) (drop k l) ≡ drop k l
tail_all l k = take_all (length l - k) (drop k l) (omega (arith, length-drop k l))

-- f o, f (o + 1), .., n of them
module _ {A : Type 0} (f : ℕ → A) where
  pub length_tabulate : (n o : ℕ) → length (tabulate f n o) ≡ n
  length_tabulate zero o = refl
  length_tabulate (suc n) o = ap suc (length_tabulate n (o + 1))

  pub get_d_tabulate : (n o k : ℕ) (d : A) → k < n → get_or (tabulate f n o) k d ≡ f (o + k)
  get_d_tabulate zero o k d h = absurd (omega arith)
  get_d_tabulate (suc n) o zero d h = let e : o ≡ o + 0 = omega arith in ap f e
  get_d_tabulate (suc n) o (suc k) d h =
      let e : o + 1 + k ≡ o + suc k = omega arith in get_d_tabulate n (o + 1) k d (omega arith) ∙ ap f e
