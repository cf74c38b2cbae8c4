-- Two lists held against one another, number by number.
use Rattle.std.specs.Prelude.{◌≡◌, Bool, ◌&&◌, List, ℕ, ◌+◌, ◌≤◌, ◌<◌, get_or, drop}
use Rattle.std.proofs.Math.Path.{ap, sym}
use Rattle.std.proofs.Common.{◌∙◌}
use Rattle.std.proofs.Math.Bool.{true, and_assoc, and-true as true-last}
use Rattle.std.proofs.Math.Numerals.{add-one}
use native.Mathlib.Omega.{arith}
use Rattle.std.proofs.Math.Dec.{eqb}
use Rattle.std.proofs.Math.ListN.{length, drop_of_length-le}
use Rattle.std.proofs.Math.Seq.{drop-cons}
use Rattle.lent_lists.specs.Same.{same_by, same}

-- the loop: k numbers are the same, or not, and what follows decides with them
module _ (a b : List ℕ) where
  abbrev pub SoFar : Bool → ℕ → Type 0
  SoFar so k = (k ≤ length a) × (length a ≡ length b) × (so && same (drop k a) (drop k b) ≡ same a b)

  pub so_far_next : (so r : Bool) (k : ℕ) → k < length a → r ≡ so && eqb (get_or a k 0) (get_or b k 0) → SoFar so k → SoFar r (k + 1)
  unfolding same_by
  so_far_next so r k h e s =
      let i : k < length b = let l = s.1 in omega arith in
      let n : same (drop k a) (drop k b) ≡ eqb (get_or a k 0) (get_or b k 0) && same (drop (k + 1) a) (drop (k + 1) b) = rw (drop-cons a k 0 h, drop-cons b k 0 i, add-one k) in
      (omega arith, s.1, ap (λ (t : Bool). t && same (drop (k + 1) a) (drop (k + 1) b)) e ∙ and_assoc so (eqb (get_or a k 0) (get_or b k 0)) _ ∙ ap (λ (t : Bool). so && t) (sym n) ∙ s.2)

  pub so_far_end : (so : Bool) (k : ℕ) → length a ≤ k → SoFar so k → so ≡ same a b
  unfolding same_by
  so_far_end so k h s =
      let n : same (drop k a) (drop k b) ≡ true = rw (drop_of_length-le a {i = k} h, drop_of_length-le b {i = k} (let l = s.1 in omega arith)) in
      sym (true-last so) ∙ ap (λ (t : Bool). so && t) (sym n) ∙ s.2
