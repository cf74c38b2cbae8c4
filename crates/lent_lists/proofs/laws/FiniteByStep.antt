-- Patterns judged one after the other.
use Rattle.std.specs.Prelude.{◌≡◌, Bool, ◌&&◌, List, ℕ, ◌+◌, ◌≤◌, ◌<◌, length, get_or, drop}
use Rattle.std.proofs.Common.{ap, sym, ◌∙◌, arith}
use Rattle.std.proofs.Math.Bool.{and_assoc, and-true as true-last}
use Rattle.laws.specs.laws.Tables.{every_step, every_done}
use Rattle.lent_lists.specs.Finite.{finite_pattern, all_finite}

-- the loop: k patterns are finite, or not, and what follows decides with them
module _ (xs : List ℕ) where
  abbrev pub SoFar : Bool → ℕ → Type 0
  SoFar so k = (k ≤ length xs) × (so && all_finite (drop k xs) ≡ all_finite xs)

  pub so_far_next : (so r : Bool) (k : ℕ) → k < length xs → r ≡ so && finite_pattern (get_or xs k 0) → SoFar so k → SoFar r (k + 1)
  so_far_next so r k h e s =
      let n = every_step finite_pattern xs 0 k h in
      (omega arith, ap (λ (t : Bool). t && all_finite (drop (k + 1) xs)) e ∙ and_assoc so (finite_pattern (get_or xs k 0)) _ ∙ ap (λ (t : Bool). so && t) (sym n) ∙ s.1)

  pub so_far_end : (so : Bool) (k : ℕ) → length xs ≤ k → SoFar so k → so ≡ all_finite xs
  so_far_end so k h s = sym (true-last so) ∙ ap (λ (t : Bool). so && t) (sym (every_done finite_pattern xs k h)) ∙ s.1
