-- The first x's of a claim, as a test: they are clear so far, where Claims has the most depth that was met.
use Rattle.std.specs.Prelude.{◌≡◌, refl, Bool, true, false, ◌&&◌, ◌||◌, cond, List, ℕ, ◌+◌, ◌-◌, max, leb, ltb, eqb, get_or, set}
use Rattle.std.proofs.Common.{ap, ◌∙◌, arith}
use Rattle.std.proofs.lemmas.Bool.Decides.{nat_tests}
use Rattle.layout.specs.Check.{Covering, Fault}
use Rattle.lent_check.specs.laws.Claims.{claimed, first_next}

seen : (i n v : ℕ) → eqb (max 0 (cond (ltb i n) v 0)) 0 ≡ leb n i || eqb v 0
seen i n v = grind (arith, nat_tests)

module _ (x n v i : ℕ) (d : List ℕ) where
  -- what is left to claim once the x is looked at
  abbrev pub left : Covering
  left = claimed (set d (x + i) (cond (ltb i n) v (get_or d (x + i) 0))) (x + (i + 1)) (n - (i + 1)) v

  pub clear_next : (clear : Bool) → cond clear (claimed d (x + i) (n - i) v) Fault ≡ cond (clear && (leb n i || eqb (get_or d (x + i) 0) 0)) left Fault
  clear_next true = first_next x n v 0 i d ∙ ap (λ (b : Bool). cond b left Fault) (seen i n (get_or d (x + i) 0))
  clear_next false = refl
