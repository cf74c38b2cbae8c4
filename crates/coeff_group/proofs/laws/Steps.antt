-- The reading as the code holds it: rows of 32 counts, a symbol's position, how it ended.
use Rattle.std.specs.Prelude.{◌≡◌, List, [], ◌∷◌, ℕ, Result}
use Rattle.std.proofs.Common.{ap}
use Rattle.refusal.specs.declared.Refusal.{Refusal}
use Rattle.coeff_walk.specs.Walk.{Walked}
use Rattle.coeff_walk.specs.laws.Outcome.{WalkShown}
use Rattle.coeff_group.specs.laws.Steps.{InGrid}

-- the grid by the channel
module _ (c : ℕ) (r : Result ℕ Refusal) (log : List ℕ) (walked : List ℕ → Walked) (g0 g1 g2 g' : List ℕ) where
  pub in_first : c ≡ 0 → WalkShown r log g' (walked g0) → InGrid c (g0 ∷ g1 ∷ g2 ∷ []) r log (g' ∷ g1 ∷ g2 ∷ []) walked
  in_first e h = rw e (record { answer = h.answer; logged = h.logged; cells = ap (λ (g : List ℕ). g ∷ g1 ∷ g2 ∷ []) h.cells })

  pub in_second : c ≡ 1 → WalkShown r log g' (walked g1) → InGrid c (g0 ∷ g1 ∷ g2 ∷ []) r log (g0 ∷ g' ∷ g2 ∷ []) walked
  in_second e h = rw e (record { answer = h.answer; logged = h.logged; cells = ap (λ (g : List ℕ). g0 ∷ g ∷ g2 ∷ []) h.cells })

  pub in_third : c ≡ 2 → WalkShown r log g' (walked g2) → InGrid c (g0 ∷ g1 ∷ g2 ∷ []) r log (g0 ∷ g1 ∷ g' ∷ []) walked
  in_third e h = rw e (record { answer = h.answer; logged = h.logged; cells = ap (λ (g : List ℕ). g0 ∷ g1 ∷ g ∷ []) h.cells })
