-- What the exported coefficient call hands out (document 01, Coefficients and Refused).
use Rattle.std.specs.Prelude.{◌≡◌, List, [], ◌∷◌, ℕ}
use Rattle.refusal.specs.Handed.{Handed, handed}
use Rattle.coeff_call.specs.Call.{Outcome}

-- what is handed out, where the number of symbols read held kept before, and what log and grids hold then, against the call's outcome
pub record CoeffLeaves (h : Handed ℕ) (log g0 g1 g2 : List ℕ) (kept : ℕ) (o : Outcome) : Type 0 where
  pub handed_is : h ≡ handed o.answer kept
  pub log_is : log ≡ o.log
  pub grids_are : g0 ∷ g1 ∷ g2 ∷ [] ≡ o.grids
