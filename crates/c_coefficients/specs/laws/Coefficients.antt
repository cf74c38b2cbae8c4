-- The call's own answer, as it is handed out.
use Rattle.std.specs.Prelude.{◌≡◌, List, ℕ, Result}
use Rattle.std.proofs.Common.{ap, ◌∙◌}
use Rattle.coeff_call.specs.Call.{Outcome, leaves}
use Rattle.refusal.specs.declared.Refusal.{Refusal}
use Rattle.refusal.specs.Answer.{answered}
use Rattle.refusal.specs.Handed.{Handed, handed}
use Rattle.c_coefficients.specs.Coefficients.{CoeffLeaves}

pub coeff_leaves : (h : Handed ℕ) (a : Result ℕ Refusal) (log g0 g1 g2 : List ℕ) (kept : ℕ) (o : Outcome) → leaves a log g0 g1 g2 ≡ o → h ≡ handed (answered a) kept
    → CoeffLeaves h log g0 g1 g2 kept o
coeff_leaves h a log g0 g1 g2 kept o e f =
    record {
      handed_is = f ∙ ap (λ (z : Outcome). handed z.answer kept) e;
      log_is = ap (λ (z : Outcome). z.log) e;
      grids_are = ap (λ (z : Outcome). z.grids) e;
    }
