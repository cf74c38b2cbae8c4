-- Laws: what the exported cut and likeness hand out (document 01, Layout, "Added by us", and Refused).
use Rattle.std.specs.Prelude.{◌≡◌, Bool, List, ℕ, Result}
use Rattle.std.proofs.Common.{ap, ◌∙◌}
use Rattle.refusal.specs.declared.Refusal.{Refusal}
use Rattle.refusal.specs.Answer.{Answer, answered}
use Rattle.refusal.specs.Handed.{Handed, handed}
use Rattle.lent_check.specs.declared.GroupSides.{GroupSides}
use Rattle.lent_cut.specs.Calls.{Outcome, outcome}
use Rattle.c_groups.specs.Record.{CutLeaves}

-- the call's own answer, handed on
pub cut_leaves : (h : Handed GroupSides) (a : Result GroupSides Refusal) (k m : List ℕ) (kept : GroupSides) (o : Outcome) → outcome (answered a) k m ≡ o → h ≡ handed (answered a) kept
    → CutLeaves h k m kept o
cut_leaves h a k m kept o e f =
    record {
      handed_is = f ∙ ap (λ (z : Outcome). handed z.answer kept) e;
      kinds_are = ap (λ (z : Outcome). z.kinds) e;
      hf_mul_is = ap (λ (z : Outcome). z.hf_mul) e;
    }

pub like_handed : (h : Handed Bool) (a : Result Bool Refusal) (kept : Bool) (l : Answer Bool) → answered a ≡ l → h ≡ handed (answered a) kept → h ≡ handed l kept
like_handed h a kept l e f = f ∙ ap (λ (z : Answer Bool). handed z kept) e
