-- The calls' own answers, handed on.
use Rattle.std.specs.Prelude.{◌≡◌, List, ℕ, Result}
use Rattle.std.proofs.Common.{ap, ◌∙◌}
use Rattle.refusal.specs.declared.Refusal.{Refusal}
use Rattle.refusal.specs.Answer.{Answer, answered}
use Rattle.refusal.specs.Handed.{Handed, handed}
use Rattle.layout_column_count.specs.Count.{Counted, counted}
use Rattle.layout_call.specs.Call.{Outcome, leaves}
use Rattle.c_layout.specs.Layout.{LayoutLeaves}

pub count_handed : (h : Handed Counted) (a : Result (ℕ × ℕ) Refusal) (kept : Counted) (o : Answer Counted) → counted a ≡ o → h ≡ handed (counted a) kept → h ≡ handed o kept
count_handed h a kept o e f = f ∙ ap (λ (z : Answer Counted). handed z kept) e

pub layout_leaves : (h : Handed ℕ) (a : Result ℕ Refusal) (k m g : List ℕ) (kept : ℕ) (o : Outcome) → leaves a k m g ≡ o → h ≡ handed (answered a) kept
    → LayoutLeaves h k m g kept o
layout_leaves h a k m g kept o e f =
    record {
      handed_is = f ∙ ap (λ (z : Outcome). handed z.answer kept) e;
      kinds_are = ap (λ (z : Outcome). z.kinds) e;
      hf_mul_is = ap (λ (z : Outcome). z.hf_mul) e;
      sigma_is = ap (λ (z : Outcome). z.sigma) e;
    }
