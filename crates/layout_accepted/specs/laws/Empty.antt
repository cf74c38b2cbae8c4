-- A strip without blocks: of its call everything before work is judged; then it is accepted, no columns are used, nothing is written, there are
-- no varblocks and the area is 0 (document 02, No. 2).
use Rattle.std.specs.Prelude.{◌≡◌, List, ℕ}
use Rattle.refusal.specs.Answer.{gives, answered_by}
use Rattle.layout.specs.Empty.{Empty}
use Rattle.layout_placing.specs.Outcome.{outcome}
use Rattle.layout_call.specs.Call.{Inputs, before_work, refuse, layout_of}

module _ (i : Inputs) (kinds hf_mul sigma : List ℕ) (e : Empty i.width i.height) where
  -- the checks before work decide alone: what they let pass is accepted with no columns used, and all that is lent stays as it was
  abbrev pub EmptyCall : Type 0
  EmptyCall = layout_of i kinds hf_mul sigma ≡ answered_by (before_work i kinds hf_mul sigma) (refuse i kinds hf_mul sigma) (λ (u : Unit). outcome (gives 0) kinds hf_mul sigma)
