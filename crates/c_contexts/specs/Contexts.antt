-- What the exported context call hands out (document 01, Block contexts and Refused).
use Rattle.std.specs.Prelude.{ℕ}
use Rattle.refusal.specs.Answer.{Answer, gives, refuses, answered_by}
use Rattle.context_record.specs.declared.HfBlockContext.{HfBlockContext}
use Rattle.context_call.specs.Call.{Outcome}

-- the results: the record, and the bits read
pub record Results : Type 0 where
  pub contexts : HfBlockContext
  pub bits_read : ℕ

abbrev pub results : HfBlockContext → ℕ → Results
results c b = record { contexts = c; bits_read = b }

abbrev pub answered : Outcome → Answer Results
answered o = answered_by o.answer refuses (λ (at : ℕ). gives (results o.contexts at))
