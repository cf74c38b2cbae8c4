-- What the C interface hands out: a number and a position, and beside a refusal nothing else (document 01, Refused, and what then remains).
use Rattle.refusal.specs.declared.Said.{Said}
use Rattle.refusal.specs.Said.{said_at}
use Rattle.refusal.specs.Answer.{Answer, answered_by}

-- number and position, and what the results hold then
pub record Handed (A : Type 0) : Type 0 where
  pub said : Said
  pub results : A

abbrev pub with : {A : Type 0} → Said → A → Handed A
with s r = record { said = s; results = r }

-- the result under number 0; or the refusal, and the results keep what they held
abbrev pub handed : {A : Type 0} → Answer A → A → Handed A
handed {A} a kept = answered_by a (λ (s : Said). with s kept) (λ (r : A). with (said_at 0 0 0) r)
