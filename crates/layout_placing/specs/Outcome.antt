-- What a reading answers and leaves in kinds, hf_mul and sigma (document 01, Layout and filter strength; Refused).
use Rattle.std.specs.Prelude.{List, ℕ}
use Rattle.refusal.specs.Answer.{Answer, gives, refuses}
use Rattle.layout_placing.specs.Reading.{Job, Placing, Going, Stopped, zeros}

-- the number of columns used, or a refusal
pub record Outcome : Type 0 where
  pub answer : Answer ℕ
  pub kinds : List ℕ
  pub hf_mul : List ℕ
  pub sigma : List ℕ

abbrev pub outcome : Answer ℕ → List ℕ → List ℕ → List ℕ → Outcome
outcome answer kinds hf_mul sigma = record { answer = answer; kinds = kinds; hf_mul = hf_mul; sigma = sigma }

-- 4 to 10 leave layout and sigma all zero
abbrev pub outcome_of : (J : Job) → Placing → Outcome
outcome_of J (Going p) = outcome (gives p.used) p.kinds p.hf_mul p.sigma
outcome_of J (Stopped n s) = outcome (refuses s) (zeros J) (zeros J) (zeros J)
