-- What the reading's functions promise: the reading by what the code answers and leaves.
use Rattle.std.specs.Prelude.{◌≡◌, Bool, ◌&&◌, List, ℕ, ◌*◌, leb, length, Result, Ok, Err}
use Rattle.refusal.specs.declared.Said.{Said}
use Rattle.refusal.specs.Said.{said}
use Rattle.refusal.specs.Answer.{Answer, gives, refuses, unless, passed, answered_by}
use Rattle.layout_filter.specs.declared.Filter.{Filter}
use Rattle.layout_filter.specs.Limits.{params_fit}
use Rattle.layout_sizes.specs.Blocks.{counts_fit}
use Rattle.layout_reading.specs.declared.column.Stop.{Stop}
use Rattle.layout_reading.specs.declared.job.Job.{Job as Lent}
use Rattle.layout_placing.specs.Reading.{Job, Placed, Placing, Going, Stopped, reading, job_with}
use Rattle.layout_placing.specs.Outcome.{Outcome, outcome, outcome_of}

-- the job of what was lent to be read
abbrev pub job_of : Lent → Job
job_of j = job_with j.bw j.bh j.types.now j.muls.now j.sharpness.now j.filter j.lookups.now

-- the three lent buffers have a place for each of n blocks
abbrev pub Fit : ℕ → List ℕ → List ℕ → List ℕ → Type 0
Fit n kinds hf_mul sigma = (length kinds ≡ n) × (length hf_mul ≡ n) × (length sigma ≡ n)

-- what was placed, by its fields
abbrev pub state_of : ℕ → List ℕ → List ℕ → List ℕ → Placed
state_of used kinds hf_mul sigma = record { used = used; kinds = kinds; hf_mul = hf_mul; sigma = sigma }

-- a reading from what the code answers and what it left in kinds, hf_mul and sigma
abbrev pub stepped : Result ℕ Stop → List ℕ → List ℕ → List ℕ → Placing
stepped (Ok used) kinds hf_mul sigma = Going (state_of used kinds hf_mul sigma)
stepped (Err s) kinds hf_mul sigma = Stopped s.placed (said s.why)

-- the columns that a reading has placed
abbrev pub placed_by : Placing → ℕ
placed_by (Going p) = p.used
placed_by (Stopped n s) = n

-- what a reading answers and leaves, and the columns that it placed
pub record Told : Type 0 where
  pub placed : ℕ
  pub outcome : Outcome

abbrev pub told : ℕ → Outcome → Told
told n o = record { placed = n; outcome = o }

abbrev pub told_by : Job → Placing → Told
told_by J r = told (placed_by r) (outcome_of J r)

-- the same from what the code answers and leaves
abbrev pub handed : Result ℕ Stop → List ℕ → List ℕ → List ℕ → Told
handed (Ok used) kinds hf_mul sigma = told used (outcome (gives used) kinds hf_mul sigma)
handed (Err s) kinds hf_mul sigma = told s.placed (outcome (refuses (said s.why)) kinds hf_mul sigma)

-- before work: the filter's numbers (11); at most 256 blocks each way, and lent lengths that fit (1)
abbrev pub checks_of : Bool → ℕ → ℕ → ℕ → ℕ → ℕ → ℕ → ℕ → ℕ → Answer Unit
checks_of params bw bh types muls sharpness kinds hf_mul sigma =
    unless 11 params (unless 1 (leb bw 256 && leb bh 256 && counts_fit types muls sharpness kinds hf_mul sigma (bh * bw)) passed)

module _ (J : Job) (kinds hf_mul sigma : List ℕ) where
  abbrev pub read_checks : Filter → ℕ → Answer Unit
  read_checks filter scale =
      checks_of (params_fit filter J.lookups scale) J.bw J.bh (length J.types) (length J.muls) (length J.sharpness) (length kinds) (length hf_mul) (length sigma)

  -- the job of this filter and scale, whatever the lent buffers held; refused before work, nothing is written
  unfoldable pub read_of : Filter → ℕ → Told
  read_of filter scale =
      answered_by (read_checks filter scale) (λ (s : Said). told 0 (outcome (refuses s) kinds hf_mul sigma)) (λ (u : Unit). told_by J (reading J))
