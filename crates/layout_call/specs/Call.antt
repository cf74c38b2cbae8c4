-- The layout call: its answer and what it leaves in kinds, hf_mul and sigma (document 01, Layout and filter strength; Refused).
use Rattle.std.specs.Prelude.{Bool, ◌&&◌, List, ℕ, ◌*◌, length, Float, Result}
use Rattle.refusal.specs.declared.Refusal.{Refusal}
use Rattle.refusal.specs.declared.Said.{Said}
use Rattle.refusal.specs.Answer.{Answer, refuses, unless, passed, answered, answered_by}
use Rattle.layout_sizes.specs.Blocks.{size_fits, modes_fit, bw_in, bh_in, counts_fit}
use Rattle.layout_filter.specs.declared.Filter.{Filter}
use Rattle.layout_filter.specs.Limits.{params_fit}
use Rattle.layout_placing.specs.Reading.{Job, reading, job_by}
use Rattle.layout_placing.specs.Outcome.{outcome}
pub use Rattle.layout_placing.specs.Outcome.{Outcome, outcome_of}

-- what a call leaves
abbrev pub leaves : Result ℕ Refusal → List ℕ → List ℕ → List ℕ → Outcome
leaves r kinds hf_mul sigma = outcome (answered r) kinds hf_mul sigma

-- what is lent to be read
pub record Inputs : Type 0 where
  pub width : ℕ
  pub height : ℕ
  pub modes : List ℕ
  pub types : List ℕ
  pub muls : List ℕ
  pub sharpness : List ℕ
  pub filter : Filter
  pub lookups : List Float
  pub scale : ℕ

abbrev pub inputs : ℕ → ℕ → List ℕ → List ℕ → List ℕ → List ℕ → Filter → List Float → ℕ → Inputs
inputs width height modes types muls sharpness filter lookups scale =
    record {
      width = width;
      height = height;
      modes = modes;
      types = types;
      muls = muls;
      sharpness = sharpness;
      filter = filter;
      lookups = lookups;
      scale = scale;
    }

abbrev pub job_of : Inputs → Job
job_of i = job_by (bw_in i.width i.modes) (bh_in i.height i.modes) i.types i.muls i.sharpness i.filter i.lookups i.scale

-- 11: scale, modes, multiplier and look-up numbers
abbrev pub parameters_fit : Inputs → Bool
parameters_fit i = modes_fit i.modes && params_fit i.filter i.lookups i.scale

module _ (i : Inputs) (kinds hf_mul sigma : List ℕ) where
  -- 1: lent lengths
  abbrev pub all_lengths_fit : Bool
  all_lengths_fit =
      counts_fit (length i.types) (length i.muls) (length i.sharpness) (length kinds) (length hf_mul) (length sigma)
      (bh_in i.height i.modes * bw_in i.width i.modes)

  abbrev pub before_work : Answer Unit
  before_work =
      unless 2 (size_fits i.width i.height)
      (unless 11 (parameters_fit i)
      (unless 1 all_lengths_fit passed))

  -- before work: nothing is written
  abbrev pub refuse : Said → Outcome
  refuse s = outcome (refuses s) kinds hf_mul sigma

  -- what the layout call answers and leaves in the three lent buffers
  unfoldable pub layout_of : Outcome
  layout_of = answered_by before_work refuse (λ (u : Unit). outcome_of (job_of i) (reading (job_of i)))
