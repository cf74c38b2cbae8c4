-- The text that the lister prints (document 01, The lister).
use Rattle.std.specs.Prelude.{cond, ◌&&◌, List, [], ◌∷◌, ℕ, ◌*◌, replicate}
use Rattle.refusal.specs.Answer.{Answer, answered_by}
use Rattle.layout_sizes.specs.Blocks.{bw_in, bh_in}
use Rattle.layout_filter.specs.declared.Filter.TheVariants.{Off}
use Rattle.layout_filter.specs.Strength.{zero32}
use Rattle.layout_call.specs.Call.{Outcome, Inputs, inputs, layout_of}
use Rattle.lister.specs.Texts.{BAD_INPUT, accepted_text, refused_text}
use Rattle.lister_job.specs.Job.{width, height, types, muls, has_size, has_end}

abbrev pub text_by : ℕ → ℕ → Outcome → Answer ℕ → List ℕ
text_by bw bh o a = answered_by a refused_text (λ (used : ℕ). accepted_text bw bh o.kinds o.hf_mul)

-- modes 0
abbrev pub MODES : List ℕ
MODES = 0 ∷ 0 ∷ 0 ∷ []

abbrev pub bw_of : ℕ → ℕ
bw_of w = bw_in w MODES

abbrev pub bh_of : ℕ → ℕ
bh_of h = bh_in h MODES

module _ (w h : ℕ) (ts ms : List ℕ) where
  abbrev pub blocks : ℕ
  blocks = bh_of h * bw_of w

  -- the layout call with the filter off, the look-up numbers 0 and the scale 1
  abbrev pub listed : Inputs
  listed = inputs w h MODES ts ms (replicate blocks 0) Off (replicate 8 zero32) 1

  abbrev pub outcome : Outcome
  outcome = layout_of listed (replicate blocks 0) (replicate blocks 0) (replicate blocks 0)

  abbrev pub layout_text : List ℕ
  layout_text = text_by (bw_of w) (bh_of h) outcome outcome.answer

-- a job prints its layout; all else prints that the input is bad
unfoldable pub text_of : List ℕ → List ℕ
text_of s = cond (has_size s && has_end s) (layout_text (width s) (height s) (types s) (muls s)) BAD_INPUT
