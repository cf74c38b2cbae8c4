-- The filter strength that an accepted layout call leaves at each block (document 01, Layout and filter strength).
use Rattle.std.specs.Prelude.{◌≡◌, List, ℕ, ◌<◌, Float}
use Rattle.layout.specs.Grid.{block_at}
use Rattle.layout_filter.specs.declared.Filter.TheVariants.{On}
use Rattle.refusal.specs.Answer.{gives}
use Rattle.layout_call.specs.Call.{Inputs, layout_of}
use Rattle.layout_accepted.specs.Outcome.{bh_of, bw_of}

module _ (i : Inputs) (kinds hf_mul sigma : List ℕ) where
  module _ (n : ℕ) (e : (layout_of i kinds hf_mul sigma).answer ≡ gives n) where
    -- with the filter on every sharpness number is 0 to 7
    abbrev pub AcceptedSharpness : Type 0
    AcceptedSharpness = (m : Float) → i.filter ≡ On m → (x y : ℕ) → x < bw_of i → y < bh_of i → block_at i.sharpness (bw_of i) x y < 8
