-- What a layout call leaves, as it is lent to likeness (document 02, No. 12).
use Rattle.std.specs.Prelude.{List, ℕ}
use Rattle.lent_likeness.specs.Like.{FilteredLayout, filtered}
use Rattle.layout_call.specs.Call.{Inputs, layout_of}
use Rattle.layout_accepted.specs.Outcome.{bw_of, bh_of}

module _ (i : Inputs) (kinds hf_mul sigma : List ℕ) where
  -- the layout that is left, with its filter strengths
  abbrev pub layout_left : FilteredLayout
  layout_left = filtered (bw_of i) (bh_of i) (layout_of i kinds hf_mul sigma).kinds (layout_of i kinds hf_mul sigma).hf_mul (layout_of i kinds hf_mul sigma).sigma
