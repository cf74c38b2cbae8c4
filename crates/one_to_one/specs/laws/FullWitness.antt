-- Laws: The premises of demand 3 met together with all that they speak of, as the calls themselves hand it on: M4's layout through the cut, thresholds on
-- all four lists, LF grids, permuted orders, the last of three presets, starting grids that are not zero; and the symbols of a filling.
use Rattle.std.specs.Prelude.{[], ◌∷◌, replicate}
use Rattle.layout_filter.specs.declared.Filter.TheVariants.{Off}
use Rattle.layout_filter.specs.Strength.{zero32}
use Rattle.layout_call.specs.Call.{Inputs, inputs}
use Rattle.order_call.specs.Call as order
use Rattle.context_call.specs.Call as context

-- The layout: 16 × 16 pixels, modes 0, columns (6,4) (0,0) (0,2), filter off.
abbrev pub columns : Inputs
columns = inputs 16 16 (0 ∷ 0 ∷ 0 ∷ []) (6 ∷ 0 ∷ 0 ∷ []) (4 ∷ 0 ∷ 2 ∷ []) (replicate 4 0) Off (replicate 8 zero32) 1
