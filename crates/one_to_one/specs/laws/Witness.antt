-- Laws: The premises of demand 3 can be met together: one Dct8 block, as the layout, cut, context and order calls hand it on, starting grids of
-- zeros; and the symbols of a filling of its cells.
use Rattle.std.specs.Prelude.{◌≡◌, [], ◌∷◌, replicate}
use Rattle.layout_filter.specs.declared.Filter.TheVariants.{Off}
use Rattle.layout_filter.specs.Strength.{zero32}
use Rattle.layout_call.specs.Call.{Inputs, inputs}
use Rattle.refusal.specs.Said.{said_at}
use Rattle.refusal.specs.Answer.{refuses}
use Rattle.coeff_call.specs.Call.{call}
use Rattle.one_to_one.specs.Filling.{with_symbols}
use Rattle.one_to_one.specs.Witness.{one, remaining, two_at_the_last}

-- 8 × 8 pixels, modes 0, one column (0,0), filter off
abbrev pub columns : Inputs
columns = inputs 8 8 (0 ∷ 0 ∷ 0 ∷ []) (0 ∷ []) (0 ∷ []) (0 ∷ []) Off (replicate 8 zero32) 1

-- 24 behind the last place's symbol
abbrev pub RemainingRefused : Type 0
RemainingRefused = (call (with_symbols one remaining)).answer ≡ refuses (said_at 24 64 0)

abbrev pub TwoNot17 : Type 0
TwoNot17 = (call (with_symbols one two_at_the_last)).answer ≡ refuses (said_at 24 64 0)
