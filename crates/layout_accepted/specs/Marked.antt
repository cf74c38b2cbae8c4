-- What the layout call's marked examples are lent: M4 to M6, and the examples of refusals 4 to 10.
use Rattle.std.specs.Prelude.{List, [], ◌∷◌, ℕ, ◌*◌, replicate}
use Rattle.layout_filter.specs.declared.Filter.TheVariants.{Off}
use Rattle.layout_filter.specs.Strength.{zero32}
use Rattle.layout_call.specs.Call.{Outcome, inputs, layout_of}

-- modes 0, filter off, over cleared buffers of bw x bh blocks
abbrev pub off : ℕ → ℕ → List ℕ → List ℕ → Outcome
off bw bh types muls =
    layout_of (inputs (8 * bw) (8 * bh) (0 ∷ 0 ∷ 0 ∷ []) types muls (replicate (bh * bw) 0) Off (replicate 8 zero32) 1) (replicate (bh * bw) 0) (replicate (bh * bw) 0)
    (replicate (bh * bw) 0)
