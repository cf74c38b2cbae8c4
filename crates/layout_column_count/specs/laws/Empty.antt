-- The column count of an empty grid: no bits are read, and it is 1 (document 02, No. 2).
use Rattle.std.specs.Prelude.{◌≡◌, true, List, ℕ}
use Rattle.refusal.specs.Answer.{gives}
use Rattle.layout.specs.Empty.{Empty}
use Rattle.layout_sizes.specs.Blocks.{size_fits, modes_fit}
use Rattle.layout_column_count.specs.Count.{counts, count_of}

abbrev pub EmptyCount : Type 0
EmptyCount = (width height : ℕ) (modes bytes : List ℕ) → Empty width height → size_fits width height ≡ true → modes_fit modes ≡ true → count_of width height modes bytes ≡ gives (counts 1 0)
