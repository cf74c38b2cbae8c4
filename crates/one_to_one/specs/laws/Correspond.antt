-- Accepted sequences that are read to their end, and grids that keep the low-frequency cells, correspond one to one (document 02, No. 8).
use Rattle.std.specs.Prelude.{◌≡◌, List, ℕ}
use Rattle.coeff_walk.specs.Sent.{Words}
use Rattle.coeff_group.specs.Group.{PerChannel}
use Rattle.coeff_group.specs.Sequence.{the_sequence}
use Rattle.coeff_call.specs.Call.{Lent}
use Rattle.one_to_one.specs.Filling.{Fixed, Filling, ReadToEnd, final_grids}

module _ (L : Lent) (fixed : Fixed L) where
  -- from a sequence to its grids and back
  abbrev pub FromSequence : Type 0
  FromSequence = (s : List ℕ) → Words s → ReadToEnd L s → Filling L (final_grids L s) × (the_sequence L.pass_group L.grids (final_grids L s) ≡ s)

  -- from grids to their sequence and back
  abbrev pub FromGrids : Type 0
  FromGrids =
      (W : PerChannel) → Filling L W
      → Words (the_sequence L.pass_group L.grids W) × ReadToEnd L (the_sequence L.pass_group L.grids W) × (final_grids L (the_sequence L.pass_group L.grids W) ≡ W)
