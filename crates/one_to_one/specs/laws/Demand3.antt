-- Demand 3 (document 00): one symbol sequence and only one, over the coefficient call. Filling has the words of the statements.
use Rattle.std.specs.Prelude.{◌≡◌, ◌*◌}
use Rattle.layout.specs.Varblocks.{area}
use Rattle.coeff_group.specs.PassGroup.{varblocks}
use Rattle.coeff_call.specs.Call.{Lent}
use Rattle.one_to_one.specs.Filling.{Fixed}

module _ (L : Lent) (fixed : Fixed L) where
  -- their areas sum to the group's blocks
  abbrev pub Areas : Type 0
  Areas = area (varblocks L.pass_group) ≡ L.pass_group.bw * L.pass_group.bh
