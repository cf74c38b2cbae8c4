-- The checks before work, outcome by outcome.
use Rattle.std.specs.Prelude.{◌≤◌}
use Rattle.coeff_group.specs.PassGroup.{PassGroup}

pub record Sides (P : PassGroup) : Type 0 where
  pub wide : P.bw ≤ 32
  pub high : P.bh ≤ 32
