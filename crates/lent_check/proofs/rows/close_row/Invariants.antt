use mathlib.Core.Path.{◌≡◌}
use Rattle.layout.specs.RowByRow.{along_row}
use Rattle.layout.specs.Grid.{block_at}
use Rattle.layout.specs.Check.{Until}
use Rattle.lent_check.specs.laws.Steps.{close}
use Rattle.lent_check.specs.laws.Closing.{closing}
use Rattle.lent_check.proofs.rows.close_row.Given as goal

abbrev pub invariant-loop-x : goal.invariant-loop-x
invariant-loop-x l = along_row (close (block_at l.kinds l.bw)) l.bw 0 l.y (Until l.initial.depth) ≡ closing l.bw (block_at l.kinds l.bw) l.y l.gaps l.x l.depth
