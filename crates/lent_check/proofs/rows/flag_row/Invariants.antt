use mathlib.Core.Path.{◌≡◌}
use lib.ListN.{length}
use Rattle.layout.specs.Grid.{block_at}
use Rattle.lent_check.specs.laws.Listing.{Flagged}
use Rattle.lent_check.proofs.rows.flag_row.Given as goal

abbrev pub invariant-loop-x : goal.invariant-loop-x
invariant-loop-x l = (length l.flags ≡ 256) × Flagged (block_at l.kinds l.bw) l.y l.x l.flags
