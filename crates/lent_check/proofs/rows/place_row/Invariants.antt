use mathlib.Core.Path.{◌≡◌}
use lib.ListN.{drop}
use Rattle.layout.specs.RowByRow.{along_row}
use Rattle.layout.specs.Grid.{block_at}
use Rattle.layout.specs.Check.{Until}
use Rattle.lent_check.specs.laws.Steps.{place}
use Rattle.lent_check.specs.laws.Listing.{flag_at, place_all, looked}
use Rattle.lent_check.proofs.rows.place_row.Given as goal

abbrev pub invariant-loop-listed : goal.invariant-loop-listed
invariant-loop-listed l =
    along_row (place l.bw l.bh (block_at l.kinds l.bw)) l.bw 0 l.y (Until l.initial.depth) ≡ place_all l.bw l.bh (block_at l.kinds l.bw) l.y (drop l.listed-index (looked (flag_at (block_at l.kinds l.bw) l.y) l.bw 0)) (Until l.depth)
