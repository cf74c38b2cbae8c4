use Rattle.std.proofs.Common.{◌≡◌, Ok}
use Rattle.layout.proofs.laws.Loops.{rows_left, cells_left}
use Rattle.layout_placing.specs.Scan.{Taking, scan}
use Rattle.layout_placing.proofs.laws.Cells.{cell_at}
use Rattle.layout_reading.proofs.scan.scan.Given as goal

-- no cell has refused, and the scan is what is left of it from this cell on
abbrev pub invariant-loop-dx : goal.invariant-loop-dx
invariant-loop-dx l = (l.outcome ≡ Ok tt) × (scan l.job.bw l.job.bh l.divided l.job.lookups.now l.job.sharpness.now l.x l.y l.w l.h (Taking l.fn.kinds l.fn.sigma) ≡ cells_left (cell_at l.job.bw l.job.bh l.divided l.job.lookups.now l.job.sharpness.now l.x l.y) l.w l.h l.dy l.dx (Taking l.kinds l.sigma))

abbrev pub invariant-rows : goal.invariant-rows
invariant-rows l = (l.outcome ≡ Ok tt) × (scan l.job.bw l.job.bh l.divided l.job.lookups.now l.job.sharpness.now l.x l.y l.w l.h (Taking l.fn.kinds l.fn.sigma) ≡ rows_left (cell_at l.job.bw l.job.bh l.divided l.job.lookups.now l.job.sharpness.now l.x l.y) l.w l.h l.dy (Taking l.kinds l.sigma))
