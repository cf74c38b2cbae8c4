use Rattle.std.proofs.Common.{◌≡◌}
use Rattle.layout.specs.RowByRow.{row_by_row}
use Rattle.layout.proofs.laws.Loops.{rows_left, cells_left}
use Rattle.layout_placing.specs.Reading.{Going, visit}
use Rattle.layout_reading.specs.laws.Outcome.{job_of, state_of}
use Rattle.layout_reading.proofs.reading.read_blocks.Given as goal

-- the reading is what is left of it from this block on
abbrev pub invariant-loop-x : goal.invariant-loop-x
invariant-loop-x l = row_by_row (visit (job_of l.job)) l.job.bw l.job.bh (Going (state_of 0 l.fn.kinds l.fn.hf_mul l.fn.sigma)) ≡ cells_left (visit (job_of l.job)) l.job.bw l.job.bh l.y l.x (Going (state_of l.used l.kinds l.hf_mul l.sigma))

abbrev pub invariant-loop-y : goal.invariant-loop-y
invariant-loop-y l = row_by_row (visit (job_of l.job)) l.job.bw l.job.bh (Going (state_of 0 l.fn.kinds l.fn.hf_mul l.fn.sigma)) ≡ rows_left (visit (job_of l.job)) l.job.bw l.job.bh l.y (Going (state_of l.used l.kinds l.hf_mul l.sigma))
