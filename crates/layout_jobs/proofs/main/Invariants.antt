-- Each turn passes a job.
use Rattle.std.proofs.Common.{length}
use Rattle.layout_jobs.proofs.main.Given as goal

abbrev pub decreases-loop-job : goal.decreases-loop-job
decreases-loop-job l = length l.rest
