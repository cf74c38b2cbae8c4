-- The bytes that were read fit the job, and each turn reads some.
use Rattle.std.proofs.Common.{◌≡◌, ◌-◌, ◌≤◌, length}
use Rattle.layout_lister.proofs.read_job.Given as goal

abbrev pub invariant-loop-n : goal.invariant-loop-n
invariant-loop-n l = (l.n ≤ 36870) × (length l.job ≡ 36870)

abbrev pub decreases-loop-n : goal.decreases-loop-n
decreases-loop-n l = 36870 - l.n
