use Rattle.std.proofs.Common.{◌≡◌, length}
use Rattle.lister_job.proofs.laws.JobSteps.{count_left}
use Rattle.lister_job.specs.Job.{columns, type_at, mul_at}
use Rattle.lister_job.specs.laws.JobSteps.{prefixed}
use Rattle.lister_job.proofs.read_columns.Given as goal

abbrev pub invariant-loop-n : goal.invariant-loop-n
invariant-loop-n l = (length l.types ≡ 4096) × (length l.muls ≡ 4096) × (l.types ≡ prefixed (type_at l.job) l.n l.initial.types) × (l.muls ≡ prefixed (mul_at l.job) l.n l.initial.muls) × (columns l.job ≡ count_left l.job l.n)
