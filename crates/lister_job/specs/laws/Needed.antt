-- Laws on what a job still needs (document 01, The lister: "what follows is not read").
use Rattle.std.specs.Prelude.{◌≡◌, List, ◌++◌, length}
use Rattle.std.proofs.Math.Bool.{true}
use Prim.Native.Nat.{ℕ}
use Rattle.lister_job.specs.Job.{job_end, is_job, Same}

-- so behind a job nothing is needed, and no job is longer than what may be read
module _ (j : List ℕ) (job : is_job j ≡ true) where
  -- whatever follows it: the same size and columns, and it ends where the job does
  abbrev pub JobFirst : Type 0
  JobFirst = (u : List ℕ) → Same j (j ++ u) × (job_end (j ++ u) ≡ length j)
