-- A rule that holds over the table of transforms.
use Rattle.std.specs.Prelude.{Bool, ℕ, ◌<◌, T}
use Rattle.std.proofs.Common.{arith}
use Rattle.laws.specs.Tables.{each}
use Rattle.laws.specs.laws.Tables.{each_at}

pub below_27 : (rule : ℕ → Bool) → T (each rule 27 0) → (t : ℕ) → t < 27 → T (rule t)
below_27 rule all t h = each_at rule 27 0 all t (omega arith) (omega arith)
