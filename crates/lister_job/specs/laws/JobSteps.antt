-- Laws on a job's columns (document 01, The lister).
use Rattle.std.specs.Prelude.{◌≡◌, List, ◌++◌, drop}
use Prim.Native.Nat.{ℕ}
use Rattle.laws.specs.Lists.{tabulate}
use Rattle.lister_job.specs.Job.{type_at, mul_at, columns}

-- the first n places hold f 0, f 1, .., the rest is as it came
abbrev pub prefixed : (ℕ → ℕ) → ℕ → List ℕ → List ℕ
prefixed f n d = tabulate f n 0 ++ drop n d

-- what the code reads of the columns: how many, and what it leaves in the lent lists
pub record ReadColumns (s : List ℕ) (n : ℕ) (types muls types' muls' : List ℕ) : Type 0 where
  pub count : n ≡ columns s
  pub types_are : types' ≡ prefixed (type_at s) n types
  pub muls_are : muls' ≡ prefixed (mul_at s) n muls
