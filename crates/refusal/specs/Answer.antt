-- Answers of calls, and the chain of checks before work (document 01, Refused, and what then remains).
use Rattle.std.specs.Prelude.{Bool, cond, ℕ, Result, Ok, Err}
use Rattle.refusal.specs.declared.Refusal.{Refusal}
use Rattle.refusal.specs.declared.Said.{Said}
use Rattle.refusal.specs.Said.{said_at, said}

-- a result, or a refusal's number and position
pub data Answer (A : Type 0) : Type 0 where
  gives : A → Answer A
  refuses : Said → Answer A

-- one check of a chain: refused with n at 0, 0 unless the test passes
abbrev pub unless : {A : Type 0} → ℕ → Bool → Answer A → Answer A
unless n test next = cond test next (refuses (said_at n 0 0))

-- the end of a chain that only checks
abbrev pub passed : Answer Unit
passed = gives tt

-- an answer, then what is made of a refusal or of the result
abbrev pub answered_by : {A O : Type 0} → Answer A → (Said → O) → (A → O) → O
answered_by (refuses s) refuse work = refuse s
answered_by (gives a) refuse work = work a

-- what code answers: Ok gives its result, Err refuses with what its refusal says
abbrev pub answered : {A : Type 0} → Result A Refusal → Answer A
answered (Ok a) = gives a
answered (Err r) = refuses (said r)
