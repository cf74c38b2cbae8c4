use mathlib.Core.Path.{◌≡◌}
use Prim.Native.Nat.{◌-◌, ◌+◌}
use Rattle.lent_check.specs.laws.Claims.{claimed}
use Rattle.lent_check.proofs.rows.claim.Given as goal

abbrev pub invariant-loop-i : goal.invariant-loop-i
invariant-loop-i l = claimed l.initial.depth (l.x + 4) (l.x + l.n - (l.x + 4)) l.v ≡ claimed l.depth l.i (l.x + l.n - l.i) l.v
