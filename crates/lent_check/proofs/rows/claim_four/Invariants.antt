use Rattle.std.proofs.Common.{◌≡◌}
use Rattle.lent_check.specs.laws.Claims.{claimed, claiming}
use Rattle.lent_check.proofs.rows.claim_four.Given as goal

abbrev pub invariant-loop-i : goal.invariant-loop-i
invariant-loop-i l = claimed l.initial.depth l.x l.n l.v ≡ claiming l.x l.n l.v l.found l.i l.depth
