use Rattle.std.proofs.Common.{arith}
use Rattle.order_natural.proofs.quotient.Goals as goal

pub returns-then-s-eq1 : goal.returns-then-s-eq1
returns-then-s-eq1 c = rw c.if-s-eq1.true (omega arith)

pub returns-then-s-eq2 : goal.returns-then-s-eq2
returns-then-s-eq2 c = rw c.if-s-eq2.true
