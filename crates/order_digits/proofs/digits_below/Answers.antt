use Rattle.std.proofs.Common.{arith}
use Rattle.order_digits.proofs.laws.Leading.{leading_turn, leading_stop, leading_end}
use Rattle.order_digits.proofs.digits_below.Goals as goal

pub returns-then-saturating_sub-d : goal.returns-then-saturating_sub-d
returns-then-saturating_sub-d c = omega (arith, c.loop-k.invariant, leading_stop c.args.digits.now c.args.left c.loop-k.k (omega arith) (omega arith))

pub loop-k-preserved : goal.loop-k-preserved
loop-k-preserved c = omega (arith, c.loop-k.invariant, leading_turn c.args.digits.now c.args.left c.loop-k.k (omega arith) (omega arith))

pub returns : goal.returns
returns c = omega (arith, c.loop-k.invariant, leading_end c.args.digits.now c.args.left c.loop-k.k (omega arith))
