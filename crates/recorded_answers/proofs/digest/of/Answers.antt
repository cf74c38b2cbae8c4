use Rattle.std.proofs.Common.{arith}
use Rattle.recorded_answers.specs.laws.Digest.{digests_step, digests_all}
use Rattle.recorded_answers.proofs.digest.of.Goals as goal

pub loop-element-preserved : goal.loop-element-preserved
loop-element-preserved g c = λ d k.
    let l = c.loop-element in
    let e = c.element-item in
    l.invariant d (digests_step g.T.Into.converts l.h c.into.result d c.args.list.now l.element-index e.result (omega arith) e.is c.into.ensures (rw c.with-h.ensures at k))

pub returns : goal.returns
returns g c =
    let l = c.loop-element in
    l.invariant l.h (digests_all g.T.Into.converts l.h c.args.list.now l.element-index (omega arith))
