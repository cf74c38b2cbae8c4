use Rattle.std.proofs.Common.{arith}
use Rattle.order_permutation.specs.laws.Packed.{unpack_start, unpack_turn, unpack_end}
use Rattle.order_permutation.proofs.unpack.Goals as goal

pub loop-i-init : goal.loop-i-init
loop-i-init c = unpack_start c.args.list.now c.args.size c.requires.0

pub loop-i-preserved : goal.loop-i-preserved
loop-i-preserved c =
    let l = c.loop-i in
    unpack_turn c.args.list.now l.list c.args.size l.i l.invariant c.requires.0 (omega arith)

pub returns : goal.returns
returns c =
    let l = c.loop-i in
    unpack_end c.args.list.now l.list c.args.size l.i l.invariant (omega arith)
