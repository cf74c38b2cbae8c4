use Rattle.std.proofs.Common.{arith}
use Rattle.order_small.specs.laws.Coordinates.{stretch_turn, stretch_end}
use Rattle.order_small.proofs.put_stretch.Goals as goal

pub loop-j-preserved : goal.loop-j-preserved
loop-j-preserved c =
    let l = c.loop-j in
    rw (c.from.ensures, c.coordinate.ensures) (stretch_turn l.list c.args.stretch.now l.j (omega arith) (omega arith) l.invariant)

pub returns : goal.returns
returns c =
    let l = c.loop-j in
    stretch_end l.list c.args.stretch.now l.j (omega arith) (omega arith) l.invariant
