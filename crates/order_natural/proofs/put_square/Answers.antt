use Rattle.order_natural.specs.Natural.{diagonal, square, keep}
use Rattle.order_natural.specs.Places.{flat}
use Rattle.laws.specs.laws.Laid.{halfway_start, halfway_turn, halfway_room, halfway_end}
use Rattle.order_natural.specs.laws.Turns.{rest_of_square}
use Rattle.order_natural.proofs.laws.Turns.{square_turn, square_start, square_end}
use Rattle.std.proofs.Common.{◌+◌, arith}
use Rattle.order_natural.proofs.put_square.Goals as goal

pub loop-dist-init : goal.loop-dist-init
loop-dist-init c =
    let a = c.args in
    rw (square_start a.walk.corner a.walk.step a.walk.side) (halfway_start a.list.now a.start (flat (keep a.walk.corner a.walk.step (square a.walk.side))))

pub put_diagonal-at-requires : goal.put_diagonal-at-requires
put_diagonal-at-requires c =
    let a = c.args in
    let l = c.loop-dist in (
      omega arith,
      omega arith,
      omega arith,
      halfway_room a.list.now l.list a.start (flat (keep a.walk.corner a.walk.step (square a.walk.side))) l.at 14 (flat (keep a.walk.corner a.walk.step (diagonal a.walk.side l.dist))) (rest_of_square a.walk.corner a.walk.step a.walk.side (l.dist + 1)) (rest_of_square a.walk.corner a.walk.step a.walk.side l.dist)
          (square_turn a.walk.corner a.walk.step a.walk.side l.dist (omega arith)) l.invariant (omega arith),
    )

pub loop-dist-preserved : goal.loop-dist-preserved
loop-dist-preserved c =
    let a = c.args in
    let l = c.loop-dist in
    halfway_turn a.list.now l.list c.put_diagonal-at.new.list a.start (flat (keep a.walk.corner a.walk.step (square a.walk.side))) l.at c.put_diagonal-at.result (flat (keep a.walk.corner a.walk.step (diagonal a.walk.side l.dist))) (rest_of_square a.walk.corner a.walk.step a.walk.side (l.dist + 1)) (rest_of_square a.walk.corner a.walk.step a.walk.side l.dist)
    (square_turn a.walk.corner a.walk.step a.walk.side l.dist (omega arith)) l.invariant c.put_diagonal-at.ensures

pub returns : goal.returns
returns c =
    let a = c.args in
    let l = c.loop-dist in
    halfway_end a.list.now l.list a.start (flat (keep a.walk.corner a.walk.step (square a.walk.side))) l.at (rest_of_square a.walk.corner a.walk.step a.walk.side l.dist) (square_end a.walk.corner a.walk.step a.walk.side l.dist (omega arith)) l.invariant

pub shape_of-list : goal.shape_of-list
shape_of-list c = omega (arith, c.loop-dist.invariant.long)
