use Rattle.order_natural.specs.Natural.{rows}
use Rattle.order_natural.specs.Places.{flat}
use Rattle.laws.specs.laws.Laid.{halfway_start, halfway_turn, halfway_room, halfway_end}
use Rattle.order_natural.specs.laws.Turns.{rest_of_row, rest_of_rows}
use Rattle.order_natural.proofs.laws.Turns.{rows_turn, rows_start, rows_end}
use Rattle.std.proofs.Common.{◌+◌, arith}
use Rattle.order_natural.proofs.put_corner.Goals as goal

pub loop-y-init : goal.loop-y-init
loop-y-init c =
    let a = c.args in
    rw (rows_start a.w a.h) (halfway_start a.list.now a.start (flat (rows a.w a.h)))

pub put_row-at-requires : goal.put_row-at-requires
put_row-at-requires c =
    let a = c.args in
    let l = c.loop-y in
    let f = halfway_room a.list.now l.list a.start (flat (rows a.w a.h)) l.at 0 (rest_of_row a.w l.y 0) (rest_of_rows a.w a.h (l.y + 1)) (rest_of_rows a.w a.h l.y) (rows_turn a.w a.h l.y (omega arith)) l.invariant (omega arith) in
    (omega arith, omega arith, omega (arith, f))

pub loop-y-preserved : goal.loop-y-preserved
loop-y-preserved c =
    let a = c.args in
    let l = c.loop-y in
    (halfway_turn a.list.now l.list c.put_row-at.new.list a.start (flat (rows a.w a.h)) l.at c.put_row-at.result (rest_of_row a.w l.y 0) (rest_of_rows a.w a.h (l.y + 1)) (rest_of_rows a.w a.h l.y) (rows_turn a.w a.h l.y (omega arith)) l.invariant c.put_row-at.ensures)

pub returns : goal.returns
returns c =
    let a = c.args in
    let l = c.loop-y in
    halfway_end a.list.now l.list a.start (flat (rows a.w a.h)) l.at (rest_of_rows a.w a.h l.y) (rows_end a.w a.h l.y (omega arith)) l.invariant

pub shape_of-list : goal.shape_of-list
shape_of-list c = omega (arith, c.loop-y.invariant.long)
