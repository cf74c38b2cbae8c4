use Rattle.std.proofs.Common.{◌+◌, ◌≤◌, [], ◌∷◌, length, set, arith, length-set}
use Rattle.laws.specs.laws.Laid.{halfway_start, halfway_turn, halfway_room, halfway_end, laid_two}
use Rattle.order_natural.specs.laws.Turns.{rest_of_row}
use Rattle.order_natural.proofs.laws.Turns.{row_turn, row_end}
use Rattle.order_natural.proofs.put_row.Goals.{In-loop-x}
use Rattle.order_natural.proofs.put_row.Goals as goal

pub loop-x-init : goal.loop-x-init
loop-x-init c = let a = c.args in halfway_start a.list.now a.start (rest_of_row a.w a.y 0)

-- a place more fits
room : (c : In-loop-x) → c.loop-x.at + 2 ≤ length c.loop-x.list
room c =
    let a = c.args in
    let l = c.loop-x in
    let f = halfway_room a.list.now l.list a.start (rest_of_row a.w a.y 0) l.at 0 (l.x ∷ a.y ∷ []) (rest_of_row a.w a.y (l.x + 1)) (rest_of_row a.w a.y l.x) (row_turn a.w a.y l.x (omega arith)) l.invariant (omega arith) in
    omega (arith, f)

pub loop-x-preserved : goal.loop-x-preserved
loop-x-preserved c =
    let a = c.args in
    let l = c.loop-x in
    (halfway_turn a.list.now l.list (set (set l.list l.at l.x) (l.at + 1) a.y) a.start (rest_of_row a.w a.y 0) l.at (l.at + 2) (l.x ∷ a.y ∷ []) (rest_of_row a.w a.y (l.x + 1)) (rest_of_row a.w a.y l.x) (row_turn a.w a.y l.x (omega arith)) l.invariant (laid_two l.list l.at l.x a.y (room (goal.at.loop-x-preserved c).In-loop-x)))

pub returns : goal.returns
returns c =
    let a = c.args in
    let l = c.loop-x in
    halfway_end a.list.now l.list a.start (rest_of_row a.w a.y 0) l.at (rest_of_row a.w a.y l.x) (row_end a.w a.y l.x (omega arith)) l.invariant

pub bounds-list-at : goal.bounds-list-at
bounds-list-at c = omega (arith, room (goal.at.bounds-list-at c).In-loop-x)

pub bounds-list-at-in-loop-x : goal.bounds-list-at-in-loop-x
bounds-list-at-in-loop-x c = simp length-set (omega (arith, room (goal.at.bounds-list-at-in-loop-x c).In-loop-x))

pub shape_of-list : goal.shape_of-list
shape_of-list c = omega (arith, c.loop-x.invariant.long)
