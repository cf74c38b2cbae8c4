use Rattle.laws.specs.laws.Laid.{Halfway}
use Rattle.order_natural.specs.laws.Turns.{rest_of_row}
use Rattle.order_natural.proofs.put_row.Given as goal

abbrev pub invariant-loop-x : goal.invariant-loop-x
invariant-loop-x l = Halfway l.initial.list l.list l.start (rest_of_row l.w l.y 0) l.at (rest_of_row l.w l.y l.x)
