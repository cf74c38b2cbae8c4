use Rattle.laws.specs.laws.Laid.{Halfway}
use Rattle.order_natural.specs.Natural.{rows}
use Rattle.order_natural.specs.Places.{flat}
use Rattle.order_natural.specs.laws.Turns.{rest_of_rows}
use Rattle.order_natural.proofs.put_corner.Given as goal

abbrev pub invariant-loop-y : goal.invariant-loop-y
invariant-loop-y l = Halfway l.initial.list l.list l.start (flat (rows l.w l.h)) l.at (rest_of_rows l.w l.h l.y)
