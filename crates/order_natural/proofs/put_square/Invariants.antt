use Rattle.laws.specs.laws.Laid.{Halfway}
use Rattle.order_natural.specs.Natural.{square, keep}
use Rattle.order_natural.specs.Places.{flat}
use Rattle.order_natural.specs.laws.Turns.{rest_of_square}
use Rattle.order_natural.proofs.put_square.Given as goal

abbrev pub invariant-loop-dist : goal.invariant-loop-dist
invariant-loop-dist l = Halfway l.initial.list l.list l.start (flat (keep l.walk.corner l.walk.step (square l.walk.side))) l.at (rest_of_square l.walk.corner l.walk.step l.walk.side l.dist)
