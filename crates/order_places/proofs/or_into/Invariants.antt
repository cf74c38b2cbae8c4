use Rattle.order_places.specs.laws.Ors.{Oring}
use Rattle.order_places.proofs.or_into.Given as goal

abbrev pub invariant-loop-j : goal.invariant-loop-j
invariant-loop-j l = Oring l.initial.ors l.part l.j l.ors
