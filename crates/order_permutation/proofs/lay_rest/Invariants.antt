use Rattle.std.specs.Prelude.{◌+◌, ◌*◌}
use Rattle.order_permutation.specs.laws.Drawing.{Laying}
use Rattle.order_permutation.proofs.lay_rest.Given as goal

abbrev pub invariant-loop-b : goal.invariant-loop-b
invariant-loop-b l = Laying l.span l.from l.at l.count l.initial.list l.list l.to (l.from + l.b * l.span) l.b
