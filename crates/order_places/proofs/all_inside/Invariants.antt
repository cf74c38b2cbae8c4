use Rattle.std.specs.Prelude.{◌*◌}
use Rattle.order_places.specs.laws.Ors.{Together}
use Rattle.order_places.proofs.all_inside.Given as goal

abbrev pub invariant-loop-part : goal.invariant-loop-part
invariant-loop-part l = Together l.size.width l.size.height l.list (l.part-index * 64) l.ors
