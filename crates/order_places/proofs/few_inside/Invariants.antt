use Rattle.std.specs.Prelude.{◌≡◌, ◌*◌, drop}
use Rattle.order_store.specs.Store.{inside_all}
use Rattle.order_places.specs.laws.Powers.{so_far}
use Rattle.order_places.proofs.few_inside.Given as goal

abbrev pub invariant-loop-i : goal.invariant-loop-i
invariant-loop-i l = so_far l.size.width l.size.height l.xs l.ys (drop (2 * l.i) l.list) ≡ inside_all l.size.width l.size.height l.list
