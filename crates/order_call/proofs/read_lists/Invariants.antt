use Rattle.std.specs.Prelude.{◌≡◌}
use Rattle.order_store.specs.Store.{first_of}
use Rattle.order_call.specs.laws.Progress.{Progress}
use Rattle.order_call.proofs.read_lists.Given as goal

abbrev pub invariant-loop-i : goal.invariant-loop-i
invariant-loop-i l = Progress l.used l.symbols l.store l.i l.at × (l.first ≡ first_of l.i)
