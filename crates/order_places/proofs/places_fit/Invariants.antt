use Rattle.std.specs.Prelude.{◌≡◌}
use Rattle.order_store.specs.Store.{first_of, places_fit}
use Rattle.order_places.specs.laws.Checking.{fit_from}
use Rattle.order_places.proofs.places_fit.Given as goal

abbrev pub invariant-loop-i : goal.invariant-loop-i
invariant-loop-i l = (l.first ≡ first_of l.i) × (fit_from l.store l.i ≡ places_fit l.store)
