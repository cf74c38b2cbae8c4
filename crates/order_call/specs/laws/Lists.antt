-- One list, as the code reads it.
use Rattle.std.specs.Prelude.{◌≡◌, List, ℕ, Result, Ok, Err}
use Rattle.refusal.specs.declared.Refusal.{Refusal}
use Rattle.order_natural.specs.Places.{Place, flat}
use Rattle.order_call.specs.Orders.{FromSymbols, Given, Refused}

-- the answer and the list that a reading asks for; a refused list is not asked about
abbrev pub Listed : FromSymbols (List Place) → Result ℕ Refusal → List ℕ → Type 0
Listed (Given l us at) r f = (r ≡ Ok at) × (f ≡ flat l)
Listed (Refused why) r f = r ≡ Err why
