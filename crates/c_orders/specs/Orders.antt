-- What the exported order call hands out (document 01, Orders and Refused).
use Rattle.std.specs.Prelude.{◌≡◌, List, ℕ}
use Rattle.refusal.specs.Handed.{Handed, handed}
use Rattle.order_call.specs.Call.{Outcome}

-- what is handed out, where the number of symbols read held kept before, and what the store holds then, against the call's outcome
pub record OrdersLeave (h : Handed ℕ) (store : List ℕ) (kept : ℕ) (o : Outcome) : Type 0 where
  pub handed_is : h ≡ handed o.answer kept
  pub store_is : store ≡ o.store
