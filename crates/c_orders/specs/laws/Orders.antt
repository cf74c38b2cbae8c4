-- Laws: What the exported order call hands out (document 01, Orders and Refused).
use Rattle.std.specs.Prelude.{◌≡◌, List, ℕ, Result}
use Rattle.std.proofs.Common.{ap, ◌∙◌}
use Rattle.refusal.specs.declared.Refusal.{Refusal}
use Rattle.refusal.specs.Answer.{answered}
use Rattle.order_call.specs.Call.{Outcome, leaves}
use Rattle.refusal.specs.Handed.{Handed, handed}
use Rattle.c_orders.specs.Orders.{OrdersLeave}

-- the call's own answer, handed on
pub orders_leave : (h : Handed ℕ) (a : Result ℕ Refusal) (store : List ℕ) (kept : ℕ) (o : Outcome) → leaves a store ≡ o → h ≡ handed (answered a) kept → OrdersLeave h store kept o
orders_leave h a store kept o e f =
    record {
      handed_is = f ∙ ap (λ (z : Outcome). handed z.answer kept) e;
      store_is = ap (λ (z : Outcome). z.store) e;
    }
