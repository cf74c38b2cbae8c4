-- What the order call answers and leaves (document 01, Orders and Refused; `HfPass::parse`).
use Rattle.std.specs.Prelude.{◌≡◌, List, ℕ, ◌*◌, ◌≤◌, eqb, length, replicate, Result}
use Rattle.refusal.specs.declared.Refusal.{Refusal}
use Rattle.refusal.specs.declared.Refusal.TheVariants.{BitsEnd}
use Rattle.refusal.specs.declared.Said.{Said}
use Rattle.refusal.specs.Said.{said}
use Rattle.refusal.specs.Answer.{Answer, gives, refuses, unless, passed, answered_by, answered}
use Rattle.bits.specs.Bits.{Read, Value, Ended, Constant, Offset, read_u32}
use Rattle.order_natural.specs.Places.{Place}
use Rattle.order_store.specs.Store.{stored, PLACES}
use Rattle.order_call.specs.Orders.{FromSymbols, Given, Refused, orders}

-- the answer, and the store's final contents
pub record Outcome : Type 0 where
  pub answer : Answer ℕ
  pub store : List ℕ

abbrev pub outcome : Answer ℕ → List ℕ → Outcome
outcome a s = record { answer = a; store = s }

-- what the code answers, the symbols read or a refusal, and what it leaves
abbrev pub leaves : Result ℕ Refusal → List ℕ → Outcome
leaves a s = outcome (answered a) s

-- U32(95, 19, 0, 13 bits)
abbrev pub used_orders : List ℕ → Read ℕ
used_orders bytes = read_u32 bytes 0 (Constant 95) (Constant 19) (Constant 0) (Offset 0 13)

-- the symbols read and the 39 lists; or the refusal, and the whole store zero
abbrev pub outcome_of : FromSymbols (List (List Place)) → Outcome
outcome_of (Given ls us at) = outcome (gives at) (stored ls)
outcome_of (Refused why) = outcome (refuses (said why)) (replicate (2 * PLACES) 0)

-- bits that end leave the store as it was
abbrev pub read : Read ℕ → List ℕ → List ℕ → Outcome
read (Value used at) symbols store = outcome_of (orders used symbols)
read (Ended at) symbols store = outcome (refuses (said (BitsEnd at))) store

-- before work, a store of another length is refused
abbrev pub before_work : List ℕ → Answer Unit
before_work store = unless 1 (eqb (length store) (2 * PLACES)) passed

unfoldable pub parsed : List ℕ → List ℕ → List ℕ → Outcome
parsed bytes symbols store = answered_by (before_work store) (λ (s : Said). outcome (refuses s) store) (λ (u : Unit). read (used_orders bytes) symbols store)

-- a store that an accepted order call wrote, with whatever bits, symbols and earlier contents
pub record Wrote (store : List ℕ) : Type 0 where
  pub bytes : List ℕ
  pub symbols : List ℕ
  pub earlier : List ℕ
  pub count : ℕ
  pub call : parsed bytes symbols earlier ≡ outcome (gives count) store

-- where the call's 13 stands (document 01, Refused): at the symbols read, the refused length or digit included, so never at 0, 0, where 13 of a
-- stored place stands: behind at least one symbol, and not behind more than there are
pub record Reached (all : ℕ) (why : Said) : Type 0 where
  pub some : 1 ≤ why.x
  pub most : why.x ≤ all
  pub second : why.y ≡ 0
