-- The loop over the 39 lists.
use Rattle.std.specs.Prelude.{◌≡◌, Result, Ok, Err}
use mathlib.Core.List.{List, ◌++◌}
use Prim.Native.Nat.{ℕ, ◌+◌, ◌/◌, ◌≤◌}
use Rattle.std.proofs.Math.ListN.{length, take, drop}
use Rattle.refusal.specs.declared.Refusal.{Refusal}
use Rattle.order_sizes.specs.BlockSizes.{BLOCK_SIZES, width_of, height_of}
use Rattle.order_natural.specs.Places.{Place}
use Rattle.order_store.specs.Store.{stored, first_of}
use Rattle.order_naturals.specs.Naturals.{naturals}
use Rattle.order_call.specs.Orders.{FromSymbols, Given, Refused, and_then, Entry, entry_list, lists, plan, is_used, orders}
use Rattle.order_call.specs.Call.{leaves, outcome_of}

-- what the call gives from here on: the entries due, the lists done
unfoldable pub onward : List Entry → List (List Place) → List ℕ → ℕ → FromSymbols (List (List Place))
onward es done us at = and_then (lists es us at) (λ ls. Given (done ++ ls))

-- i lists are done, `at` symbols read, the lists to come in natural order
pub record Progress (used : ℕ) (symbols store : List ℕ) (i at : ℕ) : Type 0 where
  pub done : List (List Place)
  pub fewer : i ≤ 39
  pub within : at ≤ length symbols
  pub size : length store ≡ 787968
  pub behind : take (first_of i) store ≡ stored done
  pub ahead : drop (first_of i) store ≡ stored (drop i (naturals BLOCK_SIZES))
  pub due : onward (drop i (plan used 0 BLOCK_SIZES)) done (drop at symbols) at ≡ orders used symbols

-- the reading of list i
abbrev pub list_of : ℕ → List ℕ → ℕ → ℕ → FromSymbols (List Place)
list_of used symbols i at = entry_list (is_used used (i / 3)) (width_of (i / 3)) (height_of (i / 3)) (drop at symbols) at

-- behind list i: the symbols read and where the next list begins, or the refusal of all the orders
abbrev pub AfterList : ℕ → List ℕ → List ℕ → ℕ → Result (ℕ × ℕ) Refusal → Type 0
AfterList used symbols store i (Ok (n, e)) = Progress used symbols store (i + 1) n × (e ≡ first_of (i + 1))
AfterList used symbols store i (Err why) = orders used symbols ≡ Refused why

-- behind the last list: the symbols read and the orders in the store, or their refusal
abbrev pub AllLists : ℕ → List ℕ → List ℕ → Result ℕ Refusal → Type 0
AllLists used symbols store (Ok n) = leaves (Ok n) store ≡ outcome_of (orders used symbols)
AllLists used symbols store (Err why) = orders used symbols ≡ Refused why

-- an answer, and where the next list begins
abbrev pub with_next : Result ℕ Refusal → ℕ → Result (ℕ × ℕ) Refusal
with_next (Ok n) e = Ok (n, e)
with_next (Err why) e = Err why
