-- Laws: Stores that an accepted order call wrote.
use Rattle.std.specs.Prelude.{◌≡◌, List, ℕ}
use Rattle.order_natural.specs.Places.{Place}
use Rattle.order_store.specs.Store.{stored}
use Rattle.order_call.specs.Orders.{Given, orders}

-- the lists behind it
pub record Behind (store : List ℕ) : Type 0 where
  pub used : ℕ
  pub symbols : List ℕ
  pub lists : List (List Place)
  pub left : List ℕ
  pub count : ℕ
  pub given : orders used symbols ≡ Given lists left count
  pub is : store ≡ stored lists
