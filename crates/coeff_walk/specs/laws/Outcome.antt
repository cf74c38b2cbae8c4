-- What the walk's code hands back, and the walk's steps as a loop uses them.
use Rattle.std.specs.Prelude.{◌≡◌, length, take, Result, Ok, Err}
use mathlib.Core.List.{List}
use Prim.Native.Nat.{ℕ, zero, suc, ◌+◌, ◌*◌, ◌-◌, ◌/◌, ◌^◌, ◌≤◌}
use Rattle.std.proofs.Math.ListN.{drop}
use Rattle.refusal.specs.declared.Refusal.{Refusal}
use Rattle.coeff_walk.specs.Walk.{Walked, done, stopped}
use Rattle.order_natural.specs.Places.{paired}
use Rattle.coeff_walk.specs.Places.{cells_of}
use Rattle.coeff_walk.specs.Item.{Item}
use Rattle.coeff_walk.specs.Sent.{non_zeros}
use Rattle.coeff_walk.specs.UsedUp.{CountsUsed}
use Rattle.coeff_walk.specs.declared.spot.Spot.{Spot}

abbrev pub less_of : ℕ → ℕ → ℕ
less_of zero left = left
less_of (suc u) left = left - 1

-- of a walk: the symbols read, or why it was stopped
abbrev pub answer_of : Walked → Result ℕ Refusal
answer_of (done us at log g) = Ok at
answer_of (stopped why at log g) = Err (why at)

abbrev pub log_of : Walked → List ℕ
log_of (done us at log g) = log
log_of (stopped why at log g) = log

abbrev pub grid_after : Walked → List ℕ
grid_after (done us at log g) = g
grid_after (stopped why at log g) = g

abbrev pub spot_cells : Spot → List ℕ → List ℕ
spot_cells spot list = cells_of spot.turn spot.width spot.x spot.y (paired list)

-- what the walk over a list's places requires
pub record WalkReady (spot : Spot) (list : List ℕ) (at count first_prev coeff_map shift log : ℕ) : Type 0 where
  pub width : spot.width ≤ 256
  pub in_x : spot.x ≤ 256
  pub in_y : spot.y ≤ 256
  pub exponent : spot.exponent ≤ 10
  pub counted : count ≤ 63 * 2 ^ spot.exponent
  pub flagged : first_prev ≤ 1
  pub fits : length list / 2 ≤ 63 * 2 ^ spot.exponent
  pub entries : coeff_map ≡ 458
  pub shifts : shift ≤ 3
  pub room : at + length list / 2 ≤ log

-- what it hands back of the reading w
pub record WalkShown (r : Result ℕ Refusal) (log grid : List ℕ) (w : Walked) : Type 0 where
  pub answer : r ≡ answer_of w
  pub logged : log ≡ log_of w
  pub cells : grid ≡ grid_after w

-- the symbols from position `from` on, before position `to`
abbrev pub between : List ℕ → (from to : ℕ) → List ℕ
between symbols from to = take (to - from) (drop from symbols)

-- what a walk promises of its count n, behind `from` symbols, where it is done: the symbols that it read hold exactly n that are not 0
abbrev pub UsesUp : (n : ℕ) (symbols : List ℕ) (from : ℕ) → Result ℕ Refusal → Type 0
UsesUp n symbols from r = (to : ℕ) → r ≡ Ok to → non_zeros (between symbols from to) ≡ n

-- and a reading of items, where it is done: the symbols that it read are as many items', with their counts used up
abbrev pub AllUseUp : (its : List Item) (symbols : List ℕ) (from : ℕ) → Result ℕ Refusal → Type 0
AllUseUp its symbols from r = (to : ℕ) → r ≡ Ok to → CountsUsed its (between symbols from to)
