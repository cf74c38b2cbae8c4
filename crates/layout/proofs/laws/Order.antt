-- Row by row: what comes before a block, what comes from it on.
use Rattle.std.specs.Prelude.{◌≡◌, ◌⊎◌, ℕ, zero, suc, ◌+◌, ◌-◌, ◌≤◌, ◌<◌}
use Rattle.std.proofs.Common.{inl, inr, arith}
use Rattle.laws.specs.laws.Cases.{eq_or_ne}
use Rattle.layout.proofs.laws.Kinds.{wide_sized, high_sized}
use Rattle.layout.specs.Valid.{Cells, Covers}
use Rattle.layout.specs.RowByRow.{Before}
use Rattle.layout.specs.laws.Order.{From, Here}

pub split : (x y a b : ℕ) → From x y a b → Here x y a b ⊎ From (x + 1) y a b
split x y a b (inl h) = inr (inl h)
split x y a b (inr h) = go (eq_or_ne a x)
  where
    go : (a ≡ x) ⊎ (a ≡ x → ⊥) → Here x y a b ⊎ From (x + 1) y a b
    go (inl e) = inl (e, h.0)
    go (inr n) = inr (inr (h.0, omega arith))

pub weaken : (x y a b : ℕ) → From (x + 1) y a b → From x y a b
weaken x y a b (inl h) = inl h
weaken x y a b (inr h) = inr (h.0, omega arith)

pub here : (x y a b : ℕ) → Here x y a b → From x y a b
here x y a b h = inr (h.1, omega arith)

pub from_row : (x y a b : ℕ) → From x y a b → y ≤ b
from_row x y a b (inl h) = omega arith
from_row x y a b (inr h) = omega arith

pub new_row : (bw y a b : ℕ) → a < bw → From bw y a b → From 0 (y + 1) a b
new_row bw y a b h (inl l) = go (eq_or_ne b (y + 1))
  where
    go : (b ≡ y + 1) ⊎ (b ≡ y + 1 → ⊥) → From 0 (y + 1) a b
    go (inl e) = inr (e, omega arith)
    go (inr n) = inl (omega arith)
new_row bw y a b h (inr l) = absurd (omega arith)

pub old_row : (bw y a b : ℕ) → From 0 (y + 1) a b → From bw y a b
old_row bw y a b (inl h) = inl (omega arith)
old_row bw y a b (inr h) = inl (omega arith)

pub from_start : (a b : ℕ) → From 0 0 a b
from_start a zero = inr (omega arith)
from_start a (suc b) = inl (omega arith)

pub from_end : (bh a b : ℕ) → b < bh → From 0 bh a b → ⊥
from_end bh a b h (inl l) = omega arith
from_end bh a b h (inr l) = omega arith

-- a corner that comes later does not reach back
pub not_back : (K : Cells) (x y a b c d : ℕ) → Here x y a b → From (x + 1) y c d → Covers K c d a b → ⊥
not_back K x y a b c d e (inl h) v = let p = v.from_x in let q = v.from_y in omega arith
not_back K x y a b c d e (inr h) v = let p = v.from_x in let q = v.from_y in omega arith

-- a known corner covers itself
pub self : (K : Cells) (x y : ℕ) → 2 ≤ K x y → K x y ≤ 28 → Covers K x y x y
self K x y h l =
    let w = wide_sized (K x y - 2) (omega arith) in
    let v = high_sized (K x y - 2) (omega arith) in
    record { corner = h; from_x = omega arith; to_x = omega arith; from_y = omega arith; to_y = omega arith }

pub never : (x y : ℕ) → Before x y x y → ⊥
never x y (inl h) = omega arith
never x y (inr h) = omega arith

pub later : (c d x y : ℕ) → Before c d x y → Before c d (x + 1) y
later c d x y (inl h) = inl h
later c d x y (inr h) = inr (h.0, omega arith)

pub last : (c d x y : ℕ) → Before c d (x + 1) y → Here x y c d ⊎ Before c d x y
last c d x y (inl h) = inr (inl h)
last c d x y (inr h) = go (eq_or_ne c x)
  where
    go : (c ≡ x) ⊎ (c ≡ x → ⊥) → Here x y c d ⊎ Before c d x y
    go (inl e) = inl (e, h.0)
    go (inr n) = inr (inr (h.0, omega arith))
