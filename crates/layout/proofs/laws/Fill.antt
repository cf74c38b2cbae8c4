-- A grid written cell by cell.
use Rattle.std.specs.Prelude.{◌≡◌, ◌⊎◌, List, ℕ, ◌+◌, ◌*◌, ◌≤◌, ◌<◌, length, set}
use Rattle.std.proofs.Common.{◌∙◌, inl, inr, arith, length-set}
use Rattle.laws.specs.laws.Cases.{le_or_lt}
use Rattle.layout.specs.RowByRow.{row_by_row, Before}
use Rattle.layout.proofs.laws.RowByRow.{forward}
use Rattle.layout.specs.Grid.{block_at, grid_of}
use Rattle.layout.proofs.laws.Grid.{set_same, set_other, grid_is}
use Rattle.layout.specs.laws.Order.{Here}
use Rattle.layout.proofs.laws.Order.{last}

module _ (f : ℕ → ℕ → ℕ) (w h : ℕ) where
  -- the cell (x, y) is written
  abbrev pub write : ℕ → ℕ → List ℕ → List ℕ
  write x y l = set l (y * w + x) (f x y)

  -- all cells before (x, y) are written
  record Written (x y : ℕ) (l : List ℕ) : Type 0 where
    size : length l ≡ h * w
    done : (a b : ℕ) → a < w → Before a b x y → block_at l w a b ≡ f a b

  step : (x y : ℕ) (l : List ℕ) → x < w → y < h → Written x y l → Written (x + 1) y (write x y l)
  step x y l i j r = record { size = length-set l (y * w + x) (f x y) ∙ r.size; done = λ a b p q. go a b p (last a b x y q) }
    where
      other : (a b : ℕ) → Before a b x y → (a ≡ x) × (b ≡ y) → ⊥
      other a b (inl g) e = omega arith
      other a b (inr g) e = omega arith

      go : (a b : ℕ) → a < w → Here x y a b ⊎ Before a b x y → block_at (write x y l) w a b ≡ f a b
      go a b p (inl e) = rw (e.0, e.1) (set_same l w h x y (f x y) r.size i j)
      go a b p (inr g) = set_other l w x y (f x y) a b i p (other a b g) ∙ r.done a b p g

  turn : (y : ℕ) (l : List ℕ) → y < h → Written w y l → Written 0 (y + 1) l
  turn y l i r = record { size = r.size; done = λ a b p q. r.done a b p (go a b p q) }
    where
      go : (a b : ℕ) → a < w → Before a b 0 (y + 1) → Before a b w y
      go a b p (inr g) = absurd (omega arith)
      go a b p (inl g) = pick (le_or_lt y b)
        where
          pick : (y ≤ b) ⊎ (b < y) → Before a b w y
          pick (inl k) = inr (omega arith, p)
          pick (inr k) = inl k

  pub written : (l : List ℕ) → length l ≡ h * w → row_by_row write w h l ≡ grid_of f w h
  written l e =
      let r = forward write w h Written step turn l (record { size = e; done = λ a b p q. absurd (none a b q) }) in
      grid_is f w h (row_by_row write w h l) r.size (λ x y i j. r.done x y i (inl j))
    where
      none : (a b : ℕ) → Before a b 0 0 → ⊥
      none a b (inl g) = omega arith
      none a b (inr g) = omega arith
