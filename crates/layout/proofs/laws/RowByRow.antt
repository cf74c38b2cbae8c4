-- Ways to reason about a step at each block, row by row.
use Rattle.std.specs.Prelude.{◌≡◌}
use Prim.Native.Nat.{ℕ, zero, suc, ◌+◌, ◌<◌}
use native.Mathlib.Omega.{arith}
use Rattle.layout.specs.RowByRow.{along_row, rows, row_by_row}

-- Forward: what holds at the start and is kept by each cell and each turn of row holds at the end.
module _ {S : Type 0} (f : ℕ → ℕ → S → S) (bw bh : ℕ) (P : ℕ → ℕ → S → Type 0)
    (step : (x y : ℕ) (s : S) → x < bw → y < bh → P x y s → P (x + 1) y (f x y s))
    (turn : (y : ℕ) (s : S) → y < bh → P bw y s → P 0 (y + 1) s) where
  forward_cells : (n x y : ℕ) (s : S) → x + n ≡ bw → y < bh → P x y s → P bw y (along_row f n x y s)
  unfolding along_row
  forward_cells zero x y s e h p = let q : x ≡ bw = omega arith in rw q at p
  forward_cells (suc n) x y s e h p = forward_cells n (x + 1) y (f x y s) (omega arith) h (step x y s (omega arith) h p)

  forward_rows : (n y : ℕ) (s : S) → y + n ≡ bh → P 0 y s → P 0 bh (rows f bw n y s)
  unfolding rows
  forward_rows zero y s e p = let q : y ≡ bh = omega arith in rw q at p
  forward_rows (suc n) y s e p =
      forward_rows n (y + 1) (along_row f bw 0 y s) (omega arith)
      (turn y (along_row f bw 0 y s) (omega arith) (forward_cells bw 0 y s (omega arith) (omega arith) p))

  pub forward : (s : S) → P 0 0 s → P 0 bh (row_by_row f bw bh s)
  forward s p = forward_rows bh 0 s (omega arith) p

-- Backward: what holds at the end, and before each cell if after it, holds at the start.
module _ {S : Type 0} (f : ℕ → ℕ → S → S) (bw bh : ℕ) (P : ℕ → ℕ → S → Type 0)
    (step : (x y : ℕ) (s : S) → x < bw → y < bh → P (x + 1) y (f x y s) → P x y s)
    (turn : (y : ℕ) (s : S) → y < bh → P 0 (y + 1) s → P bw y s) where
  backward_cells : (n x y : ℕ) (s : S) → x + n ≡ bw → y < bh → P bw y (along_row f n x y s) → P x y s
  unfolding along_row
  backward_cells zero x y s e h p = let q : bw ≡ x = omega arith in rw q at p
  backward_cells (suc n) x y s e h p = step x y s (omega arith) h (backward_cells n (x + 1) y (f x y s) (omega arith) h p)

  backward_rows : (n y : ℕ) (s : S) → y + n ≡ bh → P 0 bh (rows f bw n y s) → P 0 y s
  unfolding rows
  backward_rows zero y s e p = let q : bh ≡ y = omega arith in rw q at p
  backward_rows (suc n) y s e p =
      backward_cells bw 0 y s (omega arith) (omega arith)
      (turn y (along_row f bw 0 y s) (omega arith) (backward_rows n (y + 1) (along_row f bw 0 y s) (omega arith) p))

  pub backward : (s : S) → P 0 bh (row_by_row f bw bh s) → P 0 0 s
  backward s p = backward_rows bh 0 s (omega arith) p

-- Two of them side by side.
module _ {S R : Type 0} (f : ℕ → ℕ → S → S) (g : ℕ → ℕ → R → R) (bw bh : ℕ) (P : ℕ → ℕ → S → R → Type 0)
    (step : (x y : ℕ) (s : S) (r : R) → x < bw → y < bh → P x y s r → P (x + 1) y (f x y s) (g x y r))
    (turn : (y : ℕ) (s : S) (r : R) → y < bh → P bw y s r → P 0 (y + 1) s r) where
  beside_cells : (n x y : ℕ) (s : S) (r : R) → x + n ≡ bw → y < bh → P x y s r → P bw y (along_row f n x y s) (along_row g n x y r)
  unfolding along_row
  beside_cells zero x y s r e h p = let q : x ≡ bw = omega arith in rw q at p
  beside_cells (suc n) x y s r e h p = beside_cells n (x + 1) y (f x y s) (g x y r) (omega arith) h (step x y s r (omega arith) h p)

  beside_rows : (n y : ℕ) (s : S) (r : R) → y + n ≡ bh → P 0 y s r → P 0 bh (rows f bw n y s) (rows g bw n y r)
  unfolding rows
  beside_rows zero y s r e p = let q : y ≡ bh = omega arith in rw q at p
  beside_rows (suc n) y s r e p =
      beside_rows n (y + 1) (along_row f bw 0 y s) (along_row g bw 0 y r) (omega arith)
      (turn y (along_row f bw 0 y s) (along_row g bw 0 y r) (omega arith) (beside_cells bw 0 y s r (omega arith) (omega arith) p))

  pub beside : (s : S) (r : R) → P 0 0 s r → P 0 bh (row_by_row f bw bh s) (row_by_row g bw bh r)
  beside s r p = beside_rows bh 0 s r (omega arith) p
