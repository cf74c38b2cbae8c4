-- Row by row, as two nested loops go: what is left from a row, and from a cell, on.
use Rattle.std.specs.Prelude.{◌≡◌, ℕ, ◌+◌, ◌-◌, ◌≤◌, ◌<◌}
use Rattle.std.proofs.Common.{ap, sym, ◌∙◌}
use Rattle.layout.specs.RowByRow.{along_row, rows, row_by_row}
use Rattle.layout.proofs.laws.RowByRowSteps.{cells_step, cells_end, rows_step, rows_end, rows_start, cells_stuck, rows_stuck}

module _ {S : Type 0} (f : ℕ → ℕ → S → S) (w h : ℕ) where
  abbrev pub rows_left : ℕ → S → S
  rows_left y s = rows f w (h - y) y s

  abbrev pub cells_left : ℕ → ℕ → S → S
  cells_left y x s = rows f w (h - (y + 1)) (y + 1) (along_row f (w - x) x y s)

  pub loop_start : (s : S) → row_by_row f w h s ≡ rows_left 0 s
  loop_start s = rows_start f w h s

  pub loop_enter : (y : ℕ) (s : S) → y < h → rows_left y s ≡ cells_left y 0 s
  loop_enter y s l = rows_step f w h y s l

  pub loop_next : (y x : ℕ) (s t : S) → x < w → t ≡ f x y s → cells_left y x s ≡ cells_left y (x + 1) t
  loop_next y x s t l e =
      ap (λ (r : S). rows f w (h - (y + 1)) (y + 1) r) (cells_step f w x y s l)
      ∙ ap (λ (r : S). rows f w (h - (y + 1)) (y + 1) (along_row f (w - (x + 1)) (x + 1) y r)) (sym e)

  -- a state that every cell leaves as it is
  pub loop_stop : (y x : ℕ) (s t : S) → ((a b : ℕ) → f a b t ≡ t) → x < w → t ≡ f x y s → cells_left y x s ≡ t
  loop_stop y x s t k l e =
      loop_next y x s t l e ∙ ap (λ (r : S). rows f w (h - (y + 1)) (y + 1) r) (cells_stuck f t k (w - (x + 1)) (x + 1) y)
      ∙ rows_stuck f t k w (h - (y + 1)) (y + 1)

  pub loop_leave : (y x : ℕ) (s : S) → w ≤ x → cells_left y x s ≡ rows_left (y + 1) s
  loop_leave y x s l = ap (λ (r : S). rows f w (h - (y + 1)) (y + 1) r) (cells_end f w x y s l)

  pub loop_finish : (y : ℕ) (s : S) → h ≤ y → rows_left y s ≡ s
  loop_finish y s l = rows_end f w h y s l
