-- A row of the check in two steps: first every corner of more than one block is placed, then every x closed.
use Rattle.std.specs.Prelude.{◌≡◌, Bool, ◌&&◌, cond, List, ltb, leb, eqb, length, get_or, set, replicate}
use Rattle.std.proofs.Math.Path.{refl, ap}
use Rattle.std.proofs.Common.{sym, ◌∙◌, arith}
use Rattle.std.proofs.Math.Bool.{true, false}
use Prim.Native.Nat.{ℕ, zero, suc, ◌+◌, ◌-◌, ◌≤◌, ◌<◌}
use Rattle.std.proofs.Math.ListN.{length-set}
use Rattle.layout.specs.Kinds.{wide_of, high_of}
use Rattle.layout.specs.RowByRow.{along_row, rows}
use Rattle.laws.specs.Lists.{fill_from}
use Rattle.layout.specs.Grid.{block_at}
use Rattle.layout.proofs.laws.Grid.{length_fill}
use Rattle.layout.specs.Valid.{Cells}
use Rattle.layout.specs.Check.{Covering, Fault, Until, passes, clear, fitting, is_layout}
use Rattle.layout.proofs.laws.RowByRowSteps.{cells_stuck, rows_step, rows_end, rows_stuck}
use Rattle.lent_check.specs.laws.Flaws.{Sound}
use Rattle.lent_cells.specs.laws.Cells.{flag_of, larger_of, one_block}
use Rattle.lent_check.specs.laws.Depths.{visit_depths, depths_check}
use Rattle.lent_check.specs.laws.Steps.{place_cell, place, close_cell, close, visit_steps}
use Rattle.lent_check.specs.laws.Apart.{swap}

-- enough x's
abbrev pub Wide : ℕ → Covering → Type 0
Wide bw Fault = Unit
Wide bw (Until d) = bw ≤ length d

module _ (bw bh : ℕ) (K : Cells) (y : ℕ) where
  place_wide : (x : ℕ) (s : Covering) → Wide bw s → Wide bw (place bw bh K x y s)
  unfolding place_cell
  place_wide x Fault r = tt
  place_wide x (Until d) r = go (eqb (larger_of (K x y)) 0) (leb 2 (K x y) && (fitting bw bh x y (K x y) 1 && clear d 0 x (wide_of (K x y))))
    where
      go : (a b : Bool) → Wide bw (cond a (Until d) (cond b (Until (fill_from d x (wide_of (K x y)) (high_of (K x y)))) Fault))
      go true b = r
      go false true = omega (arith, length_fill d x (wide_of (K x y)) (high_of (K x y)))
      go false false = tt

  close_wide : (x : ℕ) (s : Covering) → Wide bw s → Wide bw (close K x y s)
  unfolding close_cell
  close_wide x Fault r = tt
  close_wide x (Until d) r = go (eqb (flag_of (ltb 0 (get_or d x 0))) (one_block (K x y)))
    where
      go : (a : Bool) → Wide bw (cond a Fault (Until (set d x (get_or d x 0 - 1))))
      go true = tt
      go false = omega (arith, length-set d x (get_or d x 0 - 1))

  abbrev pub Row : Covering → Covering
  Row s = along_row (close K) bw 0 y (along_row (place bw bh K) bw 0 y s)

  pub row_wide : (s : Covering) → Wide bw s → Wide bw (Row s)
  unfolding along_row
  row_wide s r = closed bw 0 _ (placed bw 0 s r)
    where
      placed : (n x : ℕ) (s : Covering) → Wide bw s → Wide bw (along_row (place bw bh K) n x y s)
      placed zero x s r = r
      placed (suc n) x s r = placed n (x + 1) (place bw bh K x y s) (place_wide x s r)

      closed : (n x : ℕ) (s : Covering) → Wide bw s → Wide bw (along_row (close K) n x y s)
      closed zero x s r = r
      closed (suc n) x s r = closed n (x + 1) (close K x y s) (close_wide x s r)

  pub close_fault : (n x : ℕ) → along_row (close K) n x y Fault ≡ Fault
  close_fault n x = cells_stuck (close K) Fault (λ a b. refl) n x y

module _ (bw bh : ℕ) (K M : Cells) (y : ℕ) (h : y < bh) (sound : (x : ℕ) → x < bw → Sound (K x y) (M x y)) where
  row_steps : (n x : ℕ) (s : Covering) → x + n ≡ bw → Wide bw s → along_row (visit_depths bw bh K M) n x y s ≡ along_row (close K) n x y (along_row (place bw bh K) n x y s)
  unfolding along_row
  row_steps zero x s e r = refl
  row_steps (suc n) x s e r =
      let t = visit_depths bw bh K M x y s in
      let c : t ≡ close K x y (place bw bh K x y s) = one s r in
      row_steps n (x + 1) t (omega arith) (rw c (close_wide bw bh K y x (place bw bh K x y s) (place_wide bw bh K y x s r)))
      ∙ ap (λ (s : Covering). along_row (close K) n (x + 1) y (along_row (place bw bh K) n (x + 1) y s)) c
      ∙ ap (along_row (close K) n (x + 1) y) (sym (swap bw bh K x y n (x + 1) (place bw bh K x y s) (omega arith)))
    where
      one : (s : Covering) → Wide bw s → visit_depths bw bh K M x y s ≡ close K x y (place bw bh K x y s)
      one Fault r = refl
      one (Until d) r = visit_steps bw bh (K x y) (M x y) x y d (omega arith) h (omega arith) (sound x (omega arith))

-- Rows from y on.
module _ (kinds hf_mul : List ℕ) (bw bh : ℕ) where
  abbrev pub rows_left : ℕ → List ℕ → Bool
  rows_left y d = passes (rows (visit_depths bw bh (block_at kinds bw) (block_at hf_mul bw)) bw (bh - y) y (Until d))

  pub rows_start : bw ≤ 256 → is_layout bw bh kinds hf_mul ≡ rows_left 0 (replicate 259 0)
  rows_start h =
      let e : bh ≡ bh - 0 = omega arith in
      depths_check bw bh kinds hf_mul h ∙ ap (λ (n : ℕ). passes (rows (visit_depths bw bh (block_at kinds bw) (block_at hf_mul bw)) bw n 0 (Until (replicate 259 0)))) e

  pub rows_finish : (y : ℕ) (d : List ℕ) → bh ≤ y → rows_left y d ≡ true
  rows_finish y d h = ap passes (rows_end (visit_depths bw bh (block_at kinds bw) (block_at hf_mul bw)) bw bh y (Until d) h)

  module _ (sound : (x y : ℕ) → x < bw → y < bh → Sound (block_at kinds bw x y) (block_at hf_mul bw x y)) (y : ℕ) (d : List ℕ) (h : y < bh) (r : bw ≤ length d) where
    row_turn : rows_left y d ≡ passes (rows (visit_depths bw bh (block_at kinds bw) (block_at hf_mul bw)) bw (bh - (y + 1)) (y + 1) (Row bw bh (block_at kinds bw) y (Until d)))
    row_turn =
        let f = visit_depths bw bh (block_at kinds bw) (block_at hf_mul bw) in
        let e : bw - 0 ≡ bw = omega arith in
        ap passes (rows_step f bw bh y (Until d) h ∙ ap (λ (n : ℕ). rows f bw (bh - (y + 1)) (y + 1) (along_row f n 0 y (Until d))) e
        ∙ ap (rows f bw (bh - (y + 1)) (y + 1)) (row_steps bw bh (block_at kinds bw) (block_at hf_mul bw) y h (λ x i. sound x y i h) bw 0 (Until d) (omega arith) r))

    -- a row that passes, and one that does not
    pub row_next : (d' : List ℕ) → Until d' ≡ Row bw bh (block_at kinds bw) y (Until d) → (rows_left y d ≡ rows_left (y + 1) d') × (bw ≤ length d')
    row_next d' e = (row_turn ∙ ap (λ (s : Covering). passes (rows (visit_depths bw bh (block_at kinds bw) (block_at hf_mul bw)) bw (bh - (y + 1)) (y + 1) s)) (sym e), rw (← e) at (row_wide bw bh (block_at kinds bw) y (Until d) r))

    pub row_stop : Fault ≡ Row bw bh (block_at kinds bw) y (Until d) → rows_left y d ≡ false
    row_stop e =
        row_turn ∙ ap (λ (s : Covering). passes (rows (visit_depths bw bh (block_at kinds bw) (block_at hf_mul bw)) bw (bh - (y + 1)) (y + 1) s)) (sym e)
        ∙ ap passes (rows_stuck (visit_depths bw bh (block_at kinds bw) (block_at hf_mul bw)) Fault (λ a b. refl) bw (bh - (y + 1)) (y + 1))

-- what a step's result says
pub told_good : (r : Bool) (d : List ℕ) (s : Covering) → cond r (Until d) Fault ≡ s → r ≡ true → Until d ≡ s
told_good r d s e h = rw h at e

pub told_bad : (r : Bool) (d : List ℕ) (s : Covering) → cond r (Until d) Fault ≡ s → r ≡ false → Fault ≡ s
told_bad r d s e h = rw h at e
