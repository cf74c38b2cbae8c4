-- The second step over a row, x by x, with the gaps that were met.
use Rattle.std.specs.Prelude.{◌≡◌, Bool, true, false, ltb, eqb, get_or}
use Rattle.std.proofs.Math.Path.{ap, refl}
use Rattle.std.proofs.Common.{◌∙◌, arith, ne_eqb}
use Rattle.std.proofs.Math.Bool.{cond}
use mathlib.Core.List.{List}
use Prim.Native.Nat.{ℕ, ◌+◌, ◌-◌, ◌≤◌, ◌<◌, max}
use Rattle.std.proofs.Math.ListN.{set}
use Rattle.layout.specs.RowByRow.{along_row}
use Rattle.layout.specs.Valid.{Cells}
use Rattle.layout.specs.Check.{Covering, Fault, Until}
use Rattle.layout.proofs.laws.RowByRowSteps.{cells_step, cells_end}
use Rattle.lent_cells.specs.laws.Cells.{flag_of, one_block, gap_of}
use Rattle.lent_check.specs.laws.Steps.{close_cell, close}
use Rattle.lent_check.specs.laws.Rows.{close_fault}

module _ (bw : ℕ) (K : Cells) (y : ℕ) where
  -- what is left to close, where the most that was met is 1 for a gap, or 0 for none
  abbrev pub closing : ℕ → ℕ → List ℕ → Covering
  closing gaps x d = cond (eqb gaps 0) (along_row (close K) (bw - x) x y (Until d)) Fault

  pub close_next : (gaps x : ℕ) (d : List ℕ) → x < bw → closing gaps x d ≡ closing (max gaps (gap_of (K x y) (get_or d x 0))) (x + 1) (set d x (get_or d x 0 - 1))
  unfolding gap_of close_cell
  close_next gaps x d h =
      ap (λ (s : Covering). cond (eqb gaps 0) s Fault) (cells_step (close K) bw x y (Until d) h) ∙ go (eqb (flag_of (ltb 0 (get_or d x 0))) (one_block (K x y))) (eqb gaps 0) refl
    where
      d' : List ℕ
      d' = set d x (get_or d x 0 - 1)

      go : (b g : Bool) → eqb gaps 0 ≡ g
          → cond (eqb gaps 0) (along_row (close K) (bw - (x + 1)) (x + 1) y (cond b Fault (Until d'))) Fault ≡ cond (eqb (max gaps (flag_of b)) 0) (along_row (close K) (bw - (x + 1)) (x + 1) y (Until d')) Fault
      go true true f = rw (f, ne_eqb (max gaps 1) 0 (λ e. omega arith)) (close_fault bw 0 K y (bw - (x + 1)) (x + 1))
      go true false f = rw (f, ne_eqb (max gaps 1) 0 (λ e. omega arith))
      go false g f = let e : max gaps 0 ≡ gaps = omega arith in rw e

  pub close_start : (d : List ℕ) → along_row (close K) bw 0 y (Until d) ≡ closing 0 0 d
  close_start d = let e : bw ≡ bw - 0 = omega arith in ap (λ (n : ℕ). along_row (close K) n 0 y (Until d)) e

  pub close_end : (gaps x : ℕ) (d : List ℕ) → bw ≤ x → closing gaps x d ≡ cond (eqb gaps 0) (Until d) Fault
  close_end gaps x d h = ap (λ (s : Covering). cond (eqb gaps 0) s Fault) (cells_end (close K) bw x y (Until d) h)
