-- The check by depths, for code: of each x how many rows are covered from the row on that is looked at, in place of the row up to which it is.
use Rattle.std.specs.Prelude.{◌≡◌, refl, Bool, true, false, ◌&&◌, cond, ◌⊎◌, List, ltb, leb, eqb, length, get_or, set, replicate}
use Rattle.std.proofs.Common.{ap, sym, ◌∙◌, inl, inr, ⊎_elim, length-set, get_or-set_same, get_or-set_other}
use Prim.Native.Nat.{ℕ, zero, suc, ◌+◌, ◌-◌, ◌≤◌, ◌<◌}
use native.Mathlib.Omega.{arith}
use Rattle.std.proofs.lemmas.List.{length-replicate, get_or-replicate}
use borrow.Author.Tests.{lt-ltb, le-ltb, le-leb, lt-leb, eq-eqb, ne_eqb}
use Rattle.laws.specs.laws.Cases.{eq_or_ne, le_or_lt}
use Rattle.layout.specs.Kinds.{wide_of, high_of}
use Rattle.layout.specs.RowByRow.{along_row, rows}
use Rattle.laws.specs.Lists.{fill_from}
use Rattle.layout.specs.Grid.{block_at}
use Rattle.layout.proofs.laws.Grid.{length_fill, fill_left, fill_in, fill_right}
use Rattle.layout.specs.Valid.{Cells}
use Rattle.layout.specs.Check.{Covering, Fault, Until, passes, clear, fitting, visit_cell, visit, check_run, is_layout}
use Rattle.layout.proofs.laws.CheckLaws.{fitting_fits, visit_not_one, visit_one, visit_small, visit_unfit, visit_unclear, visit_raised}
use Rattle.lent_check.specs.laws.Sorts.{wide_some}

-- the check at a cell, over depths (a covering's list holds these here); the x's depth counts from the next row on then
unfoldable pub visit_depth : ℕ → ℕ → ℕ → ℕ → ℕ → ℕ → List ℕ → Covering
visit_depth bw bh k m x y d =
    cond (ltb 0 (get_or d x 0))
    (cond (eqb k 1 && eqb m 0) (Until (set d x (get_or d x 0 - 1))) Fault)
    (cond (leb 2 k && (fitting bw bh x y k m && clear d 0 x (wide_of k))) (Until (set (fill_from d x (wide_of k) (high_of k)) x (high_of k - 1))) Fault)

abbrev pub visit_depths : ℕ → ℕ → Cells → Cells → ℕ → ℕ → Covering → Covering
visit_depths bw bh K M x y Fault = Fault
visit_depths bw bh K M x y (Until d) = visit_depth bw bh (K x y) (M x y) x y d

-- the ends of one cell
module _ (bw bh k m x y : ℕ) (d : List ℕ) where
  pub depth_not_one : 0 < get_or d x 0 → (k ≡ 1 → ⊥) → visit_depth bw bh k m x y d ≡ Fault
  unfolding visit_depth
  depth_not_one h n = rw (lt-ltb 0 (get_or d x 0) h, ne_eqb k 1 n)

  pub depth_one : 0 < get_or d x 0 → k ≡ 1 → visit_depth bw bh k m x y d ≡ cond (eqb m 0) (Until (set d x (get_or d x 0 - 1))) Fault
  unfolding visit_depth
  depth_one h e = rw (lt-ltb 0 (get_or d x 0) h, eq-eqb k 1 e)

  pub depth_small : get_or d x 0 ≤ 0 → k < 2 → visit_depth bw bh k m x y d ≡ Fault
  unfolding visit_depth
  depth_small h l = rw (le-ltb 0 (get_or d x 0) h, lt-leb 2 k l)

  pub depth_unfit : get_or d x 0 ≤ 0 → 2 ≤ k → fitting bw bh x y k m ≡ false → visit_depth bw bh k m x y d ≡ Fault
  unfolding visit_depth
  depth_unfit h l e = rw (le-ltb 0 (get_or d x 0) h, le-leb 2 k l, e)

  pub depth_unclear : get_or d x 0 ≤ 0 → 2 ≤ k → fitting bw bh x y k m ≡ true → clear d 0 x (wide_of k) ≡ false → visit_depth bw bh k m x y d ≡ Fault
  unfolding visit_depth
  depth_unclear h l e f = rw (le-ltb 0 (get_or d x 0) h, le-leb 2 k l, e, f)

  pub depth_raised : get_or d x 0 ≤ 0 → 2 ≤ k → fitting bw bh x y k m ≡ true → clear d 0 x (wide_of k) ≡ true
      → visit_depth bw bh k m x y d ≡ Until (set (fill_from d x (wide_of k) (high_of k)) x (high_of k - 1))
  unfolding visit_depth
  depth_raised h l e f = rw (le-ltb 0 (get_or d x 0) h, le-leb 2 k l, e, f)

-- Depths of the x's before x from the row behind y on, of the others from y on.
pub record Depths (bw x y : ℕ) (u d : List ℕ) : Type 0 where
  pub wide_u : bw ≤ length u
  pub wide_d : bw ≤ length d
  pub done : (i : ℕ) → i < x → i < bw → get_or d i 0 ≡ get_or u i 0 - (y + 1)
  pub ahead : (i : ℕ) → x ≤ i → i < bw → get_or d i 0 ≡ get_or u i 0 - y

abbrev pub Alike : ℕ → ℕ → ℕ → Covering → Covering → Type 0
Alike bw x y Fault Fault = Unit
Alike bw x y Fault (Until d) = ⊥
Alike bw x y (Until u) Fault = ⊥
Alike bw x y (Until u) (Until d) = Depths bw x y u d

alike_of : (bw x y : ℕ) (s s' t t' : Covering) → s ≡ s' → t ≡ t' → Alike bw x y s' t' → Alike bw x y s t
alike_of bw x y s s' t t' e f a = rw (e, f) a

clear_alike : (bw x y : ℕ) (u d : List ℕ) → Depths bw x y u d → (n j : ℕ) → x ≤ j → j + n ≤ bw → clear d 0 j n ≡ clear u y j n
unfolding clear
clear_alike bw x y u d a zero j h l = refl
clear_alike bw x y u d a (suc n) j h l = rw (one (le_or_lt (get_or u j 0) y), clear_alike bw x y u d a n (j + 1) (omega arith) (omega arith))
  where
    one : (get_or u j 0 ≤ y) ⊎ (y < get_or u j 0) → leb (get_or d j 0) 0 ≡ leb (get_or u j 0) y
    one (inl q) = let e = a.ahead j h (omega arith) in rw (le-leb (get_or d j 0) 0 (omega arith), le-leb (get_or u j 0) y q)
    one (inr q) = let e = a.ahead j h (omega arith) in rw (lt-leb (get_or d j 0) 0 (omega arith), lt-leb (get_or u j 0) y q)

module _ (bw x y : ℕ) (u d : List ℕ) (i : x < bw) (a : Depths bw x y u d) where
  depths_covered : Depths bw (x + 1) y u (set d x (get_or d x 0 - 1))
  depths_covered =
      let w = a.wide_d in
      record { wide_u = a.wide_u; wide_d = omega (arith, length-set d x (get_or d x 0 - 1)); done = λ j h l. before j h l (eq_or_ne j x); ahead = λ j h l. get_or-set_other d x j (get_or d x 0 - 1) 0 (omega arith) ∙ a.ahead j (omega arith) l }
    where
      before : (j : ℕ) → j < x + 1 → j < bw → (j ≡ x) ⊎ (j ≡ x → ⊥) → get_or (set d x (get_or d x 0 - 1)) j 0 ≡ get_or u j 0 - (y + 1)
      before j h l (inl q) = rw q (let e = a.ahead x (omega arith) i in get_or-set_same d x (get_or d x 0 - 1) 0 (omega (arith, a.wide_d)) ∙ omega arith)
      before j h l (inr q) = get_or-set_other d x j (get_or d x 0 - 1) 0 (omega arith) ∙ a.done j (omega arith) l

  depths_raised : (w h : ℕ) → 1 ≤ w → x + w ≤ bw → Depths bw (x + 1) y (fill_from u x w (y + h)) (set (fill_from d x w h) x (h - 1))
  depths_raised w h p q =
      record { wide_u = omega (arith, a.wide_u, length_fill u x w (y + h)); wide_d = omega (arith, wide); done = λ j l b. before j l b (eq_or_ne j x); ahead = λ j l b. get_or-set_other d' x j (h - 1) 0 (omega arith) ∙ behind j l b (le_or_lt (x + w) j) }
    where
      d' : List ℕ
      d' = fill_from d x w h

      wide : bw ≤ length (set d' x (h - 1))
      wide = omega (arith, a.wide_d, length_fill d x w h, length-set d' x (h - 1))

      before : (j : ℕ) → j < x + 1 → j < bw → (j ≡ x) ⊎ (j ≡ x → ⊥) → get_or (set d' x (h - 1)) j 0 ≡ get_or (fill_from u x w (y + h)) j 0 - (y + 1)
      before j l b (inl e) = rw e (get_or-set_same d' x (h - 1) 0 (omega (arith, a.wide_d, length_fill d x w h)) ∙ omega (arith, fill_in u x w (y + h) x (omega arith) (omega arith) (omega (arith, a.wide_u))))
      before j l b (inr e) = get_or-set_other d' x j (h - 1) 0 (omega arith) ∙ fill_left d x w h j (omega arith) ∙ a.done j (omega arith) b ∙ ap (λ (n : ℕ). n - (y + 1)) (sym (fill_left u x w (y + h) j (omega arith)))

      behind : (j : ℕ) → x + 1 ≤ j → j < bw → (x + w ≤ j) ⊎ (j < x + w) → get_or d' j 0 ≡ get_or (fill_from u x w (y + h)) j 0 - y
      behind j l b (inl e) = fill_right d x w h j e ∙ a.ahead j (omega arith) b ∙ ap (λ (n : ℕ). n - y) (sym (fill_right u x w (y + h) j e))
      behind j l b (inr e) = omega (arith, fill_in d x w h j (omega arith) e (omega (arith, a.wide_d)), fill_in u x w (y + h) j (omega arith) e (omega (arith, a.wide_u)))

-- the check at a cell goes the same way over both
module _ (bw bh k m x y : ℕ) (u d : List ℕ) (i : x < bw) (a : Depths bw x y u d) where
  abbrev Goal : Type 0
  Goal = Alike bw (x + 1) y (visit_cell bw bh k m x y u) (visit_depth bw bh k m x y d)

  here : get_or d x 0 ≡ get_or u x 0 - y
  here = a.ahead x (omega arith) i

  ends : (s t : Covering) → visit_cell bw bh k m x y u ≡ s → visit_depth bw bh k m x y d ≡ t → Alike bw (x + 1) y s t → Goal
  ends s t e f g = alike_of bw (x + 1) y (visit_cell bw bh k m x y u) s (visit_depth bw bh k m x y d) t e f g

  covered : y < get_or u x 0 → (k ≡ 1) ⊎ (k ≡ 1 → ⊥) → Goal
  covered h (inr n) = ends Fault Fault (visit_not_one bw bh k m x y u h n) (depth_not_one bw bh k m x y d (omega (arith, here)) n) tt
  covered h (inl e) = go (eqb m 0) (visit_one bw bh k m x y u h e) (depth_one bw bh k m x y d (omega (arith, here)) e)
    where
      go : (b : Bool) → visit_cell bw bh k m x y u ≡ cond b (Until u) Fault → visit_depth bw bh k m x y d ≡ cond b (Until (set d x (get_or d x 0 - 1))) Fault → Goal
      go true p q = ends (Until u) (Until (set d x (get_or d x 0 - 1))) p q (depths_covered bw x y u d i a)
      go false p q = ends Fault Fault p q tt

  corner : get_or u x 0 ≤ y → 2 ≤ k → Goal
  corner h l = fit (fitting bw bh x y k m) refl
    where
      z : get_or d x 0 ≤ 0
      z = omega (arith, here)

      cleared : fitting bw bh x y k m ≡ true → (b : Bool) → clear u y x (wide_of k) ≡ b → clear d 0 x (wide_of k) ≡ b → Goal
      cleared f false c e = ends Fault Fault (visit_unclear bw bh k m x y u h l f c) (depth_unclear bw bh k m x y d z l f e) tt
      cleared f true c e =
          let t = fitting_fits bw bh x y k m f in
          ends (Until (fill_from u x (wide_of k) (y + high_of k))) (Until (set (fill_from d x (wide_of k) (high_of k)) x (high_of k - 1))) (visit_raised bw bh k m x y u h l f c) (depth_raised bw bh k m x y d z l f e)
          (depths_raised bw x y u d i a (wide_of k) (high_of k) (wide_some k l t.known) t.in_x)

      fit : (b : Bool) → fitting bw bh x y k m ≡ b → Goal
      fit false f = ends Fault Fault (visit_unfit bw bh k m x y u h l f) (depth_unfit bw bh k m x y d z l f) tt
      fit true f = cleared f (clear u y x (wide_of k)) refl (clear_alike bw x y u d a (wide_of k) x (omega arith) (fitting_fits bw bh x y k m f).in_x)

  cell_alike : Goal
  cell_alike =
      ⊎_elim
      (λ (h : get_or u x 0 ≤ y).
      ⊎_elim (corner h)
      (λ (l : k < 2). ends Fault Fault (visit_small bw bh k m x y u h l) (depth_small bw bh k m x y d (omega (arith, here)) l) tt)
      (le_or_lt 2 k))
      (λ (h : y < get_or u x 0). covered h (eq_or_ne k 1))
      (le_or_lt (get_or u x 0) y)

-- and so over rows
module _ (bw bh : ℕ) (K M : Cells) where
  step_alike : (x y : ℕ) (s t : Covering) → x < bw → Alike bw x y s t → Alike bw (x + 1) y (visit bw bh K M x y s) (visit_depths bw bh K M x y t)
  step_alike x y Fault Fault i a = tt
  step_alike x y Fault (Until d) i a = absurd a
  step_alike x y (Until u) Fault i a = absurd a
  step_alike x y (Until u) (Until d) i a = cell_alike bw bh (K x y) (M x y) x y u d i a

  cells_alike : (n x y : ℕ) (s t : Covering) → x + n ≡ bw → Alike bw x y s t → Alike bw bw y (along_row (visit bw bh K M) n x y s) (along_row (visit_depths bw bh K M) n x y t)
  unfolding along_row
  cells_alike zero x y s t e a = let q : x ≡ bw = omega arith in rw q at a
  cells_alike (suc n) x y s t e a = cells_alike n (x + 1) y (visit bw bh K M x y s) (visit_depths bw bh K M x y t) (omega arith) (step_alike x y s t (omega arith) a)

  next_alike : (y : ℕ) (s t : Covering) → Alike bw bw y s t → Alike bw 0 (y + 1) s t
  next_alike y Fault Fault a = tt
  next_alike y Fault (Until d) a = absurd a
  next_alike y (Until u) Fault a = absurd a
  next_alike y (Until u) (Until d) a = record { wide_u = a.wide_u; wide_d = a.wide_d; done = λ i h l. absurd (omega arith); ahead = λ i h l. a.done i l l }

  passes_alike : (y : ℕ) (s t : Covering) → Alike bw 0 y s t → passes s ≡ passes t
  passes_alike y Fault Fault a = refl
  passes_alike y Fault (Until d) a = absurd a
  passes_alike y (Until u) Fault a = absurd a
  passes_alike y (Until u) (Until d) a = refl

  rows_alike : (n y : ℕ) (s t : Covering) → Alike bw 0 y s t → passes (rows (visit bw bh K M) bw n y s) ≡ passes (rows (visit_depths bw bh K M) bw n y t)
  unfolding rows
  rows_alike zero y s t a = passes_alike y s t a
  rows_alike (suc n) y s t a =
      let s' = along_row (visit bw bh K M) bw 0 y s in
      let t' = along_row (visit_depths bw bh K M) bw 0 y t in
      rows_alike n (y + 1) s' t' (next_alike y s' t' (cells_alike bw 0 y s t (omega arith) a))

-- A layout is what the check by depths passes, with room for more x's.
pub depths_check : (bw bh : ℕ) (kinds hf_mul : List ℕ) → bw ≤ 256
    → is_layout bw bh kinds hf_mul ≡ passes (rows (visit_depths bw bh (block_at kinds bw) (block_at hf_mul bw)) bw bh 0 (Until (replicate 259 0)))
unfolding check_run
depths_check bw bh kinds hf_mul h =
    rows_alike bw bh (block_at kinds bw) (block_at hf_mul bw) bh 0 (Until (replicate bw 0)) (Until (replicate 259 0))
    (record { wide_u = omega (arith, length-replicate {A = ℕ} bw 0); wide_d = omega (arith, length-replicate {A = ℕ} 259 0); done = λ i l b. absurd (omega arith); ahead = λ i l b. get_or-replicate {A = ℕ} 259 i 0 0 (omega arith) ∙ omega (arith, get_or-replicate {A = ℕ} bw i 0 0 b) })
