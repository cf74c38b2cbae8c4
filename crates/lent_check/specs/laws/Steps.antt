-- The check at a cell in two steps, for code: a corner of more than one block is placed, then the x is seen to be covered just once.
use Rattle.std.specs.Prelude.{◌≡◌, refl, Bool, true, false, ◌&&◌, cond, ◌⊎◌, List, ℕ, zero, suc, ◌-◌, ◌^◌, ◌≤◌, ◌<◌, ltb, leb, eqb, length, set}
use Rattle.std.proofs.Common.{ap, ◌∙◌, inl, inr, set-set}
use Rattle.std.proofs.Math.Path.{sym}
use Rattle.std.proofs.Math.Logic.{⊎_elim}
use native.Mathlib.Omega.{arith}
use Rattle.std.proofs.Math.ListN.{get_or}
use borrow.Author.Tests.{lt-ltb, le-ltb, le-leb, lt-leb, eq-eqb, ne_eqb}
use Rattle.laws.specs.laws.Cases.{eq_or_ne, le_or_lt}
use Rattle.layout.specs.Kinds.{wide_of, high_of}
use Rattle.laws.specs.Lists.{fill_from}
use Rattle.layout.proofs.laws.Grid.{fill_in}
use Rattle.layout.specs.Valid.{Cells}
use Rattle.layout.specs.Check.{Covering, Fault, Until, clear, fitting}
use Rattle.layout.proofs.laws.CheckLaws.{each_clear, fits_fitting}
use Rattle.lent_check.specs.laws.Flaws.{Sound}
use Rattle.lent_cells.specs.laws.Cells.{flag_of, larger_of, within_of, one_block}
use Rattle.lent_check.specs.laws.Sorts.{Single, Larger, sort}
use Rattle.lent_check.specs.laws.Depths.{visit_depth, depth_not_one, depth_one, depth_small, depth_unfit, depth_unclear, depth_raised}

-- First step, at one cell. Its hf_mul is seen to before.
unfoldable pub place_cell : ℕ → ℕ → ℕ → ℕ → ℕ → List ℕ → Covering
place_cell bw bh k x y d =
    cond (eqb (larger_of k) 0) (Until d)
    (cond (leb 2 k && (fitting bw bh x y k 1 && clear d 0 x (wide_of k))) (Until (fill_from d x (wide_of k) (high_of k))) Fault)

abbrev pub place : ℕ → ℕ → Cells → ℕ → ℕ → Covering → Covering
place bw bh K x y Fault = Fault
place bw bh K x y (Until d) = place_cell bw bh (K x y) x y d

-- Second step, at one cell: either a corner of one block or covered; below it the x's depth is one less.
unfoldable pub close_cell : ℕ → ℕ → List ℕ → Covering
close_cell k x d = cond (eqb (flag_of (ltb 0 (get_or d x 0))) (one_block k)) Fault (Until (set d x (get_or d x 0 - 1)))

abbrev pub close_at : ℕ → ℕ → Covering → Covering
close_at k x Fault = Fault
close_at k x (Until d) = close_cell k x d

abbrev pub close : Cells → ℕ → ℕ → Covering → Covering
close K x y = close_at (K x y) x

-- The ends of each, for code.
module _ (bw bh k x y : ℕ) (d : List ℕ) where
  pub place_plain : larger_of k ≡ 0 → place_cell bw bh k x y d ≡ Until d
  unfolding place_cell
  place_plain e = rw (eq-eqb (larger_of k) 0 e)

  module _ (n : larger_of k ≡ 0 → ⊥) where
    pub place_free : k < 2 → place_cell bw bh k x y d ≡ Fault
    unfolding place_cell
    place_free h = rw (ne_eqb (larger_of k) 0 n, lt-leb 2 k h)

    module _ (h : 2 ≤ k) where
      pub place_unfit : fitting bw bh x y k 1 ≡ false → place_cell bw bh k x y d ≡ Fault
      unfolding place_cell
      place_unfit f = rw (ne_eqb (larger_of k) 0 n, le-leb 2 k h, f)

      pub place_fit : fitting bw bh x y k 1 ≡ true → place_cell bw bh k x y d ≡ cond (clear d 0 x (wide_of k)) (Until (fill_from d x (wide_of k) (high_of k))) Fault
      unfolding place_cell
      place_fit f = rw (ne_eqb (larger_of k) 0 n, le-leb 2 k h, f)

module _ (k x : ℕ) (d : List ℕ) where
  close_covered : 0 < get_or d x 0 → one_block k ≡ 0 → close_cell k x d ≡ Until (set d x (get_or d x 0 - 1))
  unfolding close_cell
  close_covered h e = rw (lt-ltb 0 (get_or d x 0) h, e)

  close_gap : get_or d x 0 ≤ 0 → one_block k ≡ 0 → close_cell k x d ≡ Fault
  unfolding close_cell
  close_gap h e = rw (le-ltb 0 (get_or d x 0) h, e)

  close_single : get_or d x 0 ≤ 0 → one_block k ≡ 1 → close_cell k x d ≡ Until (set d x 0)
  unfolding close_cell
  close_single h e = let m : get_or d x 0 - 1 ≡ 0 = omega arith in rw (le-ltb 0 (get_or d x 0) h, e, m)

  close_twice : 0 < get_or d x 0 → one_block k ≡ 1 → close_cell k x d ≡ Fault
  unfolding close_cell
  close_twice h e = rw (lt-ltb 0 (get_or d x 0) h, e)

unclear : (d : List ℕ) (x : ℕ) → 0 < get_or d x 0 → (w : ℕ) → 1 ≤ w → clear d 0 x w ≡ false
unfolding clear
unclear d x h zero l = absurd (omega arith)
unclear d x h (suc w) l = rw (lt-leb (get_or d x 0) 0 h)

-- Both steps at a cell are the check at it.
module _ (bw bh k m x y : ℕ) (d : List ℕ) (i : x < bw) (j : y < bh) (r : x < length d) (s : Sound k m) where
  fits_same : 1 ≤ m → fitting bw bh x y k m ≡ fitting bw bh x y k 1
  unfolding fitting
  fits_same h = rw (le-leb 1 m h, lt-ltb m (2 ^ 31) s.signed)

  abbrev pub Goal : Type 0
  Goal = visit_depth bw bh k m x y d ≡ close_at k x (place_cell bw bh k x y d)

  free : k ≡ 0 → Goal
  unfolding larger_of within_of
  free e =
      let p = place_free bw bh k x y d (λ z. let q : larger_of 0 ≡ 0 = rw e at z in omega arith) (omega arith) in
      ⊎_elim
      (λ (h : get_or d x 0 ≤ 0). depth_small bw bh k m x y d h (omega arith) ∙ sym (ap (close_at k x) p))
      (λ (h : 0 < get_or d x 0). depth_not_one bw bh k m x y d h (λ q. omega arith) ∙ sym (ap (close_at k x) p))
      (le_or_lt (get_or d x 0) 0)

  taken : k ≡ 1 → Goal
  unfolding larger_of one_block within_of
  taken e =
      let p = place_plain bw bh k x y d (rw e) in
      let o : one_block k ≡ 0 = rw e in
      ⊎_elim
      (λ (h : get_or d x 0 ≤ 0). depth_small bw bh k m x y d h (omega arith) ∙ sym (ap (close_at k x) p ∙ close_gap k x d h o))
      (λ (h : 0 < get_or d x 0). depth_one bw bh k m x y d h e ∙ rw (eq-eqb m 0 (s.occupied e)) (sym (ap (close_at k x) p ∙ close_covered k x d h o)))
      (le_or_lt (get_or d x 0) 0)

  single : 2 ≤ k → Single k → Goal
  unfolding fill_from
  single l t =
      let p = place_plain bw bh k x y d t.plain in
      let w = t.width in
      let v = t.height in
      let n = s.other (λ q. omega arith) in
      ⊎_elim
      (λ (h : get_or d x 0 ≤ 0).
      let f = fits_fitting bw bh x y k m (record { known = s.known; in_x = omega arith; in_y = omega arith; square_x = omega arith; square_y = omega arith; positive = n; signed = s.signed }) in
      let c = each_clear d 0 x (wide_of k) (λ a b e. let q : a ≡ x = omega arith in rw q h) in
      depth_raised bw bh k m x y d h l f c ∙ rw (w, v) (ap Until (set-set d x 1 0) ∙ sym (ap (close_at k x) p ∙ close_single k x d h t.one)))
      (λ (h : 0 < get_or d x 0). depth_not_one bw bh k m x y d h (λ q. omega arith) ∙ sym (ap (close_at k x) p ∙ close_twice k x d h t.one))
      (le_or_lt (get_or d x 0) 0)

  larger : 2 ≤ k → Larger k → Goal
  larger l t = fit (fitting bw bh x y k 1) refl (le_or_lt (get_or d x 0) 0)
    where
      n : 1 ≤ m
      n = s.other (λ q. omega arith)

      d' : List ℕ
      d' = fill_from d x (wide_of k) (high_of k)

      ended : (b : Bool) → clear d 0 x (wide_of k) ≡ b → fitting bw bh x y k 1 ≡ true → place_cell bw bh k x y d ≡ cond b (Until d') Fault
      ended b c f = place_fit bw bh k x y d t.more l f ∙ ap (λ (b : Bool). cond b (Until d') Fault) c

      placed : (b : Bool) → clear d 0 x (wide_of k) ≡ b → fitting bw bh x y k 1 ≡ true → get_or d x 0 ≤ 0 → Goal
      placed false c f h = depth_unclear bw bh k m x y d h l (fits_same n ∙ f) c ∙ sym (ap (close_at k x) (ended _ c f))
      placed true c f h =
          let a : get_or d' x 0 ≡ high_of k = fill_in d x (wide_of k) (high_of k) x (omega arith) (omega (arith, t.width)) r in
          let b = t.height in
          depth_raised bw bh k m x y d h l (fits_same n ∙ f) c ∙ ap (λ (v : ℕ). Until (set d' x (v - 1))) (sym a) ∙ sym (ap (close_at k x) (ended _ c f) ∙ close_covered k x d' (omega arith) t.one)

      fit : (b : Bool) → fitting bw bh x y k 1 ≡ b → (get_or d x 0 ≤ 0) ⊎ (0 < get_or d x 0) → Goal
      fit false f (inl h) = depth_unfit bw bh k m x y d h l (fits_same n ∙ f) ∙ sym (ap (close_at k x) (place_unfit bw bh k x y d t.more l f))
      fit false f (inr h) = depth_not_one bw bh k m x y d h (λ q. omega arith) ∙ sym (ap (close_at k x) (place_unfit bw bh k x y d t.more l f))
      fit true f (inl h) = placed (clear d 0 x (wide_of k)) refl f h
      fit true f (inr h) = depth_not_one bw bh k m x y d h (λ q. omega arith) ∙ sym (ap (close_at k x) (ended false (unclear d x h (wide_of k) t.width) f))

  pub visit_steps : Goal
  visit_steps = ⊎_elim free (λ a. ⊎_elim taken (λ b. let l : 2 ≤ k = omega arith in ⊎_elim (single l) (larger l) (sort k l s.known)) (eq_or_ne k 1)) (eq_or_ne k 0)
