-- Placing further on and closing an x do not touch each other.
use Rattle.std.specs.Prelude.{◌≡◌, Bool, true, false, ◌&&◌, List, ltb, leb, eqb, get_or, set}
use Rattle.std.proofs.Math.Path.{refl, ap}
use Rattle.std.proofs.Common.{◌∙◌, arith, get_or-set_other}
use Prim.Native.Nat.{ℕ, zero, suc, ◌+◌, ◌-◌, ◌<◌}
use Rattle.std.proofs.lemmas.List.{set_comm}
use Rattle.layout.specs.Kinds.{wide_of, high_of}
use Rattle.layout.specs.RowByRow.{along_row}
use Rattle.laws.specs.Lists.{fill_from}
use Rattle.layout.proofs.laws.Grid.{fill_left}
use Rattle.layout.specs.Valid.{Cells}
use Rattle.layout.specs.Check.{Covering, Fault, Until, clear, fitting}
use Rattle.lent_cells.specs.laws.Cells.{flag_of, larger_of, one_block}
use Rattle.lent_check.specs.laws.Steps.{place_cell, place, close_cell, close}

pub clear_set : (d : List ℕ) (x v y j n : ℕ) → x < j → clear (set d x v) y j n ≡ clear d y j n
unfolding clear
clear_set d x v y j zero h = refl
clear_set d x v y j (suc n) h = rw (get_or-set_other d x j v 0 (omega arith), clear_set d x v y (j + 1) n (omega arith))

fill_set : (d : List ℕ) (x v j n w : ℕ) → x < j → set (fill_from d j n w) x v ≡ fill_from (set d x v) j n w
unfolding fill_from
fill_set d x v j zero w h = refl
fill_set d x v j (suc n) w h = fill_set (set d j w) x v (j + 1) n w (omega arith) ∙ ap (λ (l : List ℕ). fill_from l (j + 1) n w) (set_comm d j x w v (omega arith))

module _ (bw bh : ℕ) (K : Cells) (x y : ℕ) where
  swap_cell : (j : ℕ) (s : Covering) → x < j → close K x y (place bw bh K j y s) ≡ place bw bh K j y (close K x y s)
  unfolding place_cell close_cell
  swap_cell j Fault h = refl
  swap_cell j (Until d) h = go (eqb (larger_of k) 0) refl (eqb (flag_of (ltb 0 (get_or d x 0))) (one_block (K x y))) refl
    where
      k : ℕ
      k = K j y

      fits : List ℕ → Bool
      fits l = leb 2 k && (fitting bw bh j y k 1 && clear l 0 j (wide_of k))

      v : ℕ
      v = get_or d x 0 - 1

      kept : get_or (fill_from d j (wide_of k) (high_of k)) x 0 ≡ get_or d x 0
      kept = fill_left d j (wide_of k) (high_of k) x h

      moved : fits (set d x v) ≡ fits d
      moved = rw (clear_set d x v 0 j (wide_of k) h)

      inner : (t : Bool) → fits d ≡ t → (b : Bool) → eqb (flag_of (ltb 0 (get_or d x 0))) (one_block (K x y)) ≡ b → eqb (larger_of k) 0 ≡ false
          → close K x y (place bw bh K j y (Until d)) ≡ place bw bh K j y (close K x y (Until d))
      inner true t true f e = rw (e, t, kept, f)
      inner true t false f e = rw (e, t, kept, f, e, moved, t) (ap Until (fill_set d x v j (wide_of k) (high_of k) h))
      inner false t true f e = rw (e, t, f)
      inner false t false f e = rw (e, t, f, e, moved, t)

      go : (a : Bool) → eqb (larger_of k) 0 ≡ a → (b : Bool) → eqb (flag_of (ltb 0 (get_or d x 0))) (one_block (K x y)) ≡ b
          → close K x y (place bw bh K j y (Until d)) ≡ place bw bh K j y (close K x y (Until d))
      go true e true f = rw (e, f)
      go true e false f = rw (e, f, e)
      go false e b f = inner (fits d) refl b f e

  pub swap : (n j : ℕ) (s : Covering) → x < j → close K x y (along_row (place bw bh K) n j y s) ≡ along_row (place bw bh K) n j y (close K x y s)
  unfolding along_row
  swap zero j s h = refl
  swap (suc n) j s h = swap n (j + 1) (place bw bh K j y s) (omega arith) ∙ ap (along_row (place bw bh K) n (j + 1) y) (swap_cell j s h)
