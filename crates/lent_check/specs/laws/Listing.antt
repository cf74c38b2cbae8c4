-- The x's of a row that the first step looks at: their list, as it is made, and the step over it.
use Rattle.std.specs.Prelude.{◌≡◌, Bool, false, cond, ◌⊎◌, set, drop}
use Rattle.std.proofs.Math.Path.{refl, ap, sym}
use Rattle.std.proofs.Common.{◌∙◌, inl, inr, drop_of_length-le, get_or-set_same, get_or-set_other, take-suc-set, drop-cons, get_or-take, eqb-true}
use Rattle.std.proofs.Math.Bool.{true}
use mathlib.Core.List.{List, [], ◌∷◌, ◌++◌, append_assoc, append-nil}
use Prim.Native.Nat.{ℕ, zero, suc, ◌+◌, ◌-◌, ◌≤◌, ◌<◌}
use native.Mathlib.Omega.{arith}
use Rattle.std.proofs.Math.Dec.{eqb}
use Rattle.std.proofs.Math.ListN.{length, get_or, take, length-set}
use Rattle.std.proofs.lemmas.List.{take-set-le}
use Rattle.std.proofs.Math.Seq.{length-take-le}
use Rattle.laws.specs.laws.Cases.{eq_or_ne}
use Rattle.layout.specs.RowByRow.{along_row}
use Rattle.layout.specs.Valid.{Cells}
use Rattle.layout.specs.Check.{Covering, Fault, Until}
use Rattle.layout.proofs.laws.RowByRowSteps.{left_suc}
use Rattle.lent_check.specs.laws.Sorts.{larger_flag}
use Rattle.lent_cells.specs.laws.Cells.{larger_of}
use Rattle.lent_check.specs.laws.Steps.{place_cell, place, place_plain}

-- the flag of an x: 1 where it is looked at
abbrev pub flag_at : Cells → ℕ → ℕ → ℕ
flag_at K y x = larger_of (K x y)

unfoldable pub looked : (ℕ → ℕ) → ℕ → ℕ → List ℕ
looked f zero x = []
looked f (suc n) x = cond (eqb (f x) 0) (looked f n (x + 1)) (x ∷ looked f n (x + 1))

-- only flags matter
looked_same : (f g : ℕ → ℕ) (n x : ℕ) → ((i : ℕ) → x ≤ i → i < x + n → f i ≡ g i) → looked f n x ≡ looked g n x
unfolding looked
looked_same f g zero x e = refl
looked_same f g (suc n) x e = rw (e x (omega arith) (omega arith), looked_same f g n (x + 1) (λ i h l. e i (omega arith) (omega arith)))

-- a list's first n places hold these x's
pub record Listed (l : List ℕ) (n : ℕ) (list : List ℕ) : Type 0 where
  pub count : length l ≡ n
  pub room : n ≤ 256
  pub same : (i : ℕ) → i < n → get_or list i 0 ≡ get_or l i 0

looked_below : (f : ℕ → ℕ) (n x : ℕ) (i : ℕ) → i < length (looked f n x) → get_or (looked f n x) i 0 < x + n
unfolding looked
looked_below f zero x i h = absurd (omega arith)
looked_below f (suc n) x i h = go (eqb (f x) 0) i (λ j k. looked_below f n (x + 1) j k) h
  where
    go : (b : Bool) (i : ℕ) → ((j : ℕ) → j < length (looked f n (x + 1)) → get_or (looked f n (x + 1)) j 0 < x + 1 + n)
        → i < length (cond b (looked f n (x + 1)) (x ∷ looked f n (x + 1))) → get_or (cond b (looked f n (x + 1)) (x ∷ looked f n (x + 1))) i 0 < x + suc n
    go true i f h = let k = f i h in omega arith
    go false zero f h = omega arith
    go false (suc i) f h = let k = f i (omega arith) in omega arith

pub x_below : (f : ℕ → ℕ) (bw i n : ℕ) (list : List ℕ) → Listed (looked f bw 0) n list → i < n → get_or list i 0 < bw
x_below f bw i n list s h = let c = s.count in let e = s.same i h in let k = looked_below f bw 0 i (omega arith) in omega arith

-- a list of flags: 0 or 1 for each x
abbrev pub Flags : ℕ → List ℕ → Type 0
Flags bw flags = (i : ℕ) → i < bw → get_or flags i 0 ≤ 1

-- the flags of a row
abbrev pub Flagged : Cells → ℕ → ℕ → List ℕ → Type 0
Flagged K y x flags = (i : ℕ) → i < x → get_or flags i 0 ≡ flag_at K y i

pub flagged_flags : (K : Cells) (y bw : ℕ) (flags : List ℕ) → Flagged K y bw flags → Flags bw flags
flagged_flags K y bw flags e i h = let q = e i h in let l = larger_flag (K i y) in omega arith

pub flagged_next : (K : Cells) (y x v : ℕ) (flags : List ℕ) → x < length flags → v ≡ flag_at K y x → Flagged K y x flags → Flagged K y (x + 1) (set flags x v)
flagged_next K y x v flags r e s i h = go (eq_or_ne i x)
  where
    go : (i ≡ x) ⊎ (i ≡ x → ⊥) → get_or (set flags x v) i 0 ≡ flag_at K y i
    go (inl q) = rw q (get_or-set_same flags x v 0 r ∙ e)
    go (inr q) = get_or-set_other flags x i v 0 (omega arith) ∙ s i (omega arith)

pub listed_row : (K : Cells) (y bw n : ℕ) (flags list : List ℕ) → Flagged K y bw flags → Listed (looked (λ (x : ℕ). get_or flags x 0) bw 0) n list → Listed (looked (flag_at K y) bw 0) n list
listed_row K y bw n flags list e s = rw (looked_same (λ (x : ℕ). get_or flags x 0) (flag_at K y) bw 0 (λ i h l. e i (omega arith))) at s

-- the list as it is made: the x's before x are in it, n of them
module _ (f : ℕ → ℕ) (bw : ℕ) where
  abbrev pub Listing : ℕ → ℕ → List ℕ → Type 0
  Listing n x list = (n ≤ x) × (x ≤ bw) × (length list ≡ 256) × (take n list ++ looked f (bw - x) x ≡ looked f bw 0)

  pub list_start : (list : List ℕ) → length list ≡ 256 → Listing 0 0 list
  list_start list e = let z : bw - 0 ≡ bw = omega arith in (omega arith, omega arith, e, rw z)

  pub list_next : (n x : ℕ) (list : List ℕ) → x < bw → bw ≤ 256 → f x ≤ 1 → Listing n x list → Listing (n + f x) (x + 1) (set list n x)
  unfolding looked
  list_next n x list h r k s =
      let l = s.2 in
      (omega (arith, s.0), omega arith, length-set list n x ∙ l, go (eq_or_ne (f x) 0) ∙ ap (λ (m : ℕ). take n list ++ looked f m x) (sym (left_suc x bw h)) ∙ s.3)
    where
      rest : List ℕ
      rest = looked f (bw - (x + 1)) (x + 1)

      go : (f x ≡ 0) ⊎ (f x ≡ 0 → ⊥) → take (n + f x) (set list n x) ++ rest ≡ take n list ++ cond (eqb (f x) 0) rest (x ∷ rest)
      go (inl e) = let z : n + 0 ≡ n = omega arith in rw (e, z, take-set-le n list n x (omega arith))
      go (inr d) =
          let o : f x ≡ 1 = omega arith in
          let z : n + 1 ≡ suc n = omega arith in
          rw (o, z, take-suc-set list n x (omega (arith, s.0, s.2))) (append_assoc (take n list) (x ∷ []) rest)

  pub list_step : (n x v : ℕ) (list : List ℕ) → x < bw → bw ≤ 256 → f x ≤ 1 → v ≡ f x → Listing n x list → Listing (n + v) (x + 1) (set list n x)
  list_step n x v list h r k e s = rw e (list_next n x list h r k s)

  pub list_end : (n x : ℕ) (list : List ℕ) → bw ≤ x → bw ≤ 256 → Listing n x list → Listed (looked f bw 0) n list
  unfolding looked
  list_end n x list h r s =
      let z : bw - x ≡ 0 = omega arith in
      let e : take n list ≡ looked f bw 0 = sym (append-nil (take n list)) ∙ ap (λ (m : ℕ). take n list ++ looked f m x) (sym z) ∙ s.3 in
      record { count = ap length (sym e) ∙ length-take-le n list (omega (arith, s.0, s.1, s.2)); room = omega (arith, s.0, s.1); same = λ i k. sym (get_or-take n list i 0 k) ∙ ap (λ (l : List ℕ). get_or l i 0) e }

-- The first step over the listed x's.
abbrev pub place_all : ℕ → ℕ → Cells → ℕ → List ℕ → Covering → Covering
place_all bw bh K y [] s = s
place_all bw bh K y (x ∷ l) s = place_all bw bh K y l (place bw bh K x y s)

module _ (bw bh : ℕ) (K : Cells) (y : ℕ) where
  place_looked : (n x : ℕ) (s : Covering) → along_row (place bw bh K) n x y s ≡ place_all bw bh K y (looked (flag_at K y) n x) s
  unfolding along_row looked
  place_looked zero x s = refl
  place_looked (suc n) x s = go (eqb (larger_of (K x y)) 0) refl (λ s. place_looked n (x + 1) s)
    where
      still : eqb (larger_of (K x y)) 0 ≡ true → (s : Covering) → place bw bh K x y s ≡ s
      still e Fault = refl
      still e (Until d) = place_plain bw bh (K x y) x y d (eqb-true (larger_of (K x y)) 0 e)

      go : (b : Bool) → eqb (larger_of (K x y)) 0 ≡ b → ((s : Covering) → along_row (place bw bh K) n (x + 1) y s ≡ place_all bw bh K y (looked (flag_at K y) n (x + 1)) s)
          → along_row (place bw bh K) n (x + 1) y (place bw bh K x y s) ≡ place_all bw bh K y (cond b (looked (flag_at K y) n (x + 1)) (x ∷ looked (flag_at K y) n (x + 1))) s
      go true e f = ap (along_row (place bw bh K) n (x + 1) y) (still e s) ∙ f s
      go false e f = f (place bw bh K x y s)

  all_fault : (l : List ℕ) → place_all bw bh K y l Fault ≡ Fault
  all_fault [] = refl
  all_fault (x ∷ l) = all_fault l

  pub place_start : (d : List ℕ) → along_row (place bw bh K) bw 0 y (Until d) ≡ place_all bw bh K y (drop 0 (looked (flag_at K y) bw 0)) (Until d)
  place_start d = place_looked bw 0 (Until d)

  pub place_end : (i : ℕ) (l d : List ℕ) → length l ≤ i → place_all bw bh K y (drop i l) (Until d) ≡ Until d
  place_end i l d h = rw (drop_of_length-le l {i = i} h)

  module _ (i : ℕ) (l : List ℕ) (x : ℕ) (d : List ℕ) (h : i < length l) (e : x ≡ get_or l i 0) where
    turn : place_all bw bh K y (drop i l) (Until d) ≡ place_all bw bh K y (drop (i + 1) l) (place_cell bw bh (K x y) x y d)
    turn = let z : i + 1 ≡ suc i = omega arith in rw (drop-cons l i 0 h, z, e)

    pub place_next : (d' : List ℕ) → Until d' ≡ place_cell bw bh (K x y) x y d → place_all bw bh K y (drop i l) (Until d) ≡ place_all bw bh K y (drop (i + 1) l) (Until d')
    place_next d' f = turn ∙ ap (place_all bw bh K y (drop (i + 1) l)) (sym f)

    pub place_stop : Fault ≡ place_cell bw bh (K x y) x y d → place_all bw bh K y (drop i l) (Until d) ≡ Fault
    place_stop f = turn ∙ ap (place_all bw bh K y (drop (i + 1) l)) (sym f) ∙ all_fault (drop (i + 1) l)
