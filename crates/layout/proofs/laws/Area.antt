-- The areas of a valid layout's rectangles sum to the grid's: the covered heights at its x's grow by each area.
use Rattle.std.proofs.Math.Path.{◌≡◌, refl}
use Rattle.std.proofs.Common.{◌∙◌, inl, inr, suc-mul, length-set, get_or-set_other, le-leb}
use Rattle.std.specs.Prelude.{Bool, cond, ◌⊎◌, leb, set, replicate}
use Rattle.std.proofs.Math.Bool.{true, false}
use mathlib.Core.List.{List, [], ◌∷◌}
use Prim.Native.Nat.{ℕ, zero, suc, ◌+◌, ◌*◌, ◌-◌, ◌≤◌, ◌<◌}
use native.Mathlib.Omega.{arith}
use Rattle.std.proofs.Math.ListN.{length, get_or, length-replicate, get_or-replicate}
use Rattle.std.proofs.lemmas.Bool.{lt-leb}
use Rattle.layout.specs.Kinds.{wide_of, high_of}
use Rattle.layout.proofs.laws.Kinds.{wide_sized, high_sized}
use Rattle.layout.specs.RowByRow.{along_row, rows, row_by_row}
use Rattle.layout.proofs.laws.RowByRow.{beside}
use Rattle.laws.specs.laws.Cases.{eq_or_ne}
use Rattle.layout.specs.laws.Stretch.{Place, left, inside, right}
use Rattle.layout.proofs.laws.Stretch.{place}
use Rattle.laws.specs.Lists.{fill_from}
use Rattle.layout.proofs.laws.Grid.{length_fill, fill_left, fill_in, fill_right}
use Rattle.layout.specs.Valid.{Cells, Fits, Valid}
use Rattle.layout.specs.Check.{Covering, Fault, Until, passes, visit, visit_cell}
use Rattle.layout.specs.laws.CheckLaws.{Passed, covered, opened}
use Rattle.layout.proofs.laws.CheckLaws.{visit_cases}
use Rattle.layout.proofs.laws.ValidCheck.{valid_check}
use Rattle.layout.specs.Varblocks.{Varblock, add_varblock, corners_row, corners_from, corners, area}

abbrev sum : List ℕ → ℕ
sum [] = 0
sum (a ∷ l) = a + sum l

sum_set : (l : List ℕ) (i v : ℕ) → i < length l → sum (set l i v) + get_or l i 0 ≡ sum l + v
sum_set [] i v h = absurd (omega arith)
sum_set (a ∷ l) zero v h = omega arith
sum_set (a ∷ l) (suc i) v h = let e = sum_set l i v (omega arith) in omega arith

sum_fill : (l : List ℕ) (i n y h : ℕ) → i + n ≤ length l → ((j : ℕ) → i ≤ j → j < i + n → get_or l j 0 ≡ y) → sum (fill_from l i n (y + h)) ≡ sum l + n * h
unfolding fill_from
sum_fill l i zero y h fit each = omega arith
sum_fill l i (suc n) y h fit each =
    let ih = sum_fill (set l i (y + h)) (i + 1) n y h (let z = length-set l i (y + h) in omega arith) (λ j p q. get_or-set_other l i j (y + h) 0 (omega arith) ∙ each j (omega arith) (omega arith)) in
    let e = sum_set l i (y + h) (omega arith) in
    let f = each i (omega arith) (omega arith) in
    let g = suc-mul n h in
    omega arith

sum_level : (l : List ℕ) (v : ℕ) → ((j : ℕ) → j < length l → get_or l j 0 ≡ v) → sum l ≡ length l * v
sum_level [] v each = omega arith
sum_level (a ∷ l) v each =
    let e : a ≡ v = each 0 (omega arith) in
    let ih = sum_level l v (λ j h. each (suc j) (omega arith)) in
    let g = suc-mul (length l) v in
    omega arith

sum_zero : (n : ℕ) → sum (replicate n 0) ≡ 0
sum_zero zero = refl
sum_zero (suc n) = let e = sum_zero n in omega arith

-- the area that a cell of kind k begins
unfoldable cell_area : ℕ → ℕ
cell_area k = cond (leb 2 k) (wide_of k * high_of k) 0

abbrev add : Cells → ℕ → ℕ → ℕ → ℕ
add K x y n = n + cell_area (K x y)

record Level (bw bh : ℕ) (u : List ℕ) (x y n : ℕ) : Type 0 where
  size : length u ≡ bw
  low : (a : ℕ) → a < bw → y ≤ get_or u a 0
  done : (a : ℕ) → a < bw → a < x → y < get_or u a 0
  top : (a : ℕ) → a < bw → get_or u a 0 ≤ bh
  total : sum u ≡ n

corner_area : (k : ℕ) → 2 ≤ k → cell_area k ≡ wide_of k * high_of k
unfolding cell_area
corner_area k h = rw (le-leb 2 k h)

plain_area : (k : ℕ) → k < 2 → cell_area k ≡ 0
unfolding cell_area
plain_area k h = rw (lt-leb 2 k h)

module _ (bw bh : ℕ) (u : List ℕ) (x y n k m : ℕ) (hx : x < bw) (r : Level bw bh u x y n) where
  covered_level : y < get_or u x 0 → k ≡ 1 → Level bw bh u (x + 1) y (n + cell_area k)
  covered_level h e = record { size = r.size; low = r.low; done = λ a i j. go a i j (eq_or_ne a x); top = r.top; total = let z = plain_area k (omega arith) in let t = r.total in omega arith }
    where
      go : (a : ℕ) → a < bw → a < x + 1 → (a ≡ x) ⊎ (a ≡ x → ⊥) → y < get_or u a 0
      go a i j (inl q) = rw q h
      go a i j (inr q) = r.done a i (omega arith)

  opened_level : 2 ≤ k → Fits bw bh x y k m → ((i : ℕ) → x ≤ i → i < x + wide_of k → get_or u i 0 ≤ y) → Level bw bh (fill_from u x (wide_of k) (y + high_of k)) (x + 1) y (n + cell_area k)
  opened_level h f cl = record {
    size = length_fill u x (wide_of k) (y + high_of k) ∙ r.size;
    low = λ a i. lo a i (place x (wide_of k) a);
    done = λ a i j. go a i j (place x (wide_of k) a);
    top = λ a i. hi a i (place x (wide_of k) a);
    total = let e = sum_fill u x (wide_of k) y (high_of k) (let z = r.size in let w = f.in_x in omega arith) each in let z = corner_area k h in let t = r.total in omega arith;
  }
    where
      u' : List ℕ
      u' = fill_from u x (wide_of k) (y + high_of k)

      each : (j : ℕ) → x ≤ j → j < x + wide_of k → get_or u j 0 ≡ y
      each j p q = let a = cl j p q in let b = r.low j (let w = f.in_x in omega arith) in omega arith

      to_left : (a : ℕ) → a < x → get_or u' a 0 ≡ get_or u a 0
      to_left a i = fill_left u x (wide_of k) (y + high_of k) a i

      to_right : (a : ℕ) → x + wide_of k ≤ a → get_or u' a 0 ≡ get_or u a 0
      to_right a i = fill_right u x (wide_of k) (y + high_of k) a i

      in_it : (a : ℕ) → a < bw → x ≤ a → a < x + wide_of k → get_or u' a 0 ≡ y + high_of k
      in_it a i p q = fill_in u x (wide_of k) (y + high_of k) a p q (let z = r.size in omega arith)

      lo : (a : ℕ) → a < bw → Place x (wide_of k) a → y ≤ get_or u' a 0
      lo a i (left p) = let e = to_left a p in let l = r.low a i in omega arith
      lo a i (right p) = let e = to_right a p in let l = r.low a i in omega arith
      lo a i (inside p q) = let e = in_it a i p q in omega arith

      go : (a : ℕ) → a < bw → a < x + 1 → Place x (wide_of k) a → y < get_or u' a 0
      go a i j (left p) = let e = to_left a p in let l = r.done a i p in omega arith
      go a i j (right p) = absurd (let w = wide_sized (k - 2) (let q = f.known in omega arith) in omega arith)
      go a i j (inside p q) = let e = in_it a i p q in let w = high_sized (k - 2) (let z = f.known in omega arith) in omega arith

      hi : (a : ℕ) → a < bw → Place x (wide_of k) a → get_or u' a 0 ≤ bh
      hi a i (left p) = let e = to_left a p in let l = r.top a i in omega arith
      hi a i (right p) = let e = to_right a p in let l = r.top a i in omega arith
      hi a i (inside p q) = let e = in_it a i p q in let w = f.in_y in omega arith

module _ (bw bh : ℕ) (K M : Cells) where
  Grown : ℕ → ℕ → Covering → ℕ → Type 0
  Grown x y Fault n = Unit
  Grown x y (Until u) n = Level bw bh u x y n

  step : (x y : ℕ) (s : Covering) (n : ℕ) → x < bw → y < bh → Grown x y s n → Grown (x + 1) y (visit bw bh K M x y s) (add K x y n)
  unfolding Grown
  step x y Fault n hx hy r = tt
  step x y (Until u) n hx hy r =
      visit_cases bw bh (K x y) (M x y) x y u (λ s. visit_cell bw bh (K x y) (M x y) x y u ≡ s) (Grown (x + 1) y (visit_cell bw bh (K x y) (M x y) x y u) (add K x y n))
      (λ e. rw e tt) good refl
    where
      good : (u' : List ℕ) → Passed bw bh (K x y) (M x y) x y u u' → visit_cell bw bh (K x y) (M x y) x y u ≡ Until u' → Grown (x + 1) y (visit_cell bw bh (K x y) (M x y) x y u) (add K x y n)
      good u' (covered a b c) e = rw e (covered_level bw bh u x y n (K x y) (M x y) hx r a b)
      good u' (opened a b c d) e = rw e (opened_level bw bh u x y n (K x y) (M x y) hx r b c d)

  turn : (y : ℕ) (s : Covering) (n : ℕ) → y < bh → Grown bw y s n → Grown 0 (y + 1) s n
  unfolding Grown
  turn y Fault n h r = tt
  turn y (Until u) n h r = record { size = r.size; low = λ a i. let l = r.done a i i in omega arith; done = λ a i j. absurd (omega arith); top = r.top; total = r.total }

  end : (s : Covering) (n : ℕ) → passes s ≡ true → Grown 0 bh s n → n ≡ bw * bh
  unfolding Grown
  end Fault n e r = absurd (let z : ◌≡◌ {A = ℕ} 0 1 = cc in omega arith)
  end (Until u) n e r =
      let z = sum_level u bh (λ j h. let a = r.low j (let q = r.size in omega arith) in let b = r.top j (let q = r.size in omega arith) in omega arith) in
      let t = r.total in
      let q : length u * bh ≡ bw * bh = rw r.size in
      omega arith

  added : Valid bw bh K M → row_by_row (add K) bw bh 0 ≡ bw * bh
  unfolding Grown
  added ok =
      end (row_by_row (visit bw bh K M) bw bh (Until (replicate bw 0))) (row_by_row (add K) bw bh 0) (valid_check bw bh K M ok bw (omega arith))
      (beside (visit bw bh K M) (add K) bw bh Grown step turn (Until (replicate bw 0)) 0
      (record {
        size = length-replicate bw 0;
        low = λ a i. omega arith;
        done = λ a i j. absurd (omega arith);
        top = λ a i. let z : get_or {A = ℕ} (replicate bw 0) a 0 ≡ 0 = get_or-replicate {A = ℕ} bw a 0 0 i in omega arith;
        total = sum_zero bw;
      }))

  one_cell : (x y : ℕ) (b : Bool) (l : List Varblock) → leb 2 (K x y) ≡ b
      → area (add_varblock b (record { x = x; y = y; type = K x y - 2; hf_mul = M x y }) l) ≡ cond b (wide_of (K x y) * high_of (K x y)) 0 + area l
  unfolding area
  one_cell x y true l e = refl
  one_cell x y false l e = omega arith

  row_area : (n x y s : ℕ) (l : List Varblock) → along_row (add K) n x y s + area l ≡ s + area (corners_row K M n x y l)
  unfolding along_row corners_row cell_area
  row_area zero x y s l = refl
  row_area (suc n) x y s l =
      let ih = row_area n (x + 1) y (s + cell_area (K x y)) l in
      let e = one_cell x y (leb 2 (K x y)) (corners_row K M n (x + 1) y l) refl in
      omega arith

  rows_area : (n y s : ℕ) → rows (add K) bw n y s ≡ s + area (corners_from K M bw n y)
  unfolding rows corners_from area
  rows_area zero y s = omega arith
  rows_area (suc n) y s =
      let ih = rows_area n (y + 1) (along_row (add K) bw 0 y s) in
      let e = row_area bw 0 y s (corners_from K M bw n (y + 1)) in
      omega arith

  pub area_valid : Valid bw bh K M → area (corners K M bw bh) ≡ bw * bh
  area_valid ok = let e = rows_area bh 0 0 in let f = added ok in omega arith
