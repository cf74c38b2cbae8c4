-- Laws on grids as they are lent: flat lists, row by row.
use Rattle.std.specs.Prelude.{◌≡◌, ◌⊎◌, List, get_or, set}
use Rattle.std.proofs.Math.Path.{refl, ap}
use Rattle.std.proofs.Common.{sym, ◌∙◌, inl, inr, mul-zero, mul_comm, mod-lt, div-lt_iff_lt-mul, length-set, get_or-set_same, get_or-set_other, get_or-append-add, ext_get_or}
use Prim.Native.Nat.{ℕ, zero, suc, ◌+◌, ◌*◌, ◌/◌, ◌%◌, ◌≤◌, ◌<◌}
use Rattle.std.proofs.Math.Nat.{suc-mul, div-add-mod}
use native.Mathlib.Omega.{arith}
use Rattle.std.proofs.Math.Arith.{digits_lt, digits_div, digits_mod}
use Rattle.std.proofs.Math.ListN.{length, length-append, get_or-append}
use Rattle.laws.specs.laws.Cases.{eq_or_ne}
use Rattle.laws.specs.Lists.{fill_from}
use Rattle.layout.specs.Grid.{block_at, grid_from, grid_of, row_of}
use Rattle.layout.specs.laws.Grid.{Cell}

pub length_fill : (l : List ℕ) (i n v : ℕ) → length (fill_from l i n v) ≡ length l
unfolding fill_from
length_fill l i zero v = refl
length_fill l i (suc n) v = length_fill (set l i v) (i + 1) n v ∙ length-set l i v

pub fill_left : (l : List ℕ) (i n v j : ℕ) → j < i → get_or (fill_from l i n v) j 0 ≡ get_or l j 0
unfolding fill_from
fill_left l i zero v j h = refl
fill_left l i (suc n) v j h = fill_left (set l i v) (i + 1) n v j (omega arith) ∙ get_or-set_other l i j v 0 (omega arith)

pub fill_right : (l : List ℕ) (i n v j : ℕ) → i + n ≤ j → get_or (fill_from l i n v) j 0 ≡ get_or l j 0
unfolding fill_from
fill_right l i zero v j h = refl
fill_right l i (suc n) v j h = fill_right (set l i v) (i + 1) n v j (omega arith) ∙ get_or-set_other l i j v 0 (omega arith)

pub fill_in : (l : List ℕ) (i n v j : ℕ) → i ≤ j → j < i + n → j < length l → get_or (fill_from l i n v) j 0 ≡ v
unfolding fill_from
fill_in l i zero v j a b c = absurd (omega arith)
fill_in l i (suc n) v j a b c = go (eq_or_ne j i) (λ p q r. fill_in (set l i v) (i + 1) n v j p q r)
  where
    go : (j ≡ i) ⊎ (j ≡ i → ⊥) → (i + 1 ≤ j → j < i + 1 + n → j < length (set l i v) → get_or (fill_from (set l i v) (i + 1) n v) j 0 ≡ v) → get_or (fill_from (set l i v) (i + 1) n v) j 0 ≡ v
    go (inl e) ih =
        let k : i < length l = omega arith in
        rw e (fill_left (set l i v) (i + 1) n v i (omega arith) ∙ get_or-set_same l i v 0 k)
    go (inr e) ih = let q : length (set l i v) ≡ length l = length-set l i v in ih (omega arith) (omega arith) (omega arith)

-- Places of cells.
pub place_lt : (bw bh x y : ℕ) → x < bw → y < bh → y * bw + x < bh * bw
place_lt bw bh x y h l = digits_lt l h

pub place_row : (bw x y a b : ℕ) → x < bw → a < bw → b * bw + a ≡ y * bw + x → b ≡ y
place_row bw x y a b h l e = sym (digits_div b l) ∙ ap (λ (i : ℕ). i / bw) e ∙ digits_div y h

pub place_col : (bw x y a b : ℕ) → x < bw → a < bw → b * bw + a ≡ y * bw + x → a ≡ x
place_col bw x y a b h l e = sym (digits_mod b l) ∙ ap (λ (i : ℕ). i % bw) e ∙ digits_mod y h

pub cell_at : (bw bh i : ℕ) → i < bh * bw → Cell bw bh i
cell_at zero bh i h = absurd (omega (arith, mul-zero bh))
cell_at (suc w) bh i h = record {
  x = i % suc w;
  y = i / suc w;
  in_x = mod-lt i (omega arith);
  in_y = (div-lt_iff_lt-mul {k = suc w} (omega arith)).1 h;
  place = sym (div-add-mod i (suc w)) ∙ ap (λ (n : ℕ). n + i % suc w) (mul_comm (suc w) (i / suc w));
}

-- One cell set.
pub set_same : (g : List ℕ) (bw bh x y v : ℕ) → length g ≡ bh * bw → x < bw → y < bh → block_at (set g (y * bw + x) v) bw x y ≡ v
set_same g bw bh x y v e h l = let k : y * bw + x < length g = omega (arith, place_lt bw bh x y h l) in get_or-set_same g (y * bw + x) v 0 k

pub set_other : (g : List ℕ) (bw x y v a b : ℕ) → x < bw → a < bw → ((a ≡ x) × (b ≡ y) → ⊥) → block_at (set g (y * bw + x) v) bw a b ≡ block_at g bw a b
set_other g bw x y v a b h l n =
    get_or-set_other g (y * bw + x) (b * bw + a) v 0 (λ e. n (place_col bw x y a b h l e, place_row bw x y a b h l e))

-- A grid made from its cells.
module _ (f : ℕ → ℕ → ℕ) where
  length_row : (n x y : ℕ) → length (row_of f n x y) ≡ n
  unfolding row_of
  length_row zero x y = refl
  length_row (suc n) x y = ap suc (length_row n (x + 1) y)

  length_grid : (w n y : ℕ) → length (grid_from f w n y) ≡ n * w
  unfolding grid_from
  length_grid w zero y = omega arith
  length_grid w (suc n) y = length-append (row_of f w 0 y) (grid_from f w n (y + 1)) ∙ omega (arith, length_row w 0 y, length_grid w n (y + 1), suc-mul n w)

  at_row : (n x y i : ℕ) → i < n → get_or (row_of f n x y) i 0 ≡ f (x + i) y
  unfolding row_of
  at_row zero x y i h = absurd (omega arith)
  at_row (suc n) x y zero h = let e : x + 0 ≡ x = omega arith in rw e
  at_row (suc n) x y (suc i) h = let e : x + suc i ≡ x + 1 + i = omega arith in rw e (at_row n (x + 1) y i (omega arith))

  at_grid : (w n y a b : ℕ) → a < w → b < n → block_at (grid_from f w n y) w a b ≡ f a (y + b)
  unfolding grid_from
  at_grid w zero y a b h l = absurd (omega arith)
  at_grid w (suc n) y a zero h l =
      let e : zero * w + a ≡ a = omega arith in
      let k : y + 0 ≡ y = omega arith in
      let m : 0 + a ≡ a = omega arith in
      rw (e, k) (get_or-append (row_of f w 0 y) (grid_from f w n (y + 1)) 0 a (omega (arith, length_row w 0 y)) ∙ at_row w 0 y a h ∙ ap (λ (i : ℕ). f i y) m)
  at_grid w (suc n) y a (suc b) h l =
      let e : suc b * w + a ≡ length (row_of f w 0 y) + (b * w + a) = omega (arith, suc-mul b w, length_row w 0 y) in
      let k : y + suc b ≡ y + 1 + b = omega arith in
      rw (e, k) (get_or-append-add (row_of f w 0 y) (grid_from f w n (y + 1)) (b * w + a) 0 ∙ at_grid w n (y + 1) a b h (omega arith))

  pub grid_length_lem : (w h : ℕ) → length (grid_of f w h) ≡ h * w
  grid_length_lem w h = length_grid w h 0

  pub grid_at : (w h x y : ℕ) → x < w → y < h → block_at (grid_of f w h) w x y ≡ f x y
  grid_at w h x y p q = let e : 0 + y ≡ y = omega arith in at_grid w h 0 x y p q ∙ ap (λ (i : ℕ). f x i) e

  -- a list with these cells is this grid
  pub grid_is : (w h : ℕ) (l : List ℕ) → length l ≡ h * w → ((x y : ℕ) → x < w → y < h → block_at l w x y ≡ f x y) → l ≡ grid_of f w h
  grid_is w h l e same = ext_get_or 0 l (grid_of f w h) (e ∙ sym (grid_length_lem w h)) (λ i j. go i (cell_at w h i (omega arith)))
    where
      go : (i : ℕ) → Cell w h i → get_or l i 0 ≡ get_or (grid_of f w h) i 0
      go i p = rw p.place (same p.x p.y p.in_x p.in_y ∙ sym (grid_at w h p.x p.y p.in_x p.in_y))
