-- Each group of a valid layout is valid; its corners are the layout's.
use Rattle.std.specs.Prelude.{◌≡◌, refl, Bool, true, false, cond, ◌⊎◌, List, ltb, length}
use Rattle.std.proofs.Common.{ap, sym, ◌∙◌, inl, inr, mul-zero, div-lt_iff_lt-mul, suc-mul, arith, ltb-true, ltb-false}
use Prim.Native.Nat.{ℕ, zero, suc, ◌+◌, ◌*◌, ◌-◌, ◌/◌, ◌%◌, ◌≤◌, ◌<◌}
use Rattle.std.proofs.Math.Arith.{digits_lt, digits_div, digits_mod}
use Rattle.laws.specs.laws.Cases.{le_or_lt}
use Rattle.layout.specs.Kinds.{wide_of, high_of}
use Rattle.layout.specs.Grid.{block_at}
use Rattle.layout.proofs.laws.Grid.{grid_length_lem, grid_at}
use Rattle.layout.specs.Valid.{Cells, Covers, Fits, Owned, Valid, Layout}
use Rattle.layout.proofs.laws.Same.{valid_same}
use Rattle.layout.specs.Cut.{groups, behind, group_xy, group_x, group_y, has_group, side, cut_cells, bw_of_group, bh_of_group, cut}

-- a corner that reaches into a square of 32 lies in it
pub within : (q i w x : ℕ) → i % 32 + w ≤ 32 → i ≤ 32 * q + x → 32 * q + x < i + w → x < 32 → 32 * q ≤ i
within q i w x a b c d = omega arith

module _ (bw bh : ℕ) (K M : Cells) (gx gy : ℕ) where
  -- rectangles of the group and of the layout
  pub cut_covers : (c d x y : ℕ) → Covers K (32 * gx + c) (32 * gy + d) (32 * gx + x) (32 * gy + y) → Covers (cut_cells K gx gy) c d x y
  cut_covers c d x y v =
      let i = v.from_x in let j = v.to_x in let k = v.from_y in let l = v.to_y in
      record { corner = v.corner; from_x = omega arith; to_x = omega arith; from_y = omega arith; to_y = omega arith }

  pub covers_cut : (c d x y : ℕ) → Covers (cut_cells K gx gy) c d x y → Covers K (32 * gx + c) (32 * gy + d) (32 * gx + x) (32 * gy + y)
  covers_cut c d x y v =
      let i = v.from_x in let j = v.to_x in let k = v.from_y in let l = v.to_y in
      record { corner = v.corner; from_x = omega arith; to_x = omega arith; from_y = omega arith; to_y = omega arith }

  pub cut_valid : Valid bw bh K M → Valid (side bw gx) (side bh gy) (cut_cells K gx gy) (cut_cells M gx gy)
  cut_valid ok = record {
    fits = λ x y i j c. go x y i j (ok.fits (32 * gx + x) (32 * gy + y) (omega arith) (omega arith) c);
    plain = λ x y i j c. ok.plain (32 * gx + x) (32 * gy + y) (omega arith) (omega arith) c;
    owned = λ x y i j. own x y i j (ok.owned (32 * gx + x) (32 * gy + y) (omega arith) (omega arith));
  }
    where
      go : (x y : ℕ) → x < side bw gx → y < side bh gy → Fits bw bh (32 * gx + x) (32 * gy + y) (cut_cells K gx gy x y) (cut_cells M gx gy x y)
          → Fits (side bw gx) (side bh gy) x y (cut_cells K gx gy x y) (cut_cells M gx gy x y)
      go x y i j f =
          let a = f.in_x in let b = f.in_y in let c = f.square_x in let d = f.square_y in
          record { known = f.known; in_x = omega arith; in_y = omega arith; square_x = omega arith; square_y = omega arith; positive = f.positive; signed = f.signed }

      own : (x y : ℕ) → x < side bw gx → y < side bh gy → Owned K (32 * gx + x) (32 * gy + y) → Owned (cut_cells K gx gy) x y
      own x y i j o =
          let v = o.covers in
          let vx = v.from_x in let wx = v.to_x in let vy = v.from_y in let wy = v.to_y in
          let f = ok.fits o.ox o.oy (omega arith) (omega arith) v.corner in
          let p : 32 * gx ≤ o.ox = within gx o.ox (wide_of (K o.ox o.oy)) x f.square_x vx wx (omega arith) in
          let q : 32 * gy ≤ o.oy = within gy o.oy (high_of (K o.ox o.oy)) y f.square_y vy wy (omega arith) in
          let ex : 32 * gx + (o.ox - 32 * gx) ≡ o.ox = omega arith in
          let ey : 32 * gy + (o.oy - 32 * gy) ≡ o.oy = omega arith in
          record {
            ox = o.ox - 32 * gx;
            oy = o.oy - 32 * gy;
            covers = cut_covers (o.ox - 32 * gx) (o.oy - 32 * gy) x y (rw (ex, ey) v);
            only = λ a b w. let r = o.only (32 * gx + a) (32 * gy + b) (covers_cut a b x y w) in (omega arith, omega arith);
          }

-- The same over lists.
module _ (bw bh g : ℕ) where
  pub cut_length : (l : List ℕ) → length (cut bw bh g l) ≡ bh_of_group bw bh g * bw_of_group bw g
  unfolding cut
  cut_length l = grid_length_lem (cut_cells (block_at l bw) (group_x bw g) (group_y bw g)) (bw_of_group bw g) (bh_of_group bw bh g)

  -- each cell of the group is the layout's: corners stay corners
  pub cut_at : (l : List ℕ) (x y : ℕ) → x < bw_of_group bw g → y < bh_of_group bw bh g
      → block_at (cut bw bh g l) (bw_of_group bw g) x y ≡ block_at l bw (32 * group_x bw g + x) (32 * group_y bw g + y)
  unfolding cut
  cut_at l x y i j = grid_at (cut_cells (block_at l bw) (group_x bw g) (group_y bw g)) (bw_of_group bw g) (bh_of_group bw bh g) x y i j

  pub cut_layout : (kinds hf_mul : List ℕ) → Layout bw bh kinds hf_mul → Layout (bw_of_group bw g) (bh_of_group bw bh g) (cut bw bh g kinds) (cut bw bh g hf_mul)
  cut_layout kinds hf_mul ok = record {
    kinds_length = cut_length kinds;
    hf_mul_length = cut_length hf_mul;
    valid = valid_same (bw_of_group bw g) (bh_of_group bw bh g)
        (cut_cells (block_at kinds bw) (group_x bw g) (group_y bw g)) (cut_cells (block_at hf_mul bw) (group_x bw g) (group_y bw g))
        (block_at (cut bw bh g kinds) (bw_of_group bw g)) (block_at (cut bw bh g hf_mul) (bw_of_group bw g))
        (λ x y i j. sym (cut_at kinds x y i j)) (λ x y i j. sym (cut_at hf_mul x y i j))
        (cut_valid bw bh (block_at kinds bw) (block_at hf_mul bw) (group_x bw g) (group_y bw g) ok.valid);
  }

-- Counting row by row, where a row has a group at all: x and y are the digits of the index.
abbrev Digits : ℕ → ℕ × ℕ → ℕ → Type 0
Digits n at g = (at.0 < n) × (g ≡ at.1 * n + at.0)

behind_digits : (n x y g : ℕ) → Digits n (x, y) g → Digits n (behind n (x, y)) (suc g)
behind_digits n x y g d = go (ltb (x + 1) n) refl
  where
    go : (b : Bool) → ltb (x + 1) n ≡ b → Digits n (cond b (x + 1, y) (0, y + 1)) (suc g)
    go true e = (ltb-true (x + 1) n e, omega (arith, d.1))
    go false e = let h = ltb-false (x + 1) n e in (omega (arith, d.0), omega (arith, d.0, d.1, suc-mul y n))

module _ (bw : ℕ) (some : 0 < groups bw) where
  pub group_digits : (g : ℕ) → Digits (groups bw) (group_xy bw g) g
  unfolding group_xy
  group_digits zero = (some, omega arith)
  group_digits (suc g) = behind_digits (groups bw) (group_x bw g) (group_y bw g) g (group_digits g)

  pub group_x_is : (g : ℕ) → group_x bw g ≡ g % groups bw
  group_x_is g = let d = group_digits g in sym (ap (λ (n : ℕ). n % groups bw) d.1 ∙ digits_mod (group_y bw g) d.0)

  pub group_y_is : (g : ℕ) → group_y bw g ≡ g / groups bw
  group_y_is g = let d = group_digits g in sym (ap (λ (n : ℕ). n / groups bw) d.1 ∙ digits_div (group_y bw g) d.0)

-- the p-th group of the q-th row
module _ (bw q p : ℕ) (h : p < groups bw) where
  pub counted_x : group_x bw (q * groups bw + p) ≡ p
  counted_x = group_x_is bw (omega arith) (q * groups bw + p) ∙ digits_mod q h

  pub counted_y : group_y bw (q * groups bw + p) ≡ q
  counted_y = group_y_is bw (omega arith) (q * groups bw + p) ∙ digits_div q h

-- The first block of a group is in the layout.
module _ (bw bh g : ℕ) (has : has_group bw bh g ≡ true) where
  some : 0 < groups bw
  some = go (le_or_lt 1 (groups bw)) (ltb-true g (groups bh * groups bw) has)
    where
      go : (1 ≤ groups bw) ⊎ (groups bw < 1) → g < groups bh * groups bw → 0 < groups bw
      go (inl h) l = h
      go (inr h) l = let z : groups bh * groups bw ≡ groups bh * 0 = ap (λ (n : ℕ). groups bh * n) (let e : groups bw ≡ 0 = omega arith in e) in absurd (omega (arith, mul-zero (groups bh)))

  pub starts_x : 32 * group_x bw g < bw
  starts_x = let h = (group_digits bw some g).0 in omega arith

  pub starts_y : 32 * group_y bw g < bh
  starts_y = let h = (div-lt_iff_lt-mul {k = groups bw} some).1 (ltb-true g (groups bh * groups bw) has) in let e = group_y_is bw some g in omega arith

-- Each block lies in the group of its square, and in the grid of that group.
pub group_at : ℕ → ℕ → ℕ → ℕ
group_at bw x y = y / 32 * groups bw + x / 32

module _ (bw bh x y : ℕ) (i : x < bw) (j : y < bh) where
  pub group_x_lem : group_x bw (group_at bw x y) ≡ x / 32
  unfolding group_at
  group_x_lem = counted_x bw (y / 32) (x / 32) (omega arith)

  pub group_y_lem : group_y bw (group_at bw x y) ≡ y / 32
  unfolding group_at
  group_y_lem = counted_y bw (y / 32) (x / 32) (omega arith)

  pub group_lt : group_at bw x y < groups bh * groups bw
  unfolding group_at
  group_lt = digits_lt {q = y / 32} {m = groups bh} {r = x / 32} {c = groups bw} (omega arith) (omega arith)

  pub block_in : (x % 32 < bw_of_group bw (group_at bw x y)) × (y % 32 < bh_of_group bw bh (group_at bw x y))
  block_in = rw (group_x_lem, group_y_lem) (omega arith)
