-- The rows of blocks that a row of pass groups lies in are a layout, and its groups are the whole layout's.
use Rattle.std.specs.Prelude.{◌≡◌, true, List, ℕ, ◌+◌, ◌*◌, ◌-◌, ◌≤◌, ◌<◌, length, drop}
use Rattle.std.proofs.Math.Path.{ap}
use Rattle.std.proofs.Common.{sym, ◌∙◌, add-mul, mul-le-mul_right, arith, lt-ltb, length-drop, length-take-le, get_or-take, get_or-drop}
use Rattle.layout.specs.Kinds.{high_of}
use Rattle.layout.specs.Grid.{block_at}
use Rattle.layout.proofs.laws.Grid.{grid_length_lem, grid_at, grid_is, place_lt}
use Rattle.layout.specs.Valid.{Cells, Covers, Owned, Valid, Layout}
use Rattle.layout.proofs.laws.Same.{valid_same}
use Rattle.layout.specs.Cut.{groups, group_x, group_y, has_group, side, cut_cells, bw_of_group, bh_of_group, cut, rows_of}
use Rattle.layout.proofs.laws.CutLaws.{within, counted_x, counted_y}

module _ (bw bh q : ℕ) where
  abbrev below : Cells → Cells
  below K x y = K x (32 * q + y)

  pub at_rows : (l : List ℕ) (x y : ℕ) → x < bw → y < side bh q → block_at (rows_of bw bh q l) bw x y ≡ below (block_at l bw) x y
  at_rows l x y i j =
      let a : y * bw + x < side bh q * bw = place_lt bw (side bh q) x y i j in
      let e : 32 * q * bw + (y * bw + x) ≡ (32 * q + y) * bw + x = omega (arith, add-mul (32 * q) y bw) in
      rw (get_or-take, get_or-drop, e)

  module _ (starts : 32 * q < bh) where
    rows_length : (l : List ℕ) → length l ≡ bh * bw → length (rows_of bw bh q l) ≡ side bh q * bw
    rows_length l e =
        let a : 32 * q + side bh q ≤ bh = omega arith in
        let b : (32 * q + side bh q) * bw ≤ bh * bw = mul-le-mul_right bw a in
        length-take-le (side bh q * bw) (drop (32 * q * bw) l) (omega (arith, length-drop (32 * q * bw) l, add-mul (32 * q) (side bh q) bw))

    module _ (K M : Cells) (ok : Valid bw bh K M) where
      up : (c d x y : ℕ) → Covers (below K) c d x y → Covers K c (32 * q + d) x (32 * q + y)
      up c d x y v =
          let i = v.from_y in let j = v.to_y in
          record { corner = v.corner; from_x = v.from_x; to_x = v.to_x; from_y = omega arith; to_y = omega arith }

      down : (c d x y : ℕ) → Covers K c (32 * q + d) x (32 * q + y) → Covers (below K) c d x y
      down c d x y v =
          let i = v.from_y in let j = v.to_y in
          record { corner = v.corner; from_x = v.from_x; to_x = v.to_x; from_y = omega arith; to_y = omega arith }

      own : (x y : ℕ) → x < bw → y < side bh q → Owned K x (32 * q + y) → Owned (below K) x y
      own x y i j o =
          let v = o.covers in
          let vx = v.from_x in let vy = v.from_y in let wy = v.to_y in
          let f = ok.fits o.ox o.oy (omega arith) (omega arith) v.corner in
          let p : 32 * q ≤ o.oy = within q o.oy (high_of (K o.ox o.oy)) y f.square_y vy wy (omega arith) in
          let e : 32 * q + (o.oy - 32 * q) ≡ o.oy = omega arith in
          record {
            ox = o.ox;
            oy = o.oy - 32 * q;
            covers = down o.ox (o.oy - 32 * q) x y (rw e v);
            only = λ a b w. let r = o.only a (32 * q + b) (up a b x y w) in (r.0, omega arith);
          }

      rows_valid : Valid bw (side bh q) (below K) (below M)
      rows_valid = record {
        fits = λ x y i j c.
            let f = ok.fits x (32 * q + y) i (omega arith) c in
            let b = f.in_y in let d = f.square_y in
            record { known = f.known; in_x = f.in_x; in_y = omega arith; square_x = f.square_x; square_y = omega arith; positive = f.positive; signed = f.signed };
        plain = λ x y i j c. ok.plain x (32 * q + y) i (omega arith) c;
        owned = λ x y i j. own x y i j (ok.owned x (32 * q + y) i (omega arith));
      }

    pub rows_layout : (kinds hf_mul : List ℕ) → Layout bw bh kinds hf_mul → Layout bw (side bh q) (rows_of bw bh q kinds) (rows_of bw bh q hf_mul)
    rows_layout kinds hf_mul ok = record {
      kinds_length = rows_length kinds ok.kinds_length;
      hf_mul_length = rows_length hf_mul ok.hf_mul_length;
      valid = valid_same bw (side bh q) (below (block_at kinds bw)) (below (block_at hf_mul bw)) (block_at (rows_of bw bh q kinds) bw) (block_at (rows_of bw bh q hf_mul) bw)
          (λ x y i j. sym (at_rows kinds x y i j)) (λ x y i j. sym (at_rows hf_mul x y i j))
          (rows_valid (block_at kinds bw) (block_at hf_mul bw) ok.valid);
    }

  -- group p of the rows is the p-th group of the row of groups
  module _ (p : ℕ) (h : p < groups bw) where
    first_x : group_x bw p ≡ p
    first_x = let e : 0 * groups bw + p ≡ p = omega arith in sym (ap (λ (n : ℕ). group_x bw n) e) ∙ counted_x bw 0 p h

    first_y : group_y bw p ≡ 0
    first_y = let e : 0 * groups bw + p ≡ p = omega arith in sym (ap (λ (n : ℕ). group_y bw n) e) ∙ counted_y bw 0 p h

    there_x : group_x bw (q * groups bw + p) ≡ p
    there_x = counted_x bw q p h

    there_y : group_y bw (q * groups bw + p) ≡ q
    there_y = counted_y bw q p h

    same_high : side (side bh q) 0 ≡ side bh q
    same_high = omega arith

    -- it has the same sides, and is one of the groups of the rows
    pub rows_sides : (bw_of_group bw p ≡ bw_of_group bw (q * groups bw + p)) × (bh_of_group bw (side bh q) p ≡ bh_of_group bw bh (q * groups bw + p))
    rows_sides = (rw (first_x, there_x), rw (first_y, there_y, same_high))

    pub rows_has : 32 * q < bh → has_group bw (side bh q) p ≡ true
    rows_has starts =
        let one : groups (side bh q) ≡ 1 = omega arith in
        rw one (lt-ltb p (1 * groups bw) (omega arith))

    pub cut_rows : (l : List ℕ) → cut bw (side bh q) p (rows_of bw bh q l) ≡ cut bw bh (q * groups bw + p) l
    unfolding cut
    cut_rows l =
        rw (first_x, first_y, there_x, there_y, same_high)
        (grid_is (cut_cells (block_at l bw) p q) (side bw p) (side bh q) _ (grid_length_lem (cut_cells (block_at (rows_of bw bh q l) bw) p 0) (side bw p) (side bh q))
        (λ x y i j. grid_at (cut_cells (block_at (rows_of bw bh q l) bw) p 0) (side bw p) (side bh q) x y i j
        ∙ ap (λ (n : ℕ). block_at (rows_of bw bh q l) bw (32 * p + x) n) (omega arith) ∙ at_rows l (32 * p + x) y (omega arith) j))
