-- The natural order of any size: a listing of its cells, the corner first.
use Rattle.std.specs.Prelude.{◌≡◌, ℕ, ◌+◌, ◌*◌, ◌/◌, ◌%◌, ◌<◌, ◌≤◌, Bool, true, false, ◌&&◌, take, nat_lt, refl}
use Rattle.std.proofs.Common.{◌∙◌, mul_comm, arith, take_at, lt-ltb, le-ltb, eq-eqb}
use Rattle.std.proofs.Math.Nat.{mul-mod_left}
use Rattle.std.proofs.Math.Decide.{dec_lt}
use Rattle.order_natural.specs.Places.{tally, count, Lists}
use Rattle.order_natural.specs.Natural.{rows, square, listed, keep, natural}
use Rattle.order_natural.proofs.laws.Counts.{count_append}
use Rattle.order_natural.proofs.laws.Rows.{by_inside, inside_yes, inside_no_x, inside_no_y, rows_lists, rows_length}
use Rattle.order_natural.proofs.laws.Square.{square_lists}
use Rattle.order_natural.specs.laws.Keep.{counted}
use Rattle.order_natural.proofs.laws.Keep.{keep_count}
use Rattle.order_natural.proofs.laws.Bools.{and_false}
use Rattle.order_natural.specs.Order.{Size}
use Rattle.order_natural.proofs.laws.Sizes.{s_some, row_in, row_out, corner_in, corner_out, width_eights, height_by}

counted_none : (b : Bool) (n : ℕ) → n ≡ 0 → counted b n ≡ 0
counted_none true n e = e
counted_none false n e = refl

-- the test of a cell, decided
module _ (w s x t : ℕ) where
  in_corner : x < w → t < w → listed w s (x, t) ≡ false
  in_corner a b = rw (lt-ltb x w a, lt-ltb t w b)

  right_of_it : w ≤ x → t % s ≡ 0 → listed w s (x, t) ≡ true
  right_of_it a e = rw (le-ltb x w a, eq-eqb (t % s) 0 e)

  below_it : w ≤ t → t % s ≡ 0 → listed w s (x, t) ≡ true
  below_it a e = rw (le-ltb t w a, and_false, eq-eqb (t % s) 0 e)

module _ (width height : ℕ) (z : Size width height) where
  -- the corner's count and the rest's
  sum : (x y : ℕ) → count x y (natural width height) ≡ tally (nat_lt x (width / 8) && nat_lt y (height / 8)) + counted (listed (width / 8) (width / height) (x, y * (width / height))) (tally (nat_lt x width && nat_lt (y * (width / height)) width))
  unfolding natural
  sum x y =
      let s = width / height in
      count_append x y (rows (width / 8) (height / 8)) (keep (width / 8) s (square width))
      ∙ rw (rows_lists (width / 8) (height / 8) x y, keep_count (width / 8) s x y (s_some width height z) (square width), square_lists width x (y * s))

  once : (x y : ℕ) → x < width → y < height → count x y (natural width height) ≡ 1
  once x y p q = sum x y ∙ rw (inside_yes x (y * (width / height)) width width p (row_in width height z y q)) (go (dec_lt x (width / 8)) (dec_lt y (height / 8)))
    where
      go : Dec (x < width / 8) → Dec (y < height / 8) → tally (nat_lt x (width / 8) && nat_lt y (height / 8)) + counted (listed (width / 8) (width / height) (x, y * (width / height))) 1 ≡ 1
      go (yes a) (yes b) =
          rw (in_corner (width / 8) (width / height) x (y * (width / height)) a (corner_in width height z y b), inside_yes x y (width / 8) (height / 8) a b)
      go (no a) b =
          rw (
            right_of_it (width / 8) (width / height) x (y * (width / height)) (omega arith) (mul-mod_left y (width / height)),
            inside_no_x x y (width / 8) (height / 8) (omega arith),
          )
      go (yes a) (no b) =
          rw (
            below_it (width / 8) (width / height) x (y * (width / height)) (corner_out width height z y (omega arith)) (mul-mod_left y (width / height)),
            inside_no_y x y (width / 8) (height / 8) (omega arith),
          )

  none_x : (x y : ℕ) → width ≤ x → count x y (natural width height) ≡ 0
  none_x x y p =
      let e = width_eights width height z in
      sum x y
      ∙ rw (
        inside_no_x x y (width / 8) (height / 8) (omega arith),
        inside_no_x x (y * (width / height)) width width p,
        counted_none (listed (width / 8) (width / height) (x, y * (width / height))) 0 refl,
      )

  none_y : (x y : ℕ) → height ≤ y → count x y (natural width height) ≡ 0
  none_y x y p =
      let e = height_by width height z in
      sum x y
      ∙ rw (
        inside_no_y x y (width / 8) (height / 8) (omega arith),
        inside_no_y x (y * (width / height)) width width (row_out width height z y p),
        counted_none (listed (width / 8) (width / height) (x, y * (width / height))) 0 refl,
      )

  -- each cell of width × height once, and nothing else
  pub natural_lists : Lists width height (natural width height)
  natural_lists x y = by_inside (count x y (natural width height)) x y width height (once x y) (none_x x y) (none_y x y)

-- the first (width / 8) × (height / 8) places are the corner row by row
pub natural_corner : (width height : ℕ) → take (width / 8 * (height / 8)) (natural width height) ≡ rows (width / 8) (height / 8)
unfolding natural
natural_corner width height =
    take_at (rows (width / 8) (height / 8)) (keep (width / 8) (width / height) (square width)) (width / 8 * (height / 8)) (rows_length (width / 8) (height / 8) ∙ mul_comm (height / 8) (width / 8))
