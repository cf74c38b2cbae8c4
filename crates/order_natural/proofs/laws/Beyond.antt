-- Behind the corner stand the other cells, each once; no cell of the corner.
use Rattle.std.specs.Prelude.{◌≡◌, ℕ, ◌+◌, ◌*◌, ◌/◌, ◌<◌, ◌≤◌, ◌&&◌, ◌⊎◌, List, take, drop, nat_lt}
use Rattle.std.proofs.Common.{ap, inl, inr, div-le_self, arith, take-append-drop}
use Rattle.order_natural.specs.Places.{Place, tally, count}
use Rattle.order_natural.proofs.laws.Counts.{count_append}
use Rattle.order_natural.proofs.laws.Rows.{rows_lists, inside_yes, inside_no_x, inside_no_y}
use Rattle.order_natural.specs.Order.{Order}

module _ (width height : ℕ) (l : List Place) (o : Order width height l) where
  -- the corner's cells and the others together are the whole
  pub beyond_count : (x y : ℕ) → tally (nat_lt x (width / 8) && nat_lt y (height / 8)) + count x y (drop (width * height / 64) l) ≡ tally (nat_lt x width && nat_lt y height)
  beyond_count x y =
      let skip = width * height / 64 in
      omega (
        arith,
        o.cells x y,
        rows_lists (width / 8) (height / 8) x y,
        ap (λ (k : List Place). count x y k) o.corner,
        count_append x y (take skip l) (drop skip l),
        ap (λ (k : List Place). count x y k) (take-append-drop skip l),
      )

  pub corner_none : (x y : ℕ) → x < width / 8 → y < height / 8 → count x y (drop (width * height / 64) l) ≡ 0
  corner_none x y a b =
      omega (arith, beyond_count x y, inside_yes x y (width / 8) (height / 8) a b, inside_yes x y width height (omega (arith, div-le_self width 8)) (omega (arith, div-le_self height 8)))

  pub other_once : (x y : ℕ) → x < width → y < height → (width / 8 ≤ x) ⊎ (height / 8 ≤ y) → count x y (drop (width * height / 64) l) ≡ 1
  other_once x y a b (inl c) = omega (arith, beyond_count x y, inside_yes x y width height a b, inside_no_x x y (width / 8) (height / 8) c)
  other_once x y a b (inr c) = omega (arith, beyond_count x y, inside_yes x y width height a b, inside_no_y x y (width / 8) (height / 8) c)
