-- What filling three lent lists with a natural order answers and leaves (document 01, Orders), and the ways out of it.
use Rattle.std.specs.Prelude.{ℕ, ◌*◌, ◌≤◌, Bool, cond, ◌&&◌, List, ◌++◌, length, ◌==◌, nat_lt}
use Rattle.order_sizes.specs.declared.OrderSize.{OrderSize}
use Rattle.order_sizes.specs.BlockSizes.{width_of, height_of}
use Rattle.order_natural.specs.Places.{flat}
use Rattle.order_natural.specs.Natural.{natural}
use Rattle.order_natural.specs.Order.{Size}

-- the three lists of an order
unfoldable pub three_of : ℕ → List ℕ
three_of k = let l = flat (natural (width_of k) (height_of k)) in l ++ (l ++ l)

-- one of the 13 orders, and three lists of just as many places
unfoldable pub room_for : List ℕ → ℕ → Bool
room_for lists order = nat_lt order 13 && length lists == 3 * (2 * (width_of order * height_of order))

unfoldable pub filled : List ℕ → ℕ → List ℕ
filled lists order = cond (room_for lists order) (three_of order) lists

-- what the code knows of the size of an order
pub record SizeKnown (s : OrderSize) : Type 0 where
  pub size : Size s.width s.height
  pub narrow : s.width ≤ 256
  pub most : s.width * s.height ≤ 65536
  pub least : 64 ≤ s.width * s.height
