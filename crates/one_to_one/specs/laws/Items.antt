-- The channels of a layout's varblocks: their cells lie in the grids, are distinct, and are all cells but the low-frequency ones.
use mathlib.Core.List.Memᴰ
use Prim.Native.Nat.{ℕ, ◌-◌, ◌<◌}
use Rattle.order_sizes.specs.BlockSizes.{width_of, height_of}
use Rattle.order_natural.specs.Places.{paired}
use Rattle.order_natural.specs.Order.{Order}
use Rattle.order_store.specs.Store.{stretch}
use Rattle.coeff_group.specs.PassGroup.{PassGroup}

-- each of the 39 stretches is an order of its size
abbrev pub Ordered : PassGroup → Type 0
Ordered P = (k c : ℕ) → k < 13 → c < 3 → Order (width_of k) (height_of k) (paired (stretch P.store k c))
