use Rattle.std.specs.Prelude.{◌≡◌, ◌*◌, length}
use Rattle.laws.specs.laws.Laid.{Halfway}
use Rattle.order_sizes.specs.BlockSizes.{BLOCK_SIZES}
use Rattle.order_store.specs.Store.{first_of, stored}
use Rattle.order_naturals.specs.Naturals.{naturals}
use Rattle.order_naturals.specs.laws.Naturals.{from_order}
use Rattle.order_naturals.proofs.fill_natural_orders.Given as goal

abbrev pub invariant-loop-k : goal.invariant-loop-k
invariant-loop-k l =
    (length l.store ≡ 787968)
    × (length l.initial.store ≡ 787968)
    × (l.first ≡ first_of (3 * l.k))
    × Halfway l.initial.store l.store 0 (stored (naturals BLOCK_SIZES)) l.first (from_order l.k)
