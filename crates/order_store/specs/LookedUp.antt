-- Looking a list up (document 01, Orders).
use Rattle.std.specs.Prelude.{cond, ◌&&◌, ℕ, ◌+◌, ◌*◌, eqb, ltb}
use Rattle.order_sizes.specs.BlockSizes.{width_of, height_of}
use Rattle.order_store.specs.declared.Stretch.{Stretch}
use Rattle.order_store.specs.Store.{PLACES, first_of}

abbrev pub stretch_from : ℕ → ℕ → Stretch
stretch_from a n = record { first = a; len = n }

-- where the list of an order and a channel lies in a store of so many numbers
unfoldable pub stretch_at : ℕ → ℕ → ℕ → Stretch
stretch_at numbers order channel =
    cond (ltb order 13 && (ltb channel 3 && eqb numbers (2 * PLACES))) (stretch_from (first_of (3 * order + channel)) (2 * (width_of order * height_of order))) (stretch_from 0 0)
