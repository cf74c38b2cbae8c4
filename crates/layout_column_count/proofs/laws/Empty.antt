-- The column count of an empty grid: no bits are read, and it is 1 (document 02, No. 2).
use Rattle.std.proofs.Common.{arith}
use Rattle.bits.specs.laws.Laws.{read_none}
use Rattle.coded_numbers.specs.Exponent.{exponent_from}
use Rattle.layout.proofs.laws.Empty.{no_blocks}
use Rattle.layout_sizes.specs.Blocks.{bw_in, bh_in}
use Rattle.layout_sizes.proofs.laws.Bounds.{without_pixels}
use Rattle.layout_column_count.specs.Count.{count_of}
use Rattle.layout_column_count.specs.laws.Empty.{EmptyCount}

pub empty_count : EmptyCount
unfolding count_of exponent_from
empty_count width height modes bytes e a b =
    rw (a, b, no_blocks (bw_in width modes) (bh_in height modes) ((without_pixels width height modes).1 e), read_none bytes 0 (omega arith))
