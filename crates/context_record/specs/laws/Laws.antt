-- Laws on the sizes of a record.
use Rattle.std.specs.Prelude.{◌≡◌, List, ℕ, min, ◌≤◌, get_or}
use Rattle.std.proofs.Common.{arith}
use Rattle.context_sizes.specs.laws.Sizes.{capped_bsize}
use Rattle.context_record.specs.Record.{bsize_of}

-- lengths up to 15 count as they are
pub capped : (lengths : List ℕ) → get_or lengths 0 0 ≤ 15 → get_or lengths 1 0 ≤ 15 → get_or lengths 2 0 ≤ 15 → get_or lengths 3 0 ≤ 15
    → capped_bsize lengths ≡ bsize_of lengths
unfolding capped_bsize bsize_of
capped l h0 h1 h2 h3 =
    let e0 : min (get_or l 0 0) 15 ≡ get_or l 0 0 = omega arith in
    let e1 : min (get_or l 1 0) 15 ≡ get_or l 1 0 = omega arith in
    let e2 : min (get_or l 2 0) 15 ≡ get_or l 2 0 = omega arith in
    let e3 : min (get_or l 3 0) 15 ≡ get_or l 3 0 = omega arith in
    rw (e0, e1, e2, e3)
