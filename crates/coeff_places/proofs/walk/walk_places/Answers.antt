use Rattle.std.proofs.Common.{◌^◌, arith}
use Rattle.coeff_walk.specs.laws.Outcome.{spot_cells}
use Rattle.coeff_walk.proofs.laws.Used.{walk_uses}
use Rattle.coeff_places.proofs.walk.walk_places.Goals as goal

pub returns-then-list-count : goal.returns-then-list-count
returns-then-list-count c =
    let a = c.args in
    (c.walk_dense.ensures, walk_uses a.shift (2 ^ a.spot.exponent) a.coeff_map.now (spot_cells a.spot a.list.now) 0 a.first_prev a.count a.symbols.now a.at a.log.now a.grid.now c.walk_dense.result c.walk_dense.ensures.answer)

pub walk_sparse-requires : goal.walk_sparse-requires
walk_sparse-requires c = let h = c.requires in (h, omega (arith, c.if-list-count.false, h.fits))

pub returns : goal.returns
returns c =
    let a = c.args in
    (c.walk_sparse.ensures, walk_uses a.shift (2 ^ a.spot.exponent) a.coeff_map.now (spot_cells a.spot a.list.now) 0 a.first_prev a.count a.symbols.now a.at a.log.now a.grid.now c.walk_sparse.result c.walk_sparse.ensures.answer)
