use Rattle.coeff_walk.specs.laws.Outcome.{spot_cells}
use Rattle.coeff_walk.proofs.laws.Outcome.{gain_out}
use Rattle.coeff_walk.proofs.laws.Runs.{gain_sum}
use Rattle.std.proofs.Common.{get_or, sym, arith}
use Rattle.coeff_places.proofs.walk.gain_at.Goals as goal

pub returns-else-p-grid : goal.returns-else-p-grid
returns-else-p-grid c = let a = c.args in sym (gain_out a.shift a.grid.now (get_or (spot_cells a.spot a.list.now) a.k 0) a.u (omega (arith, c.cell_of-p.ensures)))

pub returns-then-p-grid : goal.returns-then-p-grid
returns-then-p-grid c =
    let a = c.args in
    rw c.cell_of-p.ensures
    (gain_sum a.shift a.grid.now (get_or (spot_cells a.spot a.list.now) a.k 0) a.u _
    (rw (sym c.cell_of-p.ensures, sym c.unpack_signed.ensures) c.sum.ensures.0)
    (rw (sym c.cell_of-p.ensures, sym c.unpack_signed.ensures) c.sum.ensures.1))
