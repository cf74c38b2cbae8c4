-- What a job still needs fits behind what there is of it.
use Rattle.std.proofs.Common.{arith, length-take, take}
use Rattle.lister_job.proofs.laws.Needed.{needed_fits}
use Rattle.layout_lister.proofs.read_job.Goals as goal

pub overflow_add-end : goal.overflow_add-end
overflow_add-end c =
    let l = c.loop-n in
    let t = length-take l.n l.job in
    let f = needed_fits (take l.n l.job) (omega arith) in
    omega (arith, c.needed-needed.ensures)

pub slice_bounds-read_full-end : goal.slice_bounds-read_full-end
slice_bounds-read_full-end c =
    let l = c.loop-n in
    let t = length-take l.n l.job in
    let f = needed_fits (take l.n l.job) (omega arith) in
    omega (arith, c.needed-needed.ensures)
