use Rattle.order_natural.specs.Places.{flat}
use Rattle.order_natural.specs.Natural.{diagonal, keep}
use Rattle.laws.specs.laws.Laid.{laid_none}
use Rattle.order_natural.proofs.laws.Slants.{short_none, near_kept}
use Rattle.std.proofs.Common.{length, ap, arith}
use Rattle.order_natural.proofs.put_diagonal.Goals as goal

pub returns-then-dist-w : goal.returns-then-dist-w
returns-then-dist-w c =
    let a = c.args in
    let p = c.requires in
    let z = short_none a.walk.corner a.walk.step a.walk.side a.dist a.walk.in_range.0 a.walk.in_range.3 a.walk.in_range.2 (omega arith) in
    laid_none a.list.now a.start (flat (keep a.walk.corner a.walk.step (diagonal a.walk.side a.dist))) z

pub put_near-requires : goal.put_near-requires
put_near-requires c =
    let a = c.args in
    let p = c.requires in
    let e = near_kept a.walk.corner a.walk.step a.walk.side a.dist a.walk.in_range.0 a.walk.in_range.3 (omega arith) (omega arith) in
    (p.0, omega arith, p.1, omega (arith, p.3, ap length e))

pub returns-then-dist-w-2 : goal.returns-then-dist-w-2
returns-then-dist-w-2 c =
    let a = c.args in
    let p = c.requires in
    let e = near_kept a.walk.corner a.walk.step a.walk.side a.dist a.walk.in_range.0 a.walk.in_range.3 (omega arith) (omega arith) in
    rw e c.put_near.ensures
