use Rattle.std.proofs.Common.{◌-◌, arith}
use Rattle.order_natural.specs.Places.{flat}
use Rattle.laws.specs.laws.Laid.{laid_on}
use Rattle.order_natural.specs.laws.Slants.{ups, downs, near, Near}
use Rattle.order_natural.proofs.laws.Slants.{near_at, ups_long, downs_long}
use Rattle.order_natural.proofs.put_near.Goals.{After-multiples_below-highest}
use Rattle.order_natural.proofs.put_near.Goals as goal

-- the diagonal, in the code's numbers
rows : (c : After-multiples_below-highest) → let a = c.args in Near a.walk.corner a.walk.step a.dist c.multiples_below-rest.result c.multiples_below-lowest.result c.multiples_below-highest.result
rows c =
    let a = c.args in
    near_at a.walk.corner a.walk.step a.dist c.multiples_below-rest.result c.multiples_below-lowest.result c.multiples_below-highest.result a.walk.in_range.0 c.requires.0 c.requires.1 c.multiples_below-rest.ensures c.multiples_below-lowest.ensures c.multiples_below-highest.ensures

pub put_down-at-requires : goal.put_down-at-requires
put_down-at-requires c = let k = rows (goal.at.put_down-at-requires c).After-multiples_below-highest in (omega (arith, c.requires.3, k.long), omega arith, omega (arith, k.most), k.rows)

pub put_down-requires : goal.put_down-requires
put_down-requires c =
    let k = rows (goal.at.put_down-requires c).After-multiples_below-highest in
    let p = c.requires.3 in
    let a = c.args in
    let hi = c.multiples_below-highest.result in
    let e = downs_long (a.dist - 1) a.walk.step (hi - c.multiples_below-lowest.result) hi in
    (omega (arith, p, k.long, c.put_down-at.ensures.end, c.put_down-at.ensures.long, e), omega arith, omega (arith, k.less), k.rows_left)

pub returns-then-dist-eq1 : goal.returns-then-dist-eq1
returns-then-dist-eq1 c =
    let a = c.args in
    let k = rows (goal.at.returns-then-dist-eq1 c).After-multiples_below-highest in
    let rest = c.multiples_below-rest.result in
    let hi = c.multiples_below-highest.result in
    let n = hi - c.multiples_below-lowest.result in
    laid_on a.list.now c.put_down-at.new.list c.put_down.new.list a.start c.put_down-at.result c.put_down.result (flat (downs (a.dist - 1) a.walk.step n hi)) (flat (downs (a.dist - 1) a.walk.step rest rest)) (flat (near a.walk.corner a.walk.step a.dist))
    (k.down c.if-dist-eq1.true) c.put_down-at.ensures c.put_down.ensures

pub put_up-at-requires : goal.put_up-at-requires
put_up-at-requires c = let k = rows (goal.at.put_up-at-requires c).After-multiples_below-highest in (omega (arith, c.requires.3, k.long), omega (arith, k.less), λ q h. k.rows_left q (omega arith))

pub put_up-requires : goal.put_up-requires
put_up-requires c =
    let k = rows (goal.at.put_up-requires c).After-multiples_below-highest in
    let p = c.requires.3 in
    let a = c.args in
    let e = ups_long (a.dist - 1) a.walk.step c.multiples_below-rest.result 0 in
    (omega (arith, p, k.long, k.few, c.put_up-at.ensures.end, c.put_up-at.ensures.long, e), omega (arith, k.few, k.most), λ q h. k.rows q (omega (arith, k.few)))

pub returns : goal.returns
returns c =
    let a = c.args in
    let k = rows (goal.at.returns c).After-multiples_below-highest in
    let rest = c.multiples_below-rest.result in
    let lo = c.multiples_below-lowest.result in
    let n = c.multiples_below-highest.result - lo in
    laid_on a.list.now c.put_up-at.new.list c.put_up.new.list a.start c.put_up-at.result c.put_up.result (flat (ups (a.dist - 1) a.walk.step rest 0)) (flat (ups (a.dist - 1) a.walk.step n lo)) (flat (near a.walk.corner a.walk.step a.dist))
    (k.up c.if-dist-eq1.false) c.put_up-at.ensures c.put_up.ensures

pub overflow_sub-n : goal.overflow_sub-n
overflow_sub-n c = omega (arith, (rows (goal.at.overflow_sub-n c).After-multiples_below-highest).few)

pub overflow_cast-highest : goal.overflow_cast-highest
overflow_cast-highest c = omega (arith, (rows (goal.at.overflow_cast-highest c).After-multiples_below-highest).most)

pub overflow_cast-rest : goal.overflow_cast-rest
overflow_cast-rest c = omega (arith, (rows (goal.at.overflow_cast-rest c).After-multiples_below-highest).less)

pub overflow_cast-lowest : goal.overflow_cast-lowest
overflow_cast-lowest c = let k = rows (goal.at.overflow_cast-lowest c).After-multiples_below-highest in omega (arith, k.few, k.most)
