use Rattle.std.proofs.Common.{arith}
use Rattle.order_natural.specs.laws.Slants.{Slant}
use Rattle.order_natural.proofs.laws.Slants.{slant}
use Rattle.order_natural.proofs.put_far.Goals.{After-multiples_below-highest}
use Rattle.order_natural.proofs.put_far.Goals as goal

-- the diagonal, in the code's numbers
rows : (c : After-multiples_below-highest) → let a = c.args in Slant a.walk.corner a.walk.step a.walk.side a.dist c.multiples_below-lowest.result c.multiples_below-highest.result
rows c =
    let a = c.args in
    slant a.walk.corner a.walk.step a.walk.side a.dist c.saturating_sub-m.result c.multiples_below-lowest.result c.multiples_below-highest.result a.walk.in_range.0 c.requires.1 c.requires.3 c.requires.0 c.saturating_sub-m.ensures c.multiples_below-lowest.ensures c.multiples_below-highest.ensures

pub put_up-requires : goal.put_up-requires
put_up-requires c = let k = rows (goal.at.put_up-requires c).After-multiples_below-highest in (omega (arith, c.requires.4, k.long), omega (arith, k.few, k.most), λ q h. k.rows q (omega (arith, k.few)))

pub returns-then-dist-eq0 : goal.returns-then-dist-eq0
returns-then-dist-eq0 c =
    let k = rows (goal.at.returns-then-dist-eq0 c).After-multiples_below-highest in
    rw (k.up (λ h. omega (arith, h, c.if-dist-eq0.true))) c.put_up.ensures

pub put_down-requires : goal.put_down-requires
put_down-requires c = let k = rows (goal.at.put_down-requires c).After-multiples_below-highest in (omega (arith, c.requires.4, k.long), omega arith, omega (arith, k.most), k.rows)

pub returns : goal.returns
returns c =
    let k = rows (goal.at.returns c).After-multiples_below-highest in
    rw (k.down (omega (arith, c.if-dist-eq0.false))) c.put_down.ensures

pub overflow_sub-n : goal.overflow_sub-n
overflow_sub-n c = omega (arith, (rows (goal.at.overflow_sub-n c).After-multiples_below-highest).few)

pub overflow_cast-lowest : goal.overflow_cast-lowest
overflow_cast-lowest c = let k = rows (goal.at.overflow_cast-lowest c).After-multiples_below-highest in omega (arith, k.few, k.most)

pub overflow_cast-highest : goal.overflow_cast-highest
overflow_cast-highest c = omega (arith, (rows (goal.at.overflow_cast-highest c).After-multiples_below-highest).most)
