use Rattle.order_natural.proofs.laws.Filling.{filled_is}
use Rattle.order_small.specs.laws.Small.{small_filled_is}
use mathlib.Core.Path.{◌∙◌}
use Rattle.order_naturals.proofs.fill_order.Goals as goal

-- from the table
pub returns-then-order-lt7 : goal.returns-then-order-lt7
returns-then-order-lt7 c =
    let a = c.args in
    let p = c.requires in
    c.fill_small_order.ensures.1 ∙ small_filled_is a.lists.now a.order c.if-order-lt7.true p.1

-- walked
pub returns : goal.returns
returns c =
    let a = c.args in
    let p = c.requires in
    c.fill_natural_order.ensures.1 ∙ filled_is a.lists.now a.order p.0 p.1
