use Rattle.c_orders.specs.laws.Orders.{orders_leave}
use Rattle.c_orders.proofs.netbuff_orders.Goals as goal

pub returns-in-Ok : goal.returns-in-Ok
returns-in-Ok c = orders_leave _ c.parse.result _ _ _ c.parse.ensures (rw c.in-Ok.is)

pub returns-in-Err : goal.returns-in-Err
returns-in-Err c = orders_leave _ c.parse.result _ _ _ c.parse.ensures (rw (c.in-Err.is, c.numbers-said.ensures))
