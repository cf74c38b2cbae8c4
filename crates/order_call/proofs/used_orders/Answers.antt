use mathlib.Core.Path.{◌∙◌}
use Rattle.order_call.proofs.used_orders.Goals as goal

pub returns : goal.returns
returns c = c.read_u32.ensures ∙ rw c.start.ensures
