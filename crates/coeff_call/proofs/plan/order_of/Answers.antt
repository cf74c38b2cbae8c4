use Rattle.coeff_group.proofs.laws.Plans.{order_by_lem}
use mathlib.Core.Path.{◌∙◌, ap, sym}
use Rattle.refusal.specs.Answer.{answered}
use Prim.Native.Nat.{◌-◌}
use Rattle.coeff_call.proofs.plan.order_of.Goals as goal

pub returns-in-Ok : goal.returns-in-Ok
returns-in-Ok c = c.order_id.ensures ∙ order_by_lem (c.args.kind - 2) _ (sym (rw c.from.ensures at c.try_from.ensures) ∙ ap answered c.in-Ok.is)

pub returns-in-Err : goal.returns-in-Err
returns-in-Err c = order_by_lem (c.args.kind - 2) _ (sym (rw c.from.ensures at c.try_from.ensures) ∙ ap answered c.in-Err.is)
