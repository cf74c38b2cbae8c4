use Rattle.coeff_group.proofs.laws.Plans.{shape_at}
use mathlib.Core.Path.{◌∙◌, ap, sym}
use Rattle.refusal.specs.Answer.{answered}
use Prim.Native.Nat.{◌-◌}
use Rattle.coeff_call.proofs.plan.shape_of.Goals as goal

pub returns-in-Ok : goal.returns-in-Ok
returns-in-Ok c =
    let a = c.args in
    rw (c.exponent_of-exponent.ensures, c.need_transpose-turn.ensures, c.dct_select_size-size.ensures) (shape_at a.x a.y (a.kind - 2) _ (sym (rw c.from.ensures at c.try_from.ensures) ∙ ap answered c.in-Ok.is))

pub returns-in-Err : goal.returns-in-Err
returns-in-Err c = let a = c.args in shape_at a.x a.y (a.kind - 2) _ (sym (rw c.from.ensures at c.try_from.ensures) ∙ ap answered c.in-Err.is)
