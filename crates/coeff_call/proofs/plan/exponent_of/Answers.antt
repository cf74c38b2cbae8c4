use Rattle.dct_select.specs.laws.Exponents.{exponent_of, EXPONENTS, exponent_none}
use mathlib.Core.Path.{refl, sym}
use Prim.Native.Nat.{◌-◌}
use Rattle.coeff_call.proofs.plan.exponent_of.Goals as goal

pub returns-then-t-ge27 : goal.returns-then-t-ge27
returns-then-t-ge27 c = sym (exponent_none (c.args.kind - 2) c.if-t-ge27.true)

pub returns : goal.returns
unfolding exponent_of EXPONENTS
returns c = refl
