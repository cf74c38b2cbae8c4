use Rattle.order_natural.proofs.laws.Slants.{multiples_div}
use Rattle.std.proofs.Common.{◌∙◌}
use Rattle.order_natural.proofs.multiples_below.Goals as goal

pub returns : goal.returns
returns c = c.quotient.ensures ∙ multiples_div c.args.s c.requires.0 c.args.u
