use Rattle.coeff_context.proofs.laws.Situations.{speaks_in}
use mathlib.Core.Path.{◌∙◌, sym}
use Rattle.coeff_context.proofs.coefficient_context.Goals as goal

pub context_of-requires : goal.context_of-requires
context_of-requires c = speaks_in _ (sym c.speaks_of.ensures ∙ c.if-not-speaks_of.false)
