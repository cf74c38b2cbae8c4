use Rattle.coeff_context.specs.Context.{coeff_context}
use Rattle.coeff_places.proofs.context.coeff_context.Goals as goal

pub returns : goal.returns
unfolding coeff_context
returns c = rw (c.nonzeros_at-x.ensures.0, c.frequency_at-y.ensures.0)
