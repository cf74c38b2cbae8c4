use Rattle.coeff_places.proofs.walk.zeros_from.Goals as goal

pub skip_zeros-requires : goal.skip_zeros-requires
skip_zeros-requires c = rw c.if-exponent-eq0.true at c.requires

pub returns-then-exponent-eq0 : goal.returns-then-exponent-eq0
returns-then-exponent-eq0 c = rw c.if-exponent-eq0.true c.skip_zeros.ensures
