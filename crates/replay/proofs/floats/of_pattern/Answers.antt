use Rattle.replay.specs.laws.Patterns.{no_nan_field, no_nan_digits}
use Rattle.replay.proofs.floats.of_pattern.Goals as goal

pub float_from_bits-result : goal.float_from_bits-result
float_from_bits-result c = no_nan_field c.args.b c.if-b-ne255.true

pub float_from_bits-result-then-b-eq0 : goal.float_from_bits-result-then-b-eq0
float_from_bits-result-then-b-eq0 c = no_nan_digits c.args.b c.if-b-eq0.true
