use Rattle.bits.specs.Reads.{bits_before}
use Rattle.context_thresholds.specs.laws.Halfway.{Half}
use Rattle.context_thresholds.proofs.read_values.Given as goal

abbrev pub invariant-loop-k : goal.invariant-loop-k
invariant-loop-k g l = Half (g.T.Threshold.reading l.bytes) l.n (bits_before l.fn.from) l.values l.next l.k
