-- What the elements from here on give behind the digest so far, all give.
use Rattle.std.proofs.Common.{ℕ, drop}
use Rattle.recorded_answers.specs.Digest.{Digests}
use Rattle.recorded_answers.proofs.digest.of.Given as goal

abbrev pub invariant-loop-element : goal.invariant-loop-element
invariant-loop-element g l = (d : ℕ) → Digests g.T.Into.converts l.h (drop l.element-index l.list) d → Digests g.T.Into.converts 0 l.list d
