use Rattle.std.proofs.Common.{◌≡◌, take}
use Rattle.lent_lists.specs.Finite.{all_finite}
use Rattle.lent_lists.proofs.finite.all_finite.Given as goal

abbrev pub invariant-loop-pattern : goal.invariant-loop-pattern
invariant-loop-pattern l = l.finite ≡ all_finite (take l.pattern-index l.patterns)
