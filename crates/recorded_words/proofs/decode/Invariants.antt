use Rattle.std.proofs.Common.{◌≡◌, ◌++◌, length, drop}
use Rattle.laws.specs.Lists.{tabulate}
use Rattle.recorded_words.specs.Words.{word_at}
use Rattle.recorded_words.proofs.decode.Given as goal

abbrev pub invariant-loop-i : goal.invariant-loop-i
invariant-loop-i l = (length l.out ≡ length l.initial.out) × (l.out ≡ tabulate (word_at l.file) l.i 0 ++ drop l.i l.initial.out)
