-- All agree so far, and the rest is compared behind them.
use Rattle.std.proofs.Common.{◌≡◌, ◌+◌, ◌≤◌, length, drop}
use Rattle.recorded_answers.specs.Compare.{common}
use Rattle.recorded_answers.proofs.agreeing.Given as goal

abbrev pub invariant-loop-i : goal.invariant-loop-i
invariant-loop-i l = (l.i ≤ length l.theirs) × (l.i + common (drop l.i l.theirs) (drop l.i l.mine) ≡ common l.theirs l.mine)
