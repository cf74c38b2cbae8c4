use Rattle.std.proofs.Common.{◌≡◌, ◌-◌, ◌≤◌}
use Rattle.std.proofs.lemmas.List.Edits.{sets}
use Rattle.order_permutation.specs.laws.Blocks.{counts}
use Rattle.order_permutation.proofs.counts_of.Given as goal

abbrev pub invariant-loop-i : goal.invariant-loop-i
invariant-loop-i l = (l.left ≤ l.free) × (sets l.c l.i (counts l.span (64 - l.i) l.left) ≡ counts l.span 64 l.free)
