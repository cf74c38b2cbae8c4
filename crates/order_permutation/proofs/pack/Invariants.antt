use Rattle.order_permutation.specs.laws.Packed.{Packing}
use Rattle.order_permutation.proofs.pack.Given as goal

abbrev pub invariant-loop-i : goal.invariant-loop-i
invariant-loop-i l = Packing l.initial.list l.list l.size l.i
