use Rattle.order_permutation.specs.laws.Packed.{Unpacking}
use Rattle.order_permutation.proofs.unpack.Given as goal

abbrev pub invariant-loop-i : goal.invariant-loop-i
invariant-loop-i l = Unpacking l.initial.list l.list l.size l.i
