use Rattle.std.specs.Prelude.{◌≡◌, ◌+◌, ◌-◌, drop}
use Rattle.order_digits.specs.laws.Leading.{leading}
use Rattle.order_digits.proofs.digits_below.Given as goal

abbrev pub invariant-loop-k : goal.invariant-loop-k
invariant-loop-k l = l.k + leading (drop l.k l.digits) (l.left - l.k) ≡ leading l.digits l.left
