use Rattle.std.proofs.Common.{◌≡◌, ◌-◌, ◌*◌, ◌≤◌, take, drop}
use Rattle.bits.specs.laws.Numbers.{number}
use Rattle.bits.proofs.gather.Given as goal

abbrev pub invariant-loop-k : goal.invariant-loop-k
invariant-loop-k l = (l.k ≤ l.count) × (l.sh ≡ 8 * l.k) × (l.acc ≡ number (take l.k (drop l.first l.s)))

abbrev pub decreases-loop-k : goal.decreases-loop-k
decreases-loop-k l = l.count - l.k
