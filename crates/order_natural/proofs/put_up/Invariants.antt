use Rattle.std.specs.Prelude.{◌≡◌, ◌+◌, ◌-◌, ◌*◌, ◌<◌, length}
use Rattle.laws.specs.laws.Laid.{LaidPairs}
use Rattle.order_natural.specs.Places.{flat}
use Rattle.order_natural.specs.laws.Slants.{ups}
use Rattle.order_natural.proofs.put_up.Given as goal

abbrev pub invariant-loop-j : goal.invariant-loop-j
invariant-loop-j l =
    (l.q ≡ l.first + l._j)
    × (l.at ≡ l.start + 2 * l._j)
    × (length l.list ≡ length l.initial.list)
    × LaidPairs l.initial.list l.list l.start (flat (ups l.t l.s l.n l.first)) l.n l._j l.at (flat (ups l.t l.s (l.n - l._j) l.q))
    × (l._j < l.n → l.x ≡ l.t - l.q * l.s)
