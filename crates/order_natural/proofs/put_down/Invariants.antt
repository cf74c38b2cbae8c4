use Rattle.std.specs.Prelude.{◌≡◌, ◌+◌, ◌-◌, ◌*◌, ◌<◌, length}
use Rattle.laws.specs.laws.Laid.{LaidPairs}
use Rattle.order_natural.specs.Places.{flat}
use Rattle.order_natural.specs.laws.Slants.{downs}
use Rattle.order_natural.proofs.put_down.Given as goal

abbrev pub invariant-loop-j : goal.invariant-loop-j
invariant-loop-j l =
    (l.at ≡ l.start + 2 * l._j)
    × (length l.list ≡ length l.initial.list)
    × LaidPairs l.initial.list l.list l.start (flat (downs l.t l.s l.n l.end)) l.n l._j l.at (flat (downs l.t l.s (l.n - l._j) (l.end - l._j)))
    × (l._j < l.n → l.row ≡ l.end - l._j - 1)
    × (l._j < l.n → l.x ≡ l.t - l.row * l.s)
