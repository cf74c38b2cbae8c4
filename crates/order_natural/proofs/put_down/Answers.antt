use Rattle.std.proofs.Common.{◌≡◌, ◌+◌, ◌-◌, ◌%◌, refl, arith, length-set, rules}
use Rattle.order_natural.specs.Places.{flat}
use Rattle.laws.specs.laws.Laid.{laid_none, pairs_start, pairs_turn}
use Rattle.order_natural.specs.laws.Slants.{downs}
use Rattle.order_natural.proofs.laws.Slants.{downs_turn, downs_end, next_row}
use Rattle.order_natural.proofs.put_down.Goals as goal

pub returns-then-n-eq0 : goal.returns-then-n-eq0
returns-then-n-eq0 c =
    let a = c.args in
    let z : a.n - 0 ≡ a.n = omega arith in
    laid_none a.list.now a.start (flat (downs a.t a.s a.n a.end)) (rw z at (downs_end a.t a.s a.n a.end 0 (omega arith)))

pub loop-j-init : goal.loop-j-init
loop-j-init c =
    let a = c.args in
    let z : a.n - 0 ≡ a.n = omega arith in
    let y : a.end - 0 ≡ a.end = omega arith in
    (omega arith, refl, rw (z, y) (pairs_start a.list.now a.start (flat (downs a.t a.s a.n a.end)) a.n (omega arith)), λ h. omega arith, λ h. refl)

pub loop-j-preserved : goal.loop-j-preserved
loop-j-preserved c =
    let a = c.args in
    let l = c.loop-j in
    let cells = flat (downs a.t a.s a.n a.end) in
    let left = flat (downs a.t a.s (a.n - l._j) (a.end - l._j)) in
    let later = flat (downs a.t a.s (a.n - (l._j + 1)) (a.end - (l._j + 1))) in
    let d : a.end - (l._j + 1) ≡ a.end - l._j - 1 = omega arith in (
      omega arith,
      search rules,
      pairs_turn a.list.now l.list a.start cells a.n l._j l.at left l.x l.row later (omega arith) (omega arith) (λ h. rw (l.invariant.4 h, l.invariant.3 h, d) (downs_turn a.t a.s a.n (a.end - l._j) l._j h)) (downs_end a.t a.s a.n (a.end - (l._j + 1)) (l._j + 1)) l.invariant.2,
      λ h. let r = l.invariant.3 (omega arith) in omega (arith, r),
      λ h.
          let r = l.invariant.3 (omega arith) in
          let v = l.invariant.4 (omega arith) in
          let w : l.row - 1 + 1 ≡ l.row = omega (arith, r) in
          let m = rw w at (next_row (l.row - 1) a.s) in
          let p = c.requires.3 l.row (omega (arith, r)) in
          let g : (l.row + 65535) % 65536 ≡ l.row - 1 = omega (arith, r) in
          rw g (omega (arith, v, m, p)),
    )

pub returns : goal.returns
returns c = c.loop-j.invariant.2.done (omega arith)

pub overflow_mul-x : goal.overflow_mul-x
overflow_mul-x c = let q = c.requires.3 (c.args.end - 1) (omega arith) in omega arith

pub overflow_sub-x : goal.overflow_sub-x
overflow_sub-x c = let q = c.requires.3 (c.args.end - 1) (omega arith) in omega arith

pub bounds-list-at : goal.bounds-list-at
bounds-list-at c = omega (arith, c.requires.0, c.loop-j.invariant.1)

pub bounds-list-at-in-loop-j : goal.bounds-list-at-in-loop-j
bounds-list-at-in-loop-j c = simp length-set (omega (arith, c.requires.0, c.loop-j.invariant.1))
