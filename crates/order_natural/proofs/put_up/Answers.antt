use Rattle.std.proofs.Common.{◌≡◌, ◌+◌, ◌-◌, refl, arith, length-set, rules}
use Rattle.order_natural.specs.Places.{flat}
use Rattle.laws.specs.laws.Laid.{laid_none, pairs_start, pairs_turn}
use Rattle.order_natural.specs.laws.Slants.{ups}
use Rattle.order_natural.proofs.laws.Slants.{ups_turn, ups_end, next_row}
use Rattle.order_natural.proofs.put_up.Goals as goal

pub returns-then-n-eq0 : goal.returns-then-n-eq0
returns-then-n-eq0 c =
    let a = c.args in
    let z : a.n - 0 ≡ a.n = omega arith in
    laid_none a.list.now a.start (flat (ups a.t a.s a.n a.first)) (rw z at (ups_end a.t a.s a.n a.first 0 (omega arith)))

pub loop-j-init : goal.loop-j-init
loop-j-init c =
    let a = c.args in
    let z : a.n - 0 ≡ a.n = omega arith in
    (omega arith, omega arith, refl, rw z (pairs_start a.list.now a.start (flat (ups a.t a.s a.n a.first)) a.n (omega arith)), λ h. refl)

pub loop-j-preserved : goal.loop-j-preserved
loop-j-preserved c =
    let a = c.args in
    let l = c.loop-j in
    let cells = flat (ups a.t a.s a.n a.first) in
    let left = flat (ups a.t a.s (a.n - l._j) l.q) in
    let later = flat (ups a.t a.s (a.n - (l._j + 1)) (l.q + 1)) in (
      omega arith,
      omega arith,
      search rules,
      pairs_turn a.list.now l.list a.start cells a.n l._j l.at left l.x l.q later (omega arith) (omega arith) (λ h. rw (l.invariant.4 h) (ups_turn a.t a.s a.n l.q l._j h)) (ups_end a.t a.s a.n (l.q + 1) (l._j + 1)) l.invariant.3,
      λ h.
          let e = l.invariant.4 (omega arith) in
          let m = next_row l.q a.s in
          let p = c.requires.2 (l.q + 1) (omega arith) in
          omega (arith, e, m, p),
    )

pub returns : goal.returns
returns c = c.loop-j.invariant.3.done (omega arith)

pub overflow_mul-x : goal.overflow_mul-x
overflow_mul-x c = let q = c.requires.2 c.args.first (omega arith) in omega arith

pub overflow_sub-x : goal.overflow_sub-x
overflow_sub-x c = let q = c.requires.2 c.args.first (omega arith) in omega arith

pub bounds-list-at : goal.bounds-list-at
bounds-list-at c = omega (arith, c.requires.0, c.loop-j.invariant.2)

pub bounds-list-at-in-loop-j : goal.bounds-list-at-in-loop-j
bounds-list-at-in-loop-j c = simp length-set (omega (arith, c.requires.0, c.loop-j.invariant.2))
