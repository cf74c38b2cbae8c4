use Rattle.laws.specs.laws.Pastes.{copy_turn}
use mathlib.Core.Logic.{inr}
use lib.Seq.{paste, paste-zero}
use borrow.Author.Rules.{rules}
use native.Mathlib.Omega.{arith}
use mathlib.Core.Path.{◌≡◌, ◌∙◌, ap}
use Prim.Native.Nat.{ℕ}
use lib.ListN.{drop}
use Rattle.order_permutation.proofs.lay.Goals as goal

pub loop-j-init : goal.loop-j-init
loop-j-init c = (omega arith, omega arith, paste-zero c.args.list.now c.args.at (drop c.args.start c.args.list.now))

pub overflow_add-v : goal.overflow_add-v
overflow_add-v c = let q = c.requires.1 (omega arith) in omega (arith, c.loop-j.invariant.1)

pub offset_bounds-list-start : goal.offset_bounds-list-start
offset_bounds-list-start c = let q = c.requires.1 (omega arith) in omega (arith, c.loop-j.invariant.1)

pub bounds-list-start : goal.bounds-list-start
bounds-list-start c = let q = c.requires.1 (omega arith) in omega (arith, c.loop-j.invariant.1)

pub overflow_add-list : goal.overflow_add-list
overflow_add-list c = let q = c.requires.1 (omega arith) in omega (arith, c.loop-j.invariant.1)

pub offset_bounds-list-at : goal.offset_bounds-list-at
offset_bounds-list-at c = let q = c.requires.1 (omega arith) in omega (arith, c.loop-j.invariant.1)

pub bounds-list-at : goal.bounds-list-at
bounds-list-at c = let q = c.requires.1 (omega arith) in omega (arith, c.loop-j.invariant.1)

pub loop-j-preserved : goal.loop-j-preserved
loop-j-preserved c =
    let a = c.args in
    let l = c.loop-j in
    let q = c.requires.1 (omega arith) in
    (omega arith, search rules, copy_turn a.list.now l.list a.start a.at l.j (inr (omega arith)) (omega (arith, q)) (omega (arith, q)) l.invariant.2)

pub returns : goal.returns
returns c =
    let a = c.args in
    let l = c.loop-j in
    let e : l.j ≡ a.n = omega arith in
    l.invariant.2 ∙ ap (λ (j : ℕ). paste a.list.now a.at (drop a.start a.list.now) j) e
