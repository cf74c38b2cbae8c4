use Rattle.laws.specs.laws.Pastes.{copy_turn}
use mathlib.Core.Logic.{inl}
use lib.Seq.{paste, paste-zero}
use borrow.Author.Rules.{rules}
use native.Mathlib.Omega.{arith}
use mathlib.Core.Path.{◌≡◌, ◌∙◌, ap}
use Prim.Native.Nat.{ℕ}
use lib.ListN.{drop}
use Rattle.order_copies.proofs.copy_to.Goals as goal

pub loop-j-init : goal.loop-j-init
loop-j-init c = (omega arith, omega arith, paste-zero c.args.list.now c.args.to (drop c.args.from c.args.list.now))

pub loop-j-preserved : goal.loop-j-preserved
loop-j-preserved c =
    let a = c.args in
    let l = c.loop-j in
    (omega arith, search rules, copy_turn a.list.now l.list a.from a.to l.j (inl (omega arith)) (omega arith) (omega arith) l.invariant.2)

pub returns : goal.returns
returns c =
    let a = c.args in
    let l = c.loop-j in
    let e : l.j ≡ a.m = omega arith in
    l.invariant.2 ∙ ap (λ (j : ℕ). paste a.list.now a.to (drop a.from a.list.now) j) e
