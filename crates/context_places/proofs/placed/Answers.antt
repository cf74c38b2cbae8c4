use lib.Seq.{paste, paste-zero}
use Rattle.context_places.specs.laws.Copies.{copy_more}
use borrow.Author.Rules.{rules}
use native.Mathlib.Omega.{arith}
use mathlib.Core.Path.{◌≡◌, ◌∙◌, ap}
use Prim.Native.Nat.{◌≤◌, ◌-◌}
use Rattle.context_places.proofs.placed.Goals as goal

pub loop-k-init : goal.loop-k-init
loop-k-init c = let a = c.args in (omega arith, paste-zero a.lists a.first a.list.now)

pub loop-k-preserved : goal.loop-k-preserved
loop-k-preserved c =
    let l = c.loop-k in
    let a = c.args in
    (omega arith, copy_more a.lists a.first a.list.now l.out l.k l.invariant.1 (omega arith) (omega arith))

pub returns : goal.returns
returns c =
    let l = c.loop-k in
    let a = c.args in
    let e : l.k ≡ 15 = omega arith in
    l.invariant.1 ∙ ap (paste a.lists a.first a.list.now) e
