use borrow.Author.Rules.{rules}
use native.Mathlib.Omega.{arith}
use mathlib.Core.Path.{◌≡◌, ◌∙◌, refl}
use Prim.Native.Nat.{◌≤◌, ◌-◌}
use lib.ListN.{length, take, length-set}
use Rattle.context_thresholds.specs.Thresholds.{pad}
use Rattle.context_places.specs.laws.Copies.{pad_copied, pad_cleared, pad_whole}
use Rattle.context_places.proofs.lay.Goals as goal

pub loop-i-init : goal.loop-i-init
loop-i-init c = (search rules, search rules, search rules, refl)

pub loop-i-preserved : goal.loop-i-preserved
loop-i-preserved c =
    let l = c.loop-i in
    let list = c.args.list.now in (
      omega arith,
      length-set l.out l.i _ ∙ l.invariant.1,
      omega arith,
      pad_copied 2496 list l.invariant.0 l.out l.invariant.1 l.i l.invariant.3 (omega arith),
    )

pub loop-i-2-preserved : goal.loop-i-2-preserved
loop-i-2-preserved c =
    let l = c.loop-i-2 in
    let list = c.args.list.now in (
      omega arith,
      length-set l.out l.i _ ∙ l.invariant.1,
      omega arith,
      omega arith,
      pad_cleared 2496 list l.invariant.0 l.out l.invariant.1 l.i l.invariant.4 (omega arith) (omega arith),
    )

pub shape_of-out : goal.shape_of-out
shape_of-out c = omega (arith, c.requires, c.loop-i-2.invariant)

pub returns : goal.returns
returns c =
    let l = c.loop-i-2 in
    pad_whole 2496 c.args.list.now l.invariant.0 l.out l.invariant.1 l.i l.invariant.4 (omega arith)
