use Rattle.recorded_lists.specs.laws.ListsLaws.{place_step, place_end}
use native.Mathlib.Omega.{arith}
use mathlib.Core.Path.{◌≡◌, ◌∙◌, sym}
use Prim.Native.Nat.{◌-◌}
use Rattle.recorded_lists.proofs.list.place.Goals as goal

pub loop-init : goal.loop-init
loop-init c =
    let a = c.args in
    let e : a.k - 0 ≡ a.k = omega arith in
    rw e

pub loop-preserved : goal.loop-preserved
loop-preserved c =
    let a = c.args in
    rw c.behind_one-at.ensures (place_step a.words.now c.loop.at c.loop.counter a.k (omega arith) ∙ c.loop.invariant)

pub returns : goal.returns
returns c =
    let a = c.args in
    sym (place_end a.words.now c.loop.at c.loop.counter a.k (omega arith)) ∙ c.loop.invariant
