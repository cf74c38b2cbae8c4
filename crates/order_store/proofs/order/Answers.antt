use Rattle.order_store.specs.laws.LookedUp.{ends_inside, handed_back}
use native.Mathlib.Omega.{arith}
use Rattle.order_store.proofs.order.Goals as goal

pub overflow_add-result : goal.overflow_add-result
overflow_add-result c =
    let a = c.args in
    omega (arith, ends_inside a.store.now a.order a.channel c.stretch_of-s.result c.stretch_of-s.ensures)

pub offset_bounds-store-s : goal.offset_bounds-store-s
offset_bounds-store-s c =
    let a = c.args in
    omega (arith, ends_inside a.store.now a.order a.channel c.stretch_of-s.result c.stretch_of-s.ensures)

pub slice_bounds-result-end : goal.slice_bounds-result-end
slice_bounds-result-end c =
    let a = c.args in
    omega (arith, ends_inside a.store.now a.order a.channel c.stretch_of-s.result c.stretch_of-s.ensures)

pub returns : goal.returns
returns c =
    let a = c.args in
    handed_back a.store.now a.order a.channel c.stretch_of-s.result c.stretch_of-s.ensures
