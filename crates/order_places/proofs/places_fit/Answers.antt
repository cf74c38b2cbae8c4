use Rattle.order_places.specs.laws.Checking.{fit_start, fit_length, fit_end, list_at, fit_turn, fit_stop}
use Rattle.order_store.specs.laws.Offsets.{first_start}
use native.Mathlib.Omega.{arith}
use mathlib.Core.Path.{◌∙◌, sym}
use Prim.Native.Nat.{◌≤◌, ◌+◌, ◌*◌}
use Rattle.order_places.proofs.places_fit.Goals.{After-block_size-size}
use Rattle.order_places.proofs.places_fit.Goals as goal

pub returns-then-store-ne-NUMBERS : goal.returns-then-store-ne-NUMBERS
returns-then-store-ne-NUMBERS c = fit_length c.args.store.now c.if-store-ne-NUMBERS.true

pub loop-i-init : goal.loop-i-init
loop-i-init c = (sym first_start, fit_start c.args.store.now c.if-store-ne-NUMBERS.false)

-- a list ends inside the store
room : (c : After-block_size-size) → let s = c.block_size-size.result in c.loop-i.first + 2 * (s.width * s.height) ≤ 787968
room c =
    let l = c.loop-i in
    (list_at c.args.store.now l.i (omega arith) c.block_size-size.result c.block_size-size.ensures l.first l.invariant.0).room

pub all_inside-requires : goal.all_inside-requires
all_inside-requires c =
    let a = c.args in
    let l = c.loop-i in
    let s = list_at a.store.now l.i (omega arith) c.block_size-size.result c.block_size-size.ensures l.first l.invariant.0 in (s.width, s.height)

pub returns-then-not-all_inside : goal.returns-then-not-all_inside
returns-then-not-all_inside c =
    let a = c.args in
    let l = c.loop-i in
    sym (fit_stop a.store.now l.i (omega arith) c.block_size-size.result c.block_size-size.ensures l.first l.invariant.0 (sym c.all_inside.ensures ∙ c.if-not-all_inside.true)) ∙ l.invariant.1

pub loop-i-preserved : goal.loop-i-preserved
loop-i-preserved c =
    let a = c.args in
    let l = c.loop-i in
    let s = list_at a.store.now l.i (omega arith) c.block_size-size.result c.block_size-size.ensures l.first l.invariant.0 in
    let e = sym c.all_inside.ensures ∙ c.if-not-all_inside.false in
    (s.next, sym (fit_turn a.store.now l.i (omega arith) c.block_size-size.result c.block_size-size.ensures l.first l.invariant.0 ∙ rw e) ∙ l.invariant.1)

pub returns : goal.returns
returns c =
    let l = c.loop-i in
    sym (fit_end c.args.store.now l.i (omega arith)) ∙ l.invariant.1

pub overflow_mul-e : goal.overflow_mul-e
overflow_mul-e c = omega (arith, room (goal.at.overflow_mul-e c).After-block_size-size)

pub overflow_mul-e-in-loop-i : goal.overflow_mul-e-in-loop-i
overflow_mul-e-in-loop-i c = omega (arith, room (goal.at.overflow_mul-e-in-loop-i c).After-block_size-size)

pub overflow_add-e : goal.overflow_add-e
overflow_add-e c = omega (arith, room (goal.at.overflow_add-e c).After-block_size-size)

pub offset_bounds-store-first : goal.offset_bounds-store-first
offset_bounds-store-first c = omega (arith, room (goal.at.offset_bounds-store-first c).After-block_size-size)

pub slice_bounds-all_inside-end : goal.slice_bounds-all_inside-end
slice_bounds-all_inside-end c = omega (arith, room (goal.at.slice_bounds-all_inside-end c).After-block_size-size)
