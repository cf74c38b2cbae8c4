use mathlib.Core.Path.{◌∙◌, sym}
use Prim.Native.Nat.{◌-◌, ◌+◌, ◌*◌, ◌≤◌}
use borrow.Rule.Slice.PartMut.{put_mid}
use native.Mathlib.Omega.{arith}
use lib.ListN.{length, get_or}
use Rattle.order_permutation.specs.laws.Blocks.{sum_set}
use Rattle.order_permutation.specs.laws.Drawing.{spot_room, spot_end, spot_closed, is_out, is_closed, tail_length}
use Rattle.order_permutation.proofs.take_out.Goals.{After-min-end, After-find-s}
use Rattle.order_permutation.proofs.take_out.Goals as goal

-- the block has room for its numbers
room : (c : After-find-s) → let a = c.args in let b = c.find-s.result.block in (b * a.span + get_or a.count.now b 0 ≤ length a.rest.now) × (get_or a.count.now b 0 ≤ a.span) × (a.span ≤ 1024)
room c =
    let a = c.args in
    let s = c.find-s.result in
    let f = c.find-s.ensures in
    spot_room a.span a.count.now a.rest.now a.d c.requires.0 c.requires.3 s.block (a.d - s.before) f.0 (omega (arith, f.2, f.3)) (omega (arith, f.1, f.2))

-- and ends behind them
ends : (c : After-min-end) → let a = c.args in let b = c.find-s.result.block in (b * a.span + c.from-n.result ≤ c.min-end.result) × (c.min-end.result ≤ b * a.span + a.span) × (c.min-end.result ≤ length a.rest.now)
ends c =
    let a = c.args in
    let s = c.find-s.result in
    let f = c.find-s.ensures in
    spot_end a.span a.count.now a.rest.now a.d c.requires.0 c.requires.3 s.block (a.d - s.before) f.0 (omega (arith, f.2, f.3)) (omega (arith, f.1, f.2)) c.from-n.result c.min-end.result c.from-n.ensures c.min-end.ensures

pub overflow_mul-start : goal.overflow_mul-start
overflow_mul-start c = omega (arith, (room (goal.at.overflow_mul-start c).After-find-s).0)

pub overflow_add-value : goal.overflow_add-value
overflow_add-value c = omega (arith, c.find-s.ensures.2, c.find-s.ensures.3, (room (goal.at.overflow_add-value c).After-find-s).0)

pub offset_bounds-rest-start : goal.offset_bounds-rest-start
offset_bounds-rest-start c = omega (arith, c.find-s.ensures.2, c.find-s.ensures.3, (room (goal.at.offset_bounds-rest-start c).After-find-s).0)

pub bounds-rest-start : goal.bounds-rest-start
bounds-rest-start c = omega (arith, c.find-s.ensures.2, c.find-s.ensures.3, (room (goal.at.bounds-rest-start c).After-find-s).0)

pub overflow_add-start : goal.overflow_add-start
overflow_add-start c = let q = room (goal.at.overflow_add-start c).After-find-s in omega (arith, q.0, q.2)

pub offset_bounds-rest-start-2 : goal.offset_bounds-rest-start-2
offset_bounds-rest-start-2 c = omega (arith, (room (goal.at.offset_bounds-rest-start-2 c).After-find-s).0)

pub slice_bounds-close-count : goal.slice_bounds-close-count
slice_bounds-close-count c = omega (arith, (room (goal.at.slice_bounds-close-count c).After-find-s).0)

pub slice_bounds-close-start : goal.slice_bounds-close-start
slice_bounds-close-start c = omega (arith, (room (goal.at.slice_bounds-close-start c).After-find-s).0)

pub overflow_sub-end : goal.overflow_sub-end
overflow_sub-end c = omega (arith, (ends (goal.at.overflow_sub-end c).After-min-end).0)

pub overflow_sub-end-2 : goal.overflow_sub-end-2
overflow_sub-end-2 c = omega (arith, (ends (goal.at.overflow_sub-end-2 c).After-min-end).0)

pub close-requires : goal.close-requires
close-requires c =
    let a = c.args in
    let s = c.find-s.result in
    let f = c.find-s.ensures in
    let g = spot_closed a.span a.count.now a.rest.now a.d c.requires.0 c.requires.3 s.block (a.d - s.before) f.0 (omega (arith, f.2, f.3)) (omega (arith, f.1, f.2)) c.from-n.result c.min-end.result c.from-n.ensures c.min-end.ensures (c.from-n.result - 1 - (a.d - s.before) + (c.min-end.result - s.block * a.span - c.from-n.result)) (omega arith) (omega arith) in
    omega (arith, tail_length a.rest.now (s.block * a.span), g.2)

pub overflow_sub-count : goal.overflow_sub-count
overflow_sub-count c = let f = c.find-s.ensures in omega (arith, f.2, f.3, c.from-n.ensures)

pub overflow_cast-count : goal.overflow_cast-count
overflow_cast-count c = let q = room (goal.at.overflow_cast-count c).After-find-s in omega (arith, c.from-n.ensures, q.1, q.2)

pub returns : goal.returns
returns c =
    let a = c.args in
    let s = c.find-s.result in
    let f = c.find-s.ensures in
    let g = spot_closed a.span a.count.now a.rest.now a.d c.requires.0 c.requires.3 s.block (a.d - s.before) f.0 (omega (arith, f.2, f.3)) (omega (arith, f.1, f.2)) c.from-n.result c.min-end.result c.from-n.ensures c.min-end.ensures c.close.result c.close.ensures.0 c.close.ensures.1 in
    let z = put_mid (s.block * a.span) (length a.rest.now - s.block * a.span) a.rest.now c.close.new.list in
    let o = is_out a.span a.count.now a.rest.now a.d c.requires.0 c.requires.3 s.block (a.d - s.before) f.0 (omega (arith, f.2, f.3)) (omega (arith, f.1, f.2)) c.from-n.result c.close.result z c.from-n.ensures g.0 g.1 g.2 in
    (o (is_closed a.span a.rest.now c.close.new.list s.block (a.d - s.before) c.close.result c.close.ensures.2), f.0, f.1 ∙ sym (sum_set a.count.now s.block (c.from-n.result - 1)))

pub offset_bounds-count-s-2 : goal.offset_bounds-count-s-2
offset_bounds-count-s-2 c = omega (arith, c.find-s.ensures.0)

pub bounds-count-s-2 : goal.bounds-count-s-2
bounds-count-s-2 c = c.find-s.ensures.0
