use mathlib.Core.Path.{refl, ◌≡◌, ◌∙◌, sym}
use Rattle.order_permutation.specs.laws.Drawing.{draw_start, digit_below, draw_room, draw_turn, draw_end}
use Rattle.laws.specs.laws.Lists.{tail_all}
use Rattle.order_permutation.specs.laws.Blocks.{sum_start}
use borrow.Rule.Slice.PartMut.{put_mid}
use native.Mathlib.Omega.{arith}
use Prim.Native.Nat.{◌-◌, ◌+◌}
use lib.ListN.{length, take, drop, set, get_or}
use Rattle.order_permutation.proofs.draw.Goals as goal

pub loop-k-init : goal.loop-k-init
loop-k-init c =
    let a = c.args in
    (draw_start a.span a.size a.skip a.digits.now a.list.now c.requires.0 c.requires.1 c.requires.2 c.requires.3 c.requires.4 c.counts_of-count.result c.counts_of-count.ensures, omega arith, sym (sum_start c.counts_of-count.result))

pub slice_bounds-take_out-count : goal.slice_bounds-take_out-count
slice_bounds-take_out-count c = omega (arith, c.loop-k.invariant.0.long, c.requires.3)

pub slice_bounds-take_out-start : goal.slice_bounds-take_out-start
slice_bounds-take_out-start c = omega (arith, c.loop-k.invariant.0.long, c.requires.3)

pub take_out-value-requires : goal.take_out-value-requires
take_out-value-requires c =
    let a = c.args in
    let l = c.loop-k in
    let t : take (length l.list - (a.size + a.skip)) (drop (a.size + a.skip) l.list) ≡ drop (a.size + a.skip) l.list = tail_all l.list (a.size + a.skip) in
    let q = digit_below a.span a.size a.skip a.digits.now a.list.now l.count l.list l.k l.invariant.0 (omega arith) c.requires.3 in
    (rw t l.invariant.0.ready, l.invariant.1, l.invariant.2, q)

pub bounds-list-skip : goal.bounds-list-skip
bounds-list-skip c =
    let a = c.args in
    let l = c.loop-k in
    let r = draw_room a.span a.size a.skip a.digits.now a.list.now l.count l.list l.k l.invariant.0 (omega arith) c.requires.3 in
    omega (arith, r)

pub loop-k-preserved : goal.loop-k-preserved
loop-k-preserved c =
    let a = c.args in
    let l = c.loop-k in
    (draw_turn a.span a.size a.skip a.digits.now a.list.now l.count l.list l.k l.invariant.0 (omega arith) c.requires.3 (get_or c.args.digits.now c.loop-k.k 0) c.take_out-value.result.0 c.take_out-value.new.count c.take_out-value.new.rest (set (put_mid (a.size + a.skip) (length l.list - (a.size + a.skip)) l.list c.take_out-value.new.rest) (a.skip + l.k) c.take_out-value.result.0) refl c.take_out-value.ensures.0 refl, c.take_out-value.ensures.1, c.take_out-value.ensures.2)

pub shape_of-list : goal.shape_of-list
shape_of-list c = c.loop-k.invariant.0.long ∙ sym c.requires.0

pub returns : goal.returns
returns c =
    let a = c.args in
    let l = c.loop-k in
    draw_end a.span a.size a.skip a.digits.now a.list.now l.count l.list l.k l.invariant.0 c.requires.3 (omega arith)
