use Rattle.std.proofs.Common.{arith, ◌-◌, ◌+◌, ◌*◌}
use Rattle.order_permutation.specs.laws.Packed.{pack_start, pack_turn, pack_end, pack_x, pack_y, below_at}
use Rattle.order_permutation.proofs.pack.Goals as goal

pub loop-i-init : goal.loop-i-init
loop-i-init c = pack_start c.args.list.now c.args.size c.requires.0

pub overflow_mul-list : goal.overflow_mul-list
overflow_mul-list c =
    let a = c.args in
    let l = c.loop-i in
    let y = below_at 256 a.list.now (2 * (l.i - 1) + 1) c.requires.2 (omega (arith, l.invariant.fewer)) in
    let ey = pack_y a.list.now l.list a.size l.i l.invariant c.requires.0 (omega arith) in
    omega arith

pub overflow_add-list : goal.overflow_add-list
overflow_add-list c =
    let a = c.args in
    let l = c.loop-i in
    let x = below_at 256 a.list.now (2 * (l.i - 1)) c.requires.2 (omega (arith, l.invariant.fewer)) in
    let y = below_at 256 a.list.now (2 * (l.i - 1) + 1) c.requires.2 (omega (arith, l.invariant.fewer)) in
    let ex = pack_x a.list.now l.list a.size l.i l.invariant c.requires.0 (omega arith) in
    let ey = pack_y a.list.now l.list a.size l.i l.invariant c.requires.0 (omega arith) in
    omega arith

pub loop-i-preserved : goal.loop-i-preserved
loop-i-preserved c =
    let l = c.loop-i in
    pack_turn c.args.list.now l.list c.args.size l.i l.invariant c.requires.0 (omega arith)

pub returns : goal.returns
returns c =
    let l = c.loop-i in
    (l.invariant.long, pack_end c.args.list.now l.list c.args.size l.i l.invariant (omega arith))
