use Rattle.order_copies.specs.laws.Copies.{none_copied, piece_copied, all_copied}
use native.Mathlib.Omega.{arith}
use mathlib.Core.Path.{◌≡◌, refl}
use Prim.Native.Nat.{◌≤◌, ◌/◌, ◌+◌}
use lib.ListN.{length}
use Rattle.order_copies.proofs.copy_twice.Goals as goal

pub loop-b-init : goal.loop-b-init
loop-b-init c = (omega arith, omega arith, none_copied c.args.lists.now (length c.args.lists.now / 3) (omega arith))

pub loop-b-preserved : goal.loop-b-preserved
loop-b-preserved c =
    let l = c.loop-b in
    let a = c.args.lists.now in
    let n = length a / 3 in
    let m = c.min-m.result in
    let h : l.b + m ≤ n = omega arith in
    (omega arith, omega arith, piece_copied a n (omega arith) l.lists c.copy_to.new.list c.copy_to-in-loop-b.new.list l.b m l.invariant.2 h c.copy_to.ensures c.copy_to-in-loop-b.ensures)

pub returns : goal.returns
returns c =
    let l = c.loop-b in
    let a = c.args.lists.now in
    let n = length a / 3 in
    let e : l.b ≡ n = omega arith in
    all_copied a n (omega arith) l.lists refl (rw e at l.invariant.2)
