use Rattle.std.proofs.Common.{arith, ◌≡◌, ◌+◌, ◌*◌, add-one}
use Rattle.std.proofs.Math.Nat.{suc-mul}
use Rattle.order_permutation.specs.laws.Drawing.{lay_begin, block_inside, before_it, lay_block, lay_none, lay_done}
use Rattle.order_permutation.proofs.lay_rest.Goals.{then-n-gt0, else-n-gt0}
use Rattle.order_permutation.proofs.lay_rest.Goals as goal

pub lay-requires : goal.lay-requires
lay-requires c =
    let a = c.args in
    let l = c.loop-b in
    let q = before_it a.span a.from a.at a.count.now a.list.now l.list l.to (a.from + l.b * a.span) l.b l.invariant (omega arith) c.from-n.result c.requires.2.many c.from-n.ensures c.requires.3 in
    let r = block_inside a.span a.from a.at a.count.now a.list.now l.list l.to (a.from + l.b * a.span) l.b l.invariant (omega arith) c.from-n.result c.requires.2.many c.from-n.ensures c.requires.3 (omega arith) in
    (omega (arith, q), λ h. omega (arith, r))

pub loop-b-init : goal.loop-b-init
loop-b-init c = let z : c.args.from + 0 * c.args.span ≡ c.args.from = omega arith in rw z (lay_begin c.args.span c.args.from c.args.at c.args.count.now c.args.list.now c.requires.2)

pub loop-b-preserved : goal.loop-b-preserved
loop-b-preserved c =
    let a = c.args in
    let l = c.loop-b in
    let start = a.from + l.b * a.span in
    let e : start + a.span ≡ a.from + (l.b + 1) * a.span = rw (add-one l.b) (omega (arith, suc-mul l.b a.span)) in
    elim c.if-n-gt0.branch [
      | then-n-gt0 w ↦
          rw (w.list-is, w.to-is, ← e) (lay_block a.span a.from a.at a.count.now a.list.now l.list l.to start l.b l.invariant (omega arith) c.from-n.result c.requires.2.many c.from-n.ensures c.requires.3 w.lay.new.list c.requires.2.small c.requires.1 w.lay.ensures)
      | else-n-gt0 w ↦
          rw (w.list-is, w.to-is, ← e) (lay_none a.span a.from a.at a.count.now a.list.now l.list l.to start l.b l.invariant (omega arith) c.from-n.result c.requires.2.many c.from-n.ensures c.requires.3 (omega arith) c.requires.2.small c.requires.1)
    ]

pub returns : goal.returns
returns c =
    let a = c.args in
    let l = c.loop-b in
    lay_done a.span a.from a.at a.count.now a.list.now l.list l.to (a.from + l.b * a.span) l.b l.invariant c.requires.2.many (omega arith)
