use Rattle.std.proofs.Common.{◌≡◌, ◌*◌, ◌/◌, div-le_self, arith}
use Rattle.laws.specs.laws.Laid.{Laid, laid_on}
use Rattle.order_natural.proofs.laws.Turns.{natural_parts, natural_sum, natural_numbers}
use Rattle.order_natural.proofs.laws.Sizes.{s_some, not_higher, width_eights}
use Rattle.order_natural.specs.Natural.{rows, square, keep, natural}
use Rattle.order_natural.specs.Places.{flat}
use Rattle.order_natural.proofs.put_natural.Goals as goal

pub put_corner-at-requires : goal.put_corner-at-requires
put_corner-at-requires c =
    let a = c.args in
    let pre = c.requires in
    let n = natural_sum a.size.width a.size.height pre.0 in
    let h = not_higher a.size.width a.size.height pre.0 in
    (omega arith, omega arith, omega arith)

pub invariant_of-walk : goal.invariant_of-walk
invariant_of-walk c =
    let a = c.args in
    let pre = c.requires in
    record {
      in_range = (
        s_some a.size.width a.size.height pre.0,
        omega (arith, div-le_self a.size.width a.size.height),
        omega (arith, pre.0.width_some, width_eights a.size.width a.size.height pre.0),
        omega arith,
        omega arith,
      );
    }

pub put_square-requires : goal.put_square-requires
put_square-requires c =
    let a = c.args in
    let n = natural_sum a.size.width a.size.height c.requires.0 in
    omega (arith, c.requires.2, c.put_corner-at.ensures.end, c.put_corner-at.ensures.long)

pub returns : goal.returns
returns c =
    let a = c.args in
    let pre = c.requires in
    let corner = flat (rows (a.size.width / 8) (a.size.height / 8)) in
    let others = flat (keep (a.size.width / 8) (a.size.width / a.size.height) (square a.size.width)) in
    let l : Laid a.list.now c.put_square.new.list 0 (flat (natural a.size.width a.size.height)) c.put_square.result = laid_on a.list.now c.put_corner-at.new.list c.put_square.new.list 0 c.put_corner-at.result c.put_square.result corner others (flat (natural a.size.width a.size.height)) (natural_parts a.size.width a.size.height) c.put_corner-at.ensures c.put_square.ensures in
    let e : c.put_square.result ≡ 2 * (a.size.width * a.size.height) = omega (arith, l.end, natural_numbers a.size.width a.size.height pre.0) in
    rw e at l
