use native.Mathlib.Omega.{arith}
use Rattle.order_call.proofs.laws.Lists.{digits_too_large, digits_ended, digits_read}
use Rattle.order_call.proofs.read_digits.Goals as goal

pub returns-then-good-many : goal.returns-then-good-many
returns-then-good-many c =
    let a = c.args in
    let p = c.requires in
    digits_too_large a.size.width a.size.height p.0 p.1 p.2 a.symbols.now a.at a.n c.min-many.result c.digits_below-good.result (omega (arith, c.min-many.ensures)) (omega (arith, c.min-many.ensures)) c.digits_below-good.ensures a.list.now c.if-good-many.true

pub returns-then-many-n : goal.returns-then-many-n
returns-then-many-n c =
    let a = c.args in
    let p = c.requires in
    digits_ended a.size.width a.size.height p.0 p.1 p.2 a.symbols.now a.at a.n c.min-many.result c.digits_below-good.result (omega (arith, c.min-many.ensures)) (omega (arith, c.min-many.ensures)) c.digits_below-good.ensures a.list.now c.if-good-many.false c.if-many-n.true (omega (arith, c.min-many.ensures, c.if-many-n.true))

pub returns : goal.returns
returns c =
    let a = c.args in
    let p = c.requires in
    digits_read a.size.width a.size.height p.0 p.1 p.2 a.symbols.now a.at a.n c.min-many.result c.digits_below-good.result (omega (arith, c.min-many.ensures)) (omega (arith, c.min-many.ensures)) c.digits_below-good.ensures a.list.now c.permute.new.list c.if-good-many.false c.if-many-n.false p.4 c.permute.ensures.1
