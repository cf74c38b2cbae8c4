use Rattle.order_store.specs.laws.LookedUp.{stretch_order, stretch_channel, stretch_length, spot, found}
use native.Mathlib.Omega.{arith}
use Rattle.order_store.proofs.stretch_of.Goals as goal

pub returns-then-order-ge13 : goal.returns-then-order-ge13
returns-then-order-ge13 c = let a = c.args in stretch_order a.numbers a.order a.channel c.if-order-ge13.true

pub returns-then-channel-ge3 : goal.returns-then-channel-ge3
returns-then-channel-ge3 c = let a = c.args in stretch_channel a.numbers a.order a.channel c.if-channel-ge3.true

pub returns-then-numbers-ne-NUMBERS : goal.returns-then-numbers-ne-NUMBERS
returns-then-numbers-ne-NUMBERS c = let a = c.args in stretch_length a.numbers a.order a.channel c.if-numbers-ne-NUMBERS.true

pub overflow_mul-first : goal.overflow_mul-first
overflow_mul-first c =
    let a = c.args in
    let t = c.numbers_of-n in
    let s = spot a.order a.channel (omega arith) (omega arith) t.result t.ensures c.first_of.result c.first_of.ensures in
    omega (arith, s.room)

pub overflow_add-first : goal.overflow_add-first
overflow_add-first c =
    let a = c.args in
    let t = c.numbers_of-n in
    let s = spot a.order a.channel (omega arith) (omega arith) t.result t.ensures c.first_of.result c.first_of.ensures in
    omega (arith, s.room)

pub returns : goal.returns
returns c =
    let a = c.args in
    let t = c.numbers_of-n in
    found a.order a.channel (omega arith) (omega arith) t.result t.ensures c.first_of.result c.first_of.ensures a.numbers c.if-numbers-ne-NUMBERS.false
