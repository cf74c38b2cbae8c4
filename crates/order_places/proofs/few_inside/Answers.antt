use Rattle.std.proofs.Common.{arith, sym, ◌∙◌, le-ltb}
use Rattle.order_places.specs.laws.Powers.{inside_start, inside_turn, inside_both, inside_not}
use Rattle.order_places.proofs.few_inside.Goals as goal

pub loop-i-init : goal.loop-i-init
loop-i-init c = let a = c.args in inside_start a.size.width a.size.height c.requires.0 c.requires.1 a.list.now

pub loop-i-preserved : goal.loop-i-preserved
loop-i-preserved c =
    let a = c.args in
    let l = c.loop-i in
    sym (inside_turn a.size.width a.size.height c.requires.0 c.requires.1 a.list.now l.xs l.ys l.i (omega arith)) ∙ l.invariant

pub returns-then-from-size : goal.returns-then-from-size
returns-then-from-size c =
    let a = c.args in
    let l = c.loop-i in
    rw c.from-then-from-size.ensures (sym (inside_both a.size.width a.size.height c.requires.0 c.requires.1 a.list.now l.xs l.ys l.i (omega arith) (omega arith)) ∙ l.invariant)

pub returns-else-from-size : goal.returns-else-from-size
returns-else-from-size c =
    let a = c.args in
    let l = c.loop-i in
    le-ltb c.from.result a.size.width c.if-from-size.false ∙ sym (inside_not a.size.width a.size.height c.requires.0 c.requires.1 a.list.now l.xs l.ys l.i (omega arith) (omega arith)) ∙ l.invariant
