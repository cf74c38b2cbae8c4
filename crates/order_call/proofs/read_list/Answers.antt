use Rattle.std.proofs.Common.{refl}
use native.Mathlib.Omega.{arith}
use Rattle.order_call.proofs.laws.Lists.{list_unused, list_short, list_large, list_digits}
use Rattle.order_call.proofs.read_list.Goals as goal

pub returns-then-not-used : goal.returns-then-not-used
returns-then-not-used c = let a = c.args in list_unused a.size.width a.size.height a.symbols.now a.at a.used a.list.now (c.if-not-used.true) c.requires.4

pub returns-then-symbols-at : goal.returns-then-symbols-at
returns-then-symbols-at c = let a = c.args in list_short a.size.width a.size.height a.symbols.now a.at a.used a.list.now (c.if-not-used.false) c.if-symbols-at.true

pub returns-then-places-n : goal.returns-then-places-n
returns-then-places-n c =
    let a = c.args in
    list_large a.size.width a.size.height a.symbols.now a.at a.used (c.if-not-used.false) c.if-symbols-at.false _ refl a.list.now c.if-places-n.true

pub read_digits-requires : goal.read_digits-requires
read_digits-requires c = let h = c.requires in (h.0, h.1, h.2, omega (arith, c.if-symbols-at.false), h.4)

pub returns : goal.returns
returns c =
    let a = c.args in
    list_digits a.size.width a.size.height a.symbols.now a.at a.used (c.if-not-used.false) c.if-symbols-at.false _ refl c.read_digits.result c.read_digits.new.list c.if-places-n.false c.read_digits.ensures
