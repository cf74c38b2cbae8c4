use Rattle.std.proofs.lemmas.Bool.Decides.{nat_tests}
use native.Mathlib.Omega.{arith}
use Rattle.order_permutation.specs.laws.Drawing.{none_drawn, all_drawn}
use Rattle.order_permutation.proofs.reorder.Goals as goal

pub returns-then-is_empty : goal.returns-then-is_empty
returns-then-is_empty c = let a = c.args in none_drawn a.size a.skip a.digits.now a.list.now (grind (arith, nat_tests)) c.requires.0

pub returns : goal.returns
returns c =
    let a = c.args in
    let p = c.requires in
    all_drawn a.size a.skip a.digits.now a.list.now c.pack_fixed.new.list c.draw_all.new.list c.unpack.new.list p.0 p.3 p.4 c.pack_fixed.ensures c.draw_all.ensures.1 c.unpack.ensures
