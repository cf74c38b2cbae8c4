use Rattle.order_permutation.specs.laws.Drawing.{packed_fixed}
use Rattle.order_permutation.proofs.pack_fixed.Goals as goal

pub returns : goal.returns
returns c =
    let a = c.args in
    packed_fixed a.size a.skip a.list.now c.pack.new.list c.lay.new.list c.requires.2 c.pack.ensures.0 c.pack.ensures.1 c.lay.ensures
