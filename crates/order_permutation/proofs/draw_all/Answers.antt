use mathlib.Core.Path.{◌∙◌}
use Rattle.order_permutation.specs.laws.Drawing.{drawn_all}
use Rattle.order_permutation.proofs.draw_all.Goals as goal

pub returns : goal.returns
returns c =
    let a = c.args in
    (c.lay_rest.ensures.0 ∙ c.draw-count.ensures.long, drawn_all c.span_of-span.result a.size a.skip a.digits.now a.list.now c.draw-count.result c.draw-count.new.list c.lay_rest.new.list c.draw-count.ensures c.lay_rest.ensures.1)
