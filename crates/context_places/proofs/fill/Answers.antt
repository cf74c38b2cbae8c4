use borrow.Author.Rules.{rules}
use native.Mathlib.Omega.{arith}
use mathlib.Core.Path.{◌∙◌, ap}
use lib.ListN.{length, length-take}
use Rattle.context_thresholds.specs.Thresholds.{pad}
use Rattle.context_places.proofs.fill.Goals as goal

pub lay-requires : goal.lay-requires
lay-requires c =
    let w = c.with_place.ensures in
    (omega (arith, ap length w, length-take 2496 c.args.map.now), search rules)

pub returns : goal.returns
returns c = c.lay.ensures ∙ ap (pad 2496) c.with_place.ensures
