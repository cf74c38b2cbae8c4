use Rattle.recorded_lists.specs.Lists.{part, span_of}
use mathlib.Core.Path.{◌∙◌, ap}
use Rattle.recorded_lists.proofs.list.list.Goals as goal

pub returns : goal.returns
returns c =
    let w = c.args.words.now in
    ap (part w) (c.span_at-span.ensures.value ∙ ap (span_of w) c.place-at.ensures)
