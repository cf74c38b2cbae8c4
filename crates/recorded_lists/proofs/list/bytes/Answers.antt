use Rattle.recorded_lists.specs.Lists.{part, byte_span_of}
use mathlib.Core.Path.{◌∙◌, ap}
use lib.ListN.{length}
use Rattle.recorded_lists.proofs.list.bytes.Goals as goal

pub returns : goal.returns
returns c =
    let a = c.args in
    ap (part a.body.now) (c.byte_span-span.ensures.value ∙ ap (λ p. byte_span_of a.words.now p (length a.body.now)) c.place-at.ensures)
