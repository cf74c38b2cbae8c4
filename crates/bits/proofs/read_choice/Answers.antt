use Rattle.bits.specs.Reads.{bits_before, got_end}
use Rattle.bits.specs.laws.Laws.{took_none, choice_end, choice_value}
use Rattle.std.proofs.Common.{◌≡◌, min, ap, sym, ◌∙◌, rules}
use Rattle.bits.proofs.read_choice.Goals as goal

pub returns-in_err-v : goal.returns-in_err-v
returns-in_err-v c =
    let a = c.args in
    let k = c.in_err-v.field-0.0.taken in
    let f : c.from_residual.result ≡ got_end k = search rules in
    let e = sym c.read_bits.ensures ∙ c.in_err-v.was in
    f ∙ ap got_end (took_none a.s.now (bits_before a.p) (min a.d.bits 32) k e) ∙ choice_end a.s.now (bits_before a.p) a.d (search rules) c.requires k e

pub returns : goal.returns
returns c =
    let a = c.args in
    choice_value a.s.now (bits_before a.p) a.d (search rules) c.requires c.in_ok-v.v c.in_ok-v.next _ (sym c.read_bits.ensures ∙ c.in_ok-v.was) (search rules)
