use Rattle.bits.specs.Reads.{bits_before}
use Rattle.context_thresholds.specs.laws.Steps.{thresholds_of}
use Rattle.context_thresholds.specs.laws.Halfway.{list_begins, list_length}
use Rattle.std.proofs.Common.{sym, ap, ◌∙◌}
use Rattle.context_thresholds.proofs.read_list.Goals as goal

pub read_values-requires : goal.read_values-requires
read_values-requires g c =
    let a = c.args in
    list_length a.bytes.now (g.T.Threshold.reading a.bytes.now) (bits_before a.p) c.in_ok-n.n c.in_ok-n.next
    (λ i. (c.type_inv.bytes i).fits) (sym c.read_bits.ensures ∙ c.in_ok-n.was)

pub returns : goal.returns
returns g c =
    let a = c.args in
    c.read_values.ensures
    ∙ ap (thresholds_of (bits_before a.p)) (sym (list_begins a.bytes.now (g.T.Threshold.reading a.bytes.now) (bits_before a.p) c.in_ok-n.n c.in_ok-n.next (sym c.read_bits.ensures ∙ c.in_ok-n.was)))
