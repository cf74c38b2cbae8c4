use Rattle.std.proofs.Common.{arith, ◌≡◌, ◌∙◌, ap, sym, ℕ, ◌+◌, Err}
use Rattle.refusal.specs.declared.Refusal.TheVariants.{BitsEnd}
use Rattle.bits.specs.Bits.{Bytes}
use Rattle.bits.specs.Reads.{bits_before}
use Rattle.context_call.specs.laws.CallLaws.{list_ended, list_of}
use Rattle.context_call.proofs.list_behind.Goals as goal

pub overflow_add-result : goal.overflow_add-result
overflow_add-result g c =
    let a = c.args in
    let s = a.bytes.now in
    let b : Bytes s = λ i. (c.type_inv.bytes i).fits in
    let w = list_ended s b (g.T.Threshold.reading s) (g.met.T.Threshold.near s b) (bits_before a.p) c.in-Err.end.taken (sym c.read_list.ensures ∙ c.in-Err.is) in
    omega (arith, w.near, c.requires)

pub returns-in-Err : goal.returns-in-Err
returns-in-Err g c =
    let a = c.args in
    let s = a.bytes.now in
    let b : Bytes s = λ i. (c.type_inv.bytes i).fits in
    let w = list_ended s b (g.T.Threshold.reading s) (g.met.T.Threshold.near s b) (bits_before a.p) c.in-Err.end.taken (sym c.read_list.ensures ∙ c.in-Err.is) in
    let at : c.bits_read.result + c.in-Err.end.taken ≡ bits_before a.p + c.in-Err.end.taken = omega (arith, c.requires) in
    ap (λ (n : ℕ). Err (BitsEnd n)) at ∙ sym (ap list_of w.is)
