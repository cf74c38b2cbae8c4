use Rattle.std.proofs.Common.{◌∙◌, ap, sym, Result}
use Rattle.refusal.specs.declared.Refusal.{Refusal}
use Rattle.context_call.specs.Parts.{with_lists}
use Rattle.context_call.specs.declared.ContextParts.{ContextParts}
use Rattle.context_call.specs.laws.Parts.{kept_zeros}
use Rattle.context_call.proofs.parse.Goals as goal

pub returns-in-Ok : goal.returns-in-Ok
returns-in-Ok c =
    let a = c.args in
    let n = c.parse_into-parts.new in
    ap (λ (r : Result ContextParts Refusal). with_lists r n.lf_thresholds n.qf_thresholds n.block_ctx_map) (sym c.in-Ok.is)
    ∙ c.parse_into-parts.ensures ∙ kept_zeros a.bytes.now a.num_clusters a.map.now

pub returns-in-Err : goal.returns-in-Err
returns-in-Err c =
    let a = c.args in
    let n = c.parse_into-parts.new in
    ap (λ (r : Result ContextParts Refusal). with_lists r n.lf_thresholds n.qf_thresholds n.block_ctx_map) (sym c.in-Err.is)
    ∙ c.parse_into-parts.ensures ∙ kept_zeros a.bytes.now a.num_clusters a.map.now
