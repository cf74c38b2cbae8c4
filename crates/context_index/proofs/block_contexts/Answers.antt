use Rattle.std.proofs.Common.{◌+◌, get_or, sym, ◌∙◌, arith, length-take}
use Rattle.context_index.specs.Lists.{contexts_by}
use Rattle.context_index.proofs.laws.Laws.{lf_size_is, contexts_are}
use Rattle.context_index.proofs.block_contexts.Goals as goal

pub returns : goal.returns
returns c =
    let a = c.args in
    let C = contexts_by a.lengths a.lf_thresholds.now a.qf_thresholds.now a.block_ctx_map.now in
    let n = get_or a.lengths in
    let size = lf_size_is a.lf_thresholds.now (n 0 0) (n 1 0) (n 2 0) (omega arith) in
    contexts_are C a.order a.hf_mul a.lf_there a.q0 a.q1 a.q2
    (c.capped-qfs.result + 1) c.lf_size-lfs.result c.count_above-qf.result c.lf_index_of-lf.result
    c.block_context_at-y.result c.block_context_at-x.result c.block_context_at-b.result
    (omega (arith, length-take (n 3 0) a.qf_thresholds.now))
    (c.lf_size-lfs.ensures.0 ∙ sym size)
    c.count_above-qf.ensures.0
    c.lf_index_of-lf.ensures.0
    c.block_context_at-y.ensures
    c.block_context_at-x.ensures
    c.block_context_at-b.ensures
