use Rattle.std.proofs.Common.{rules, arith, ◌≡◌, ◌∙◌, sym, true, take, get_or}
use Rattle.std.specs.List.{list_all}
use Rattle.laws.specs.Tables.{every}
use Rattle.context_record.specs.Record.{qf_fit, fit, bsize_of}
use Rattle.context_record.specs.laws.Bounds.{short, short_each, is_fit, fit_short, fit_last, refuted, false_true}
use Rattle.context_record.specs.laws.Every.{every_is}
use Rattle.context_record.specs.laws.Laws.{capped}
use Rattle.context_record.proofs.fit.is_fit.Goals as goal

pub returns-then-not-all_short : goal.returns-then-not-all_short
returns-then-not-all_short c =
    let R = c.args.ctx in
    refuted (fit R) (λ e.
    let f : list_all short R.lengths ≡ true = fit_short R.num_block_clusters R.lengths R.qf_thresholds R.block_ctx_map (search rules) (is_fit R e) in
    cc (f, c.all_short.ensures, c.if-not-all_short.true))

pub returns-then-size-gt64 : goal.returns-then-size-gt64
returns-then-size-gt64 c =
    let R = c.args.ctx in
    refuted (fit R) (λ e. let f = is_fit R e in omega (arith, f.size, f.some, f.few, capped R.lengths f.short0 f.short1 f.short2 f.short3))

pub returns-then-all_qf : goal.returns-then-all_qf
returns-then-all_qf c =
    let R = c.args.ctx in
    let k = short_each R.lengths (sym c.all_short.ensures ∙ c.if-not-all_short.false) in
    let size : c.bsize-size.result ≡ bsize_of R.lengths = c.bsize-size.ensures ∙ capped R.lengths (k 0) (k 1) (k 2) (k 3) in
    let used = take (get_or R.lengths 3 0) R.qf_thresholds in
    rw (c.all_below.ensures, size)
    (sym
    (fit_last R.num_block_clusters R.lengths R.qf_thresholds R.block_ctx_map (k 0) (k 1) (k 2) (k 3) (omega arith) (omega arith) (omega arith)
    (every_is qf_fit used ∙ sym c.all_qf.ensures ∙ c.if-all_qf.true)))

pub returns-else-all_qf : goal.returns-else-all_qf
returns-else-all_qf c =
    let R = c.args.ctx in
    let used = take (get_or R.lengths 3 0) R.qf_thresholds in
    rw c.if-all_qf.false
    (refuted (fit R) (λ e. false_true (every qf_fit used) (every_is qf_fit used ∙ sym c.all_qf.ensures ∙ c.if-all_qf.false) (is_fit R e).values))
