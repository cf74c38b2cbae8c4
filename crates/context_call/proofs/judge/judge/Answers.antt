use Rattle.std.proofs.Common.{rules, arith, ◌≡◌, ◌∙◌, ap, sym, ℕ, List, Err}
use lib.Seq.{take_all}
use Rattle.refusal.specs.Answer.{Answer, answered_by, answered}
use Rattle.context_thresholds.specs.Thresholds.{pad}
use Rattle.context_record.specs.Record.{record_of}
use Rattle.context_call.specs.Call.{Outcome, accepted, refused}
use Rattle.context_call.specs.laws.Parts.{kept_same, refused_is}
use Rattle.context_call.specs.laws.CallLaws.{judged_passed}
use Rattle.context_call.proofs.judge.judge.Goals as goal

pub returns-in_err-check : goal.returns-in_err-check
returns-in_err-check c =
    let a = c.args in
    let all = record_of a.num_clusters a.lengths a.lf_thresholds a.qf_thresholds (pad 2496 a.map.now) in
    let f : c.from_residual.result ≡ Err c.in_err-check.field-0.0 = search rules in
    let e = sym (ap answered c.in_err-check.was) ∙ c.check.ensures in
    refused_is a.lf.now a.qf.now a.out.now c.from_residual.result c.in_err-check.field-0.0 f
    ∙ kept_same a.lf.now a.qf.now a.out.now _ _ (ap (λ (x : Answer Unit). answered_by x refused (λ (u : Unit). accepted a.at all)) e)

pub returns : goal.returns
returns c =
    let a = c.args in
    let made : List ℕ → Outcome = λ (m : List ℕ). accepted a.at (record_of a.num_clusters a.lengths a.lf_thresholds a.qf_thresholds m) in
    let e = sym (ap answered c.in_ok-check.was) ∙ c.check.ensures in
    let p = judged_passed a.num_clusters a.map.now a.lengths tt (sym e) in
    ap made c.fill.ensures
    ∙ ap (λ (m : List ℕ). made (pad 2496 m)) (take_all 2496 a.map.now (omega (arith, p.0, p.1)))
    ∙ kept_same a.lf.now a.qf.now a.out.now (made (pad 2496 a.map.now)) _ (ap (λ (x : Answer Unit). answered_by x refused (λ (u : Unit). made (pad 2496 a.map.now))) e)
