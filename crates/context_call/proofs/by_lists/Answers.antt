use Rattle.std.proofs.Common.{rules, arith, ◌≡◌, ◌∙◌, ap, sym, Err}
use Rattle.bits.specs.Bits.{Bytes, Read}
use Rattle.bits.specs.Reads.{bits_before}
use Rattle.context_thresholds.specs.laws.Lists.{lf_near, qf_any}
use Rattle.context_thresholds.specs.Thresholds.{Lists, lf_value, qf_value, read_list, read_lists}
use Rattle.context_call.specs.Call.{judged_lists, or_ended}
use Rattle.context_call.specs.laws.Parts.{kept_same, refused_at}
use Rattle.context_call.specs.laws.CallLaws.{list_was, short_of, short0, short1, short2, short3, whole, behind_lf, judged_qf, judged_qf_lem, or_judged}
use Rattle.context_call.proofs.by_lists.Goals as goal

pub returns-in_err-lf0 : goal.returns-in_err-lf0
returns-in_err-lf0 c =
    let a = c.args in
    let s = a.bytes.now in
    let b : Bytes s = λ i. (c.type_inv.bytes i).fits in
    let why = c.in_err-lf0.field-0.0 in
    let w = short_of (read_list s (lf_value s) (bits_before a.p)) why (sym c.list_behind.ensures ∙ c.in_err-lf0.was) in
    let f : c.from_residual.result ≡ Err why = search rules in
    refused_at a.lf_thresholds.now a.qf_thresholds.now a.block_ctx_map.now c.from_residual.result why (read_lists s (bits_before a.p)) (judged_lists a.num_clusters a.map.now) w.0 f w.2
    (short0 s (bits_before a.p) w.0 w.1)

pub list_behind-requires-2 : goal.list_behind-requires-2
list_behind-requires-2 c =
    let a = c.args in
    let s = a.bytes.now in
    let b : Bytes s = λ i. (c.type_inv.bytes i).fits in
    let l = list_was s b (lf_value s) (lf_near s b) (bits_before a.p) c.in_ok-lf0.lf0 (sym c.list_behind.ensures ∙ c.in_ok-lf0.was) in
    omega (arith, l.near, c.requires)

pub returns-in_err-lf1 : goal.returns-in_err-lf1
returns-in_err-lf1 c =
    let a = c.args in
    let s = a.bytes.now in
    let b : Bytes s = λ i. (c.type_inv.bytes i).fits in
    let l = list_was s b (lf_value s) (lf_near s b) (bits_before a.p) c.in_ok-lf0.lf0 (sym c.list_behind.ensures ∙ c.in_ok-lf0.was) in
    let why = c.in_err-lf1.field-0.0 in
    let w = short_of (read_list s (lf_value s) (bits_before c.in_ok-lf0.lf0.next)) why (sym c.list_behind-2.ensures ∙ c.in_err-lf1.was) in
    let f : c.from_residual-in_err-lf1.result ≡ Err why = search rules in
    refused_at a.lf_thresholds.now a.qf_thresholds.now a.block_ctx_map.now c.from_residual-in_err-lf1.result why (read_lists s (bits_before a.p)) (judged_lists a.num_clusters a.map.now) w.0 f w.2
    (short1 s (bits_before a.p) l.vs _ l.is w.0 w.1)

pub list_behind-requires-3 : goal.list_behind-requires-3
list_behind-requires-3 c =
    let a = c.args in
    let s = a.bytes.now in
    let b : Bytes s = λ i. (c.type_inv.bytes i).fits in
    let l = list_was s b (lf_value s) (lf_near s b) (bits_before a.p) c.in_ok-lf0.lf0 (sym c.list_behind.ensures ∙ c.in_ok-lf0.was) in
    let m = list_was s b (lf_value s) (lf_near s b) (bits_before c.in_ok-lf0.lf0.next) c.in_ok-lf1.lf1 (sym c.list_behind-2.ensures ∙ c.in_ok-lf1.was) in
    omega (arith, l.near, m.near, c.requires)

pub returns-in_err-lf2 : goal.returns-in_err-lf2
returns-in_err-lf2 c =
    let a = c.args in
    let s = a.bytes.now in
    let b : Bytes s = λ i. (c.type_inv.bytes i).fits in
    let l = list_was s b (lf_value s) (lf_near s b) (bits_before a.p) c.in_ok-lf0.lf0 (sym c.list_behind.ensures ∙ c.in_ok-lf0.was) in
    let m = list_was s b (lf_value s) (lf_near s b) (bits_before c.in_ok-lf0.lf0.next) c.in_ok-lf1.lf1 (sym c.list_behind-2.ensures ∙ c.in_ok-lf1.was) in
    let why = c.in_err-lf2.field-0.0 in
    let w = short_of (read_list s (lf_value s) (bits_before c.in_ok-lf1.lf1.next)) why (sym c.list_behind-3.ensures ∙ c.in_err-lf2.was) in
    let f : c.from_residual-in_err-lf2.result ≡ Err why = search rules in
    refused_at a.lf_thresholds.now a.qf_thresholds.now a.block_ctx_map.now c.from_residual-in_err-lf2.result why (read_lists s (bits_before a.p)) (judged_lists a.num_clusters a.map.now) w.0 f w.2
    (short2 s (bits_before a.p) l.vs _ l.is m.vs _ m.is w.0 w.1)

pub list_behind-requires-4 : goal.list_behind-requires-4
list_behind-requires-4 c =
    let a = c.args in
    let s = a.bytes.now in
    let b : Bytes s = λ i. (c.type_inv.bytes i).fits in
    let l = list_was s b (lf_value s) (lf_near s b) (bits_before a.p) c.in_ok-lf0.lf0 (sym c.list_behind.ensures ∙ c.in_ok-lf0.was) in
    let m = list_was s b (lf_value s) (lf_near s b) (bits_before c.in_ok-lf0.lf0.next) c.in_ok-lf1.lf1 (sym c.list_behind-2.ensures ∙ c.in_ok-lf1.was) in
    let n = list_was s b (lf_value s) (lf_near s b) (bits_before c.in_ok-lf1.lf1.next) c.in_ok-lf2.lf2 (sym c.list_behind-3.ensures ∙ c.in_ok-lf2.was) in
    omega (arith, l.near, m.near, n.near, c.requires)

pub returns-in_err-qf : goal.returns-in_err-qf
returns-in_err-qf c =
    let a = c.args in
    let s = a.bytes.now in
    let b : Bytes s = λ i. (c.type_inv.bytes i).fits in
    let l = list_was s b (lf_value s) (lf_near s b) (bits_before a.p) c.in_ok-lf0.lf0 (sym c.list_behind.ensures ∙ c.in_ok-lf0.was) in
    let m = list_was s b (lf_value s) (lf_near s b) (bits_before c.in_ok-lf0.lf0.next) c.in_ok-lf1.lf1 (sym c.list_behind-2.ensures ∙ c.in_ok-lf1.was) in
    let n = list_was s b (lf_value s) (lf_near s b) (bits_before c.in_ok-lf1.lf1.next) c.in_ok-lf2.lf2 (sym c.list_behind-3.ensures ∙ c.in_ok-lf2.was) in
    let why = c.in_err-qf.field-0.0 in
    let w = short_of (read_list s (qf_value s) (bits_before c.in_ok-lf2.lf2.next)) why (sym c.list_behind-4.ensures ∙ c.in_err-qf.was) in
    let f : c.from_residual-in_err-qf.result ≡ Err why = search rules in
    refused_at a.lf_thresholds.now a.qf_thresholds.now a.block_ctx_map.now c.from_residual-in_err-qf.result why (read_lists s (bits_before a.p)) (judged_lists a.num_clusters a.map.now) w.0 f w.2
    (short3 s (bits_before a.p) l.vs _ l.is m.vs _ m.is n.vs _ n.is w.0 w.1)

pub judge-requires : goal.judge-requires
judge-requires c =
    let a = c.args in
    let s = a.bytes.now in
    let b : Bytes s = λ i. (c.type_inv.bytes i).fits in
    let l = list_was s b (lf_value s) (lf_near s b) (bits_before a.p) c.in_ok-lf0.lf0 (sym c.list_behind.ensures ∙ c.in_ok-lf0.was) in
    let m = list_was s b (lf_value s) (lf_near s b) (bits_before c.in_ok-lf0.lf0.next) c.in_ok-lf1.lf1 (sym c.list_behind-2.ensures ∙ c.in_ok-lf1.was) in
    let n = list_was s b (lf_value s) (lf_near s b) (bits_before c.in_ok-lf1.lf1.next) c.in_ok-lf2.lf2 (sym c.list_behind-3.ensures ∙ c.in_ok-lf2.was) in
    let q = list_was s b (qf_value s) (qf_any s b) (bits_before c.in_ok-lf2.lf2.next) c.in_ok-qf.qf (sym c.list_behind-4.ensures ∙ c.in_ok-qf.was) in
    (l.few, m.few, n.few, q.few)

pub returns : goal.returns
returns c =
    let a = c.args in
    let s = a.bytes.now in
    let b : Bytes s = λ i. (c.type_inv.bytes i).fits in
    let l = list_was s b (lf_value s) (lf_near s b) (bits_before a.p) c.in_ok-lf0.lf0 (sym c.list_behind.ensures ∙ c.in_ok-lf0.was) in
    let m = list_was s b (lf_value s) (lf_near s b) (bits_before c.in_ok-lf0.lf0.next) c.in_ok-lf1.lf1 (sym c.list_behind-2.ensures ∙ c.in_ok-lf1.was) in
    let n = list_was s b (lf_value s) (lf_near s b) (bits_before c.in_ok-lf1.lf1.next) c.in_ok-lf2.lf2 (sym c.list_behind-3.ensures ∙ c.in_ok-lf2.was) in
    let q = list_was s b (qf_value s) (qf_any s b) (bits_before c.in_ok-lf2.lf2.next) c.in_ok-qf.qf (sym c.list_behind-4.ensures ∙ c.in_ok-qf.was) in
    let at2 = bits_before c.in_ok-lf2.lf2.next in
    let at3 = bits_before c.in_ok-qf.qf.next in
    let n0 = c.in_ok-lf0.lf0.count in
    let n1 = c.in_ok-lf1.lf1.count in
    let n2 = c.in_ok-lf2.lf2.count in
    let lf = c.joined.result in
    let at : c.bits_read.result ≡ at3 = omega (arith, q.near, n.near, m.near, l.near, c.requires) in
    let last = read_list s (qf_value s) at2 in
    c.judge.ensures
    ∙ kept_same a.lf_thresholds.now a.qf_thresholds.now a.block_ctx_map.now _ _
    (judged_qf_lem a.num_clusters a.map.now q.vs c.in_ok-qf.qf.values lf n0 n1 n2 c.in_ok-qf.qf.count at3 c.bits_read.result q.count q.values at
    ∙ or_judged last (judged_qf a.num_clusters a.map.now n0 n1 n2 lf) q.vs at3 q.is
    ∙ behind_lf a.num_clusters a.map.now l.vs m.vs n.vs c.in_ok-lf0.lf0.values c.in_ok-lf1.lf1.values c.in_ok-lf2.lf2.values lf
    n0 n1 n2 l.count m.count n.count l.values m.values n.values c.joined.ensures last
    ∙ ap (λ (r : Read Lists). or_ended r (judged_lists a.num_clusters a.map.now)) (sym (whole s (bits_before a.p) l.vs _ l.is m.vs _ m.is n.vs at2 n.is)))
