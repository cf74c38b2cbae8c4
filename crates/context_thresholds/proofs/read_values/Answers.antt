use Rattle.bits.specs.Reads.{bits_before}
use Rattle.bits.specs.laws.Laws.{was_value, was_end, at_before, before_at}
use Rattle.context_thresholds.specs.laws.Halfway.{half_start, half_step, half_short, half_done}
use Rattle.std.proofs.Common.{◌≡◌, ℕ, ◌-◌, Err, sym, ap, ◌∙◌, arith}
use Rattle.context_thresholds.proofs.read_values.Goals as goal

pub loop-k-init : goal.loop-k-init
loop-k-init g c =
    let a = c.args in
    half_start (g.T.Threshold.reading a.bytes.now) a.n (bits_before a.from) a.from (sym (at_before a.from (omega arith)))

pub loop-k-preserved : goal.loop-k-preserved
loop-k-preserved g c =
    let a = c.args in
    let l = c.loop-k in
    let h = l.invariant in
    let read = g.T.Threshold.reading a.bytes.now in
    let w = was_value (bits_before l.next) (read (bits_before l.next)) c.in-Ok.value c.in-Ok.behind (sym c.read.ensures ∙ c.in-Ok.is) in
    half_step read a.n (bits_before a.from) l.values l.next l.k h (omega arith) c.in-Ok.value w.at c.in-Ok.behind (omega arith)
    (λ v b e. let t = (g.met.T.Threshold.near a.bytes.now (λ i. (c.type_inv.bytes i).fits) h.at).value v b e in (t.2, t.1))
    (ap read (sym (ap bits_before h.place ∙ before_at h.at)) ∙ w.is)
    w.place

pub short_list-requires : goal.short_list-requires
short_list-requires g c =
    let a = c.args in
    let l = c.loop-k in
    let h = l.invariant in
    let e = was_end (bits_before l.next) (g.T.Threshold.reading a.bytes.now (bits_before l.next)) c.in-Err.short.taken (sym c.read.ensures ∙ c.in-Err.is) in
    let t : bits_before l.next ≡ h.at = ap bits_before h.place ∙ before_at h.at in
    let n = (g.met.T.Threshold.near a.bytes.now (λ i. (c.type_inv.bytes i).fits) (bits_before l.next)).end e.at e.is in
    (omega (arith, t, h.past), omega (arith, t, h.near), omega (arith, n.0, n.1, e.taken))

pub returns-in-Err : goal.returns-in-Err
returns-in-Err g c =
    let a = c.args in
    let l = c.loop-k in
    let h = l.invariant in
    let e = was_end (bits_before l.next) (g.T.Threshold.reading a.bytes.now (bits_before l.next)) c.in-Err.short.taken (sym c.read.ensures ∙ c.in-Err.is) in
    let read = g.T.Threshold.reading a.bytes.now in
    let t : bits_before l.next ≡ h.at = ap bits_before h.place ∙ before_at h.at in
    let n = (g.met.T.Threshold.near a.bytes.now (λ i. (c.type_inv.bytes i).fits) (bits_before l.next)).end e.at e.is in
    let taken : c.short_list.result.taken ≡ e.at - bits_before a.start = omega (arith, c.short_list.ensures, t, h.past, c.requires.2, n.0, e.taken) in
    ap (λ (k : ℕ). Err (record { taken = k })) taken
    ∙ half_short read a.n (bits_before a.from) l.values l.next l.k h (omega arith) (bits_before a.start) e.at (ap read (sym t) ∙ e.is)

pub returns : goal.returns
returns g c =
    let a = c.args in
    let l = c.loop-k in
    half_done (g.T.Threshold.reading a.bytes.now) a.n (bits_before a.from) (bits_before a.start) l.values l.next l.k l.invariant (omega arith)
