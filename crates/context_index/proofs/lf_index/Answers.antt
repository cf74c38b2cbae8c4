use Rattle.context_index.proofs.laws.Laws.{digits_le, lf_index_is}
use Rattle.std.proofs.Common.{◌+◌, get_or, arith}
use Rattle.context_index.proofs.lf_index.Goals as goal

pub returns : goal.returns
returns c =
    let a = c.args in
    let t = a.lengths in
    let i0 = c.count_above-i0.result in
    let i2 = c.count_above-i2.result in
    let small = digits_le {a = i0} {b = i2} {s = c.capped-size2.result + 1} {t = c.capped-size1.result + 1} (omega arith) (omega arith) (omega arith) (omega arith) in (
      lf_index_is a.lf_thresholds.now (get_or t 0 0) (get_or t 1 0) (get_or t 2 0) a.q0 a.q1 a.q2 i0 c.count_above-i1.result i2
          c.capped-size1.result c.capped-size2.result (omega arith) c.count_above-i0.ensures.0 c.count_above-i1.ensures.0 c.count_above-i2.ensures.0 c.capped-size1.ensures c.capped-size2.ensures,
      omega (arith, small),
    )
