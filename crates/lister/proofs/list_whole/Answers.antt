use Rattle.lister.specs.laws.Longest.{text_whole}
use native.Mathlib.Omega.{arith}
use Rattle.lister.proofs.list_whole.Goals as goal

pub returns : goal.returns
returns c =
    let a = c.args in
    text_whole a.job.now a.out.now c.list.new.out c.list.result (omega arith) c.list.ensures
