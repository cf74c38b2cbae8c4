use Rattle.c_groups.specs.laws.Record.{cut_leaves}
use Rattle.c_groups.proofs.netbuff_cut.Goals as goal

pub returns-in-Ok : goal.returns-in-Ok
returns-in-Ok c = cut_leaves _ c.cut-answer.result _ _ _ _ c.cut-answer.ensures (rw c.in-Ok.is)

pub returns-in-Err : goal.returns-in-Err
returns-in-Err c = cut_leaves _ c.cut-answer.result _ _ _ _ c.cut-answer.ensures (rw (c.in-Err.is, c.numbers-said.ensures))
