use Rattle.c_groups.specs.laws.Record.{like_handed}
use Rattle.c_groups.proofs.netbuff_alike.Goals as goal

pub returns-in-Ok : goal.returns-in-Ok
returns-in-Ok c = like_handed _ c.alike-answer.result _ _ c.alike-answer.ensures (rw c.in-Ok.is)

pub returns-in-Err : goal.returns-in-Err
returns-in-Err c = like_handed _ c.alike-answer.result _ _ c.alike-answer.ensures (rw (c.in-Err.is, c.numbers-said.ensures))
