-- Each record lies behind the one before.
use Rattle.std.proofs.Common.{◌-◌, length}
use Rattle.replay.proofs.walk.replay_call.Given as goal

abbrev pub decreases-loop-at : goal.decreases-loop-at
decreases-loop-at g l = length l.words - l.at
