-- What is still to be put, from a block on.
use Rattle.std.proofs.Common.{◌≡◌, ◌≤◌, length}
use Rattle.lister.specs.laws.Lines.{lines_left, Continues}
use Rattle.lister.proofs.lines.put_varblocks.Given as goal

abbrev pub invariant-loop-x : goal.invariant-loop-x
invariant-loop-x l = (l.to ≤ length l.out) × (length l.out ≡ length l.initial.out) × Continues l.initial.out l.initial.to (lines_left l.bw l.kinds l.hf_mul l.bh 0 l.y) l.out l.to (lines_left l.bw l.kinds l.hf_mul l.bh l.x l.y)

abbrev pub invariant-loop-y : goal.invariant-loop-y
invariant-loop-y l = (l.to ≤ length l.out) × (length l.out ≡ length l.initial.out) × Continues l.initial.out l.initial.to (lines_left l.bw l.kinds l.hf_mul l.bh 0 0) l.out l.to (lines_left l.bw l.kinds l.hf_mul l.bh 0 l.y)
