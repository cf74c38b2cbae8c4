use Rattle.recorded_lists.specs.laws.ListsLaws.{room}
use borrow.Author.Tests.{lt-leb}
use native.Mathlib.Omega.{arith}
use Prim.Native.Nat.{◌+◌}
use Rattle.recorded_lists.proofs.list.has_room.Goals as goal

pub returns-then-most-size : goal.returns-then-most-size
returns-then-most-size c =
    let a = c.args in rw (lt-leb (a.at + 2 + a.n) a.most (omega arith))

pub returns : goal.returns
returns c =
    let a = c.args in room a.at a.n a.most (omega arith)
