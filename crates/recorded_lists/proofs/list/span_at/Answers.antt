use Rattle.std.proofs.Common.{ap, not}
use Rattle.recorded_lists.specs.laws.ListsLaws.{in_room, no_room}
use borrow.Author.Tests.{le-leb}
use native.Mathlib.Omega.{arith}
use Prim.Native.Nat.{◌+◌, ◌≤◌}
use lib.ListN.{length, get_or}
use Rattle.recorded_lists.proofs.list.span_at.Goals.{Else-not-has_room}
use Rattle.recorded_lists.proofs.list.span_at.Goals as goal

pub returns-then-not-has_room : goal.returns-then-not-has_room
returns-then-not-has_room c =
    let a = c.args in
    let w = a.words.now in
    let f = c.has_room in
    let n = c.second-count in
    record { value = rw (no_room f.result a.at n.result (get_or w (a.at + 1) 0) (length w) f.ensures n.ensures (ap not c.if-not-has_room.true)); start_le_end = (omega arith, omega arith) }

-- the list ends in the record
ends : (c : Else-not-has_room) → c.args.at + 2 + get_or c.args.words.now (c.args.at + 1) 0 ≤ length c.args.words.now
ends c =
    let a = c.args in
    let w = a.words.now in
    let f = c.has_room in
    let n = c.second-count in
    in_room f.result a.at n.result (get_or w (a.at + 1) 0) (length w) f.ensures n.ensures (ap not c.if-not-has_room.false)

pub overflow_add-start : goal.overflow_add-start
overflow_add-start c = omega (arith, ends c)

pub overflow_add-result : goal.overflow_add-result
overflow_add-result c = omega (arith, ends (goal.at.overflow_add-result c).Else-not-has_room, c.second-count.ensures)

pub returns : goal.returns
returns c =
    let a = c.args in
    let w = a.words.now in
    record { value = rw (c.second-count.ensures, le-leb (a.at + 2 + get_or w (a.at + 1) 0) (length w) (ends (goal.at.returns c).Else-not-has_room)); start_le_end = (omega arith, omega (arith, ends (goal.at.returns c).Else-not-has_room, c.second-count.ensures)) }
