use Rattle.std.proofs.Common.{ap, not}
use Rattle.recorded_lists.specs.laws.ListsLaws.{in_room, no_room}
use borrow.Author.Tests.{lt-leb, le-leb, leb-false}
use native.Mathlib.Omega.{arith}
use mathlib.Core.Path.{refl}
use Prim.Native.Nat.{◌+◌, ◌*◌, ◌/◌, ◌≤◌}
use lib.ListN.{get_or}
use Rattle.recorded_lists.proofs.list.byte_span.Goals.{Else-not-has_room}
use Rattle.recorded_lists.proofs.list.byte_span.Goals as goal

pub returns-then-not-has_room : goal.returns-then-not-has_room
returns-then-not-has_room c =
    let a = c.args in
    let f = c.has_room in
    let l = leb-false (a.at + 2 + 0) (a.bytes / 4) (no_room f.result a.at 0 0 (a.bytes / 4) f.ensures refl (ap not c.if-not-has_room.true)) in
    record { value = rw (lt-leb (4 * (a.at + 2) + get_or a.words.now (a.at + 1) 0) a.bytes (omega (arith, l))); start_le_end = (omega arith, omega arith) }

-- the head ends in the bytes
head : (c : Else-not-has_room) → 4 * (c.args.at + 2) ≤ c.args.bytes
head c =
    let a = c.args in
    let f = c.has_room in
    let l = in_room f.result a.at 0 0 (a.bytes / 4) f.ensures refl (ap not c.if-not-has_room.false) in
    omega (arith, l)

pub overflow_add-start : goal.overflow_add-start
overflow_add-start c = omega (arith, head (goal.at.overflow_add-start c).Else-not-has_room)

pub overflow_mul-start : goal.overflow_mul-start
overflow_mul-start c = omega (arith, head (goal.at.overflow_mul-start c).Else-not-has_room)

pub overflow_sub-bytes : goal.overflow_sub-bytes
overflow_sub-bytes c = omega (arith, head (goal.at.overflow_sub-bytes c).Else-not-has_room)

pub returns-then-bytes-start : goal.returns-then-bytes-start
returns-then-bytes-start c =
    let a = c.args in
    let n = get_or a.words.now (a.at + 1) 0 in
    record { value = rw (lt-leb (4 * (a.at + 2) + n) a.bytes (omega (arith, head (goal.at.returns-then-bytes-start c).Else-not-has_room, c.second-count.ensures))); start_le_end = (omega arith, omega arith) }

pub overflow_add-result : goal.overflow_add-result
overflow_add-result c = omega (arith, head (goal.at.overflow_add-result c).Else-not-has_room)

pub returns : goal.returns
returns c =
    let a = c.args in
    let n = get_or a.words.now (a.at + 1) 0 in
    record { value = rw (c.second-count.ensures, le-leb (4 * (a.at + 2) + n) a.bytes (omega (arith, head (goal.at.returns c).Else-not-has_room, c.second-count.ensures))); start_le_end = (omega arith, omega (arith, head (goal.at.returns c).Else-not-has_room)) }
