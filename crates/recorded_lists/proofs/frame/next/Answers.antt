use Rattle.std.proofs.Common.{ap, not}
use Rattle.recorded_lists.specs.Frames.{frame_of}
use Rattle.recorded_lists.specs.laws.ListsLaws.{in_room, no_room}
use borrow.Author.Tests.{le-leb, eq-eqb, ne_eqb}
use borrow.Author.Rules.{rules}
use native.Mathlib.Omega.{arith}
use Prim.Native.Nat.{◌+◌, ◌≤◌, ◌<◌}
use lib.ListN.{length, get_or}
use Rattle.recorded_lists.proofs.frame.next.Goals.{Else-not-has_room}
use Rattle.recorded_lists.proofs.frame.next.Goals as goal

pub returns-then-at-words-clause-value : goal.returns-then-at-words-clause-value
unfolding frame_of
returns-then-at-words-clause-value c = let a = c.args in rw (eq-eqb a.at (length a.words.now) c.if-at-words.true)

pub returns-then-not-has_room-clause-value : goal.returns-then-not-has_room-clause-value
unfolding frame_of
returns-then-not-has_room-clause-value c =
    let a = c.args in
    let w = a.words.now in
    let f = c.has_room in
    let n = c.second-size in
    rw (ne_eqb a.at (length w) c.if-at-words.false, no_room f.result a.at n.result (get_or w (a.at + 1) 0) (length w) f.ensures n.ensures (ap not c.if-not-has_room.true))

-- the record ends in the list
ends : (c : Else-not-has_room) → c.args.at + 2 + get_or c.args.words.now (c.args.at + 1) 0 ≤ length c.args.words.now
ends c =
    let a = c.args in
    let w = a.words.now in
    let f = c.has_room in
    let n = c.second-size in
    in_room f.result a.at n.result (get_or w (a.at + 1) 0) (length w) f.ensures n.ensures (ap not c.if-not-has_room.false)

pub overflow_add-start : goal.overflow_add-start
overflow_add-start c = omega (arith, ends c)

pub offset_bounds-words-at : goal.offset_bounds-words-at
offset_bounds-words-at c =
    let a = c.args in
    let l : a.at < length a.words.now = omega (arith, ends c) in
    search rules

pub bounds-words-at : goal.bounds-words-at
bounds-words-at c = omega (arith, ends (goal.at.bounds-words-at c).Else-not-has_room)

pub overflow_add-end : goal.overflow_add-end
overflow_add-end c = omega (arith, ends (goal.at.overflow_add-end c).Else-not-has_room, c.second-size.ensures)

pub returns-clause-value : goal.returns-clause-value
unfolding frame_of
returns-clause-value c =
    let a = c.args in
    let w = a.words.now in
    rw (
      c.second-size.ensures,
      ne_eqb a.at (length w) c.if-at-words.false,
      le-leb (a.at + 2 + get_or w (a.at + 1) 0) (length w) (ends (goal.at.returns-clause-value c).Else-not-has_room),
    )
