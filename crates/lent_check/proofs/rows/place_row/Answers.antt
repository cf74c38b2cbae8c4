use mathlib.Core.Path.{◌≡◌, ◌∙◌, sym}
use Prim.Native.Nat.{◌≤◌, ◌<◌, ◌+◌, ◌*◌}
use native.Mathlib.Nat.{mul-le-mul}
use lib.Arith.{digits_lt}
use lib.ListN.{length, take, get_or}
use Rattle.std.proofs.Common.{get_or-take}
use Rattle.std.proofs.Math.Seq.{length-take-le}
use native.Mathlib.Omega.{arith}
use Rattle.layout.specs.Grid.{block_at}
use Rattle.lent_check.specs.laws.Steps.{place_cell}
use Rattle.lent_check.specs.laws.Listing.{flag_at, flagged_flags, listed_row, Listed, looked, x_below, place_start, place_next, place_stop, place_end}
use Rattle.lent_check.specs.laws.Rows.{told_good, told_bad}
use Rattle.lent_check.proofs.rows.place_row.Goals.{After-list_row-n, After-from-x}
use Rattle.lent_check.proofs.rows.place_row.Goals as goal

pub overflow_mul-start : goal.overflow_mul-start
overflow_mul-start c =
    let a = c.args in
    let p = c.requires in
    let h : a.y ≤ 256 = omega arith in
    let m : a.y * a.bw ≤ 256 * 256 = mul-le-mul h p.0 in
    omega arith

pub flag_row-requires : goal.flag_row-requires
flag_row-requires c =
    let a = c.args in
    let p = c.requires in
    let h : a.y + 1 ≤ a.bh = omega arith in
    let w : a.bw ≤ a.bw = omega arith in
    let m : (a.y + 1) * a.bw ≤ a.bh * a.bw = mul-le-mul h w in
    (omega arith, omega arith, omega arith, omega arith)

pub list_row-n-requires : goal.list_row-n-requires
list_row-n-requires c =
    let a = c.args in
    (omega arith, omega arith, flagged_flags (block_at a.kinds.now a.bw) a.y a.bw c.flag_row.new.flags c.flag_row.ensures)

-- the list holds the row's columns that are looked at
listed : (c : After-list_row-n) → let a = c.args in Listed (looked (flag_at (block_at a.kinds.now a.bw) a.y) a.bw 0) c.list_row-n.result c.list_row-n.new.list
listed c =
    let a = c.args in
    listed_row (block_at a.kinds.now a.bw) a.y a.bw c.list_row-n.result c.flag_row.new.flags c.list_row-n.new.list c.flag_row.ensures c.list_row-n.ensures

taken : (c : After-list_row-n) → length (take c.list_row-n.result c.list_row-n.new.list) ≡ c.list_row-n.result
taken c = length-take-le c.list_row-n.result c.list_row-n.new.list (let r = c.list_row-n.ensures.room in omega (arith, c.list_row-n.array_long))

pub loop-listed-init : goal.loop-listed-init
loop-listed-init c = let a = c.args in place_start a.bw a.bh (block_at a.kinds.now a.bw) a.y a.depth.now

pub slice_bounds-listed-items-end : goal.slice_bounds-listed-items-end
slice_bounds-listed-items-end c = sym (taken (goal.at.slice_bounds-listed-items-end c).After-list_row-n)

inside : (c : After-from-x) → c.loop-listed.listed-index < c.list_row-n.result
inside c = omega (arith, taken (goal.at.After-from-x c).After-list_row-n)

at : (c : After-from-x) → c.from-x.result ≡ get_or c.list_row-n.new.list c.loop-listed.listed-index 0
at c = c.from-x.ensures ∙ get_or-take c.list_row-n.result c.list_row-n.new.list c.loop-listed.listed-index 0 (inside c)

below : (c : After-from-x) → c.from-x.result < c.args.bw
below c =
    let a = c.args in
    let b = x_below (flag_at (block_at a.kinds.now a.bw) a.y) a.bw c.loop-listed.listed-index c.list_row-n.result c.list_row-n.new.list (listed (goal.at.After-from-x c).After-list_row-n) (inside c) in
    omega (arith, at c)

pub overflow_add-kind : goal.overflow_add-kind
overflow_add-kind c =
    let a = c.args in
    let d = digits_lt {q = a.y} {m = a.bh} {r = c.from-x.result} {c = a.bw} (omega arith) (below (goal.at.overflow_add-kind c).After-from-x) in
    omega arith

pub bounds-kinds-start : goal.bounds-kinds-start
bounds-kinds-start c =
    let a = c.args in
    let d = digits_lt {q = a.y} {m = a.bh} {r = c.from-x.result} {c = a.bw} (omega arith) (below (goal.at.bounds-kinds-start c).After-from-x) in
    omega arith

pub place_cell-requires : goal.place_cell-requires
place_cell-requires c =
    let a = c.args in
    let p = c.requires in
    let b = below (goal.at.place_cell-requires c).After-from-x in
    let d = digits_lt {q = a.y} {m = a.bh} {r = c.from-x.result} {c = a.bw} (omega arith) b in
    (b, omega arith, omega arith, omega arith)

pub returns-then-not-place_cell : goal.returns-then-not-place_cell
returns-then-not-place_cell c =
    let a = c.args in
    let l = c.loop-listed in
    let r = listed (goal.at.returns-then-not-place_cell c).After-list_row-n in
    let v = (goal.at.returns-then-not-place_cell c).After-from-x in
    let i = inside v in
    let x = c.from-x.result in
    let k = block_at a.kinds.now a.bw in
    sym (l.invariant ∙ place_stop a.bw a.bh k a.y l.listed-index (looked (flag_at k a.y) a.bw 0) x l.depth (omega (arith, r.count, i)) (at v ∙ r.same l.listed-index i) (told_bad c.place_cell.result c.place_cell.new.depth (place_cell a.bw a.bh (k x a.y) x a.y l.depth) c.place_cell.ensures (c.if-not-place_cell.true)))

pub loop-listed-preserved : goal.loop-listed-preserved
loop-listed-preserved c =
    let a = c.args in
    let l = c.loop-listed in
    let r = listed (goal.at.loop-listed-preserved c).After-list_row-n in
    let v = (goal.at.loop-listed-preserved c).After-from-x in
    let i = inside v in
    let x = c.from-x.result in
    let k = block_at a.kinds.now a.bw in
    l.invariant ∙ place_next a.bw a.bh k a.y l.listed-index (looked (flag_at k a.y) a.bw 0) x l.depth (omega (arith, r.count, i)) (at v ∙ r.same l.listed-index i) c.place_cell.new.depth (told_good c.place_cell.result c.place_cell.new.depth (place_cell a.bw a.bh (k x a.y) x a.y l.depth) c.place_cell.ensures (c.if-not-place_cell.false))

pub returns : goal.returns
returns c =
    let a = c.args in
    let l = c.loop-listed in
    sym (l.invariant ∙ place_end a.bw a.bh (block_at a.kinds.now a.bw) a.y l.listed-index (looked (flag_at (block_at a.kinds.now a.bw) a.y) a.bw 0) l.depth (omega (arith, (listed (goal.at.returns c).After-list_row-n).count, taken (goal.at.returns c).After-list_row-n)))
