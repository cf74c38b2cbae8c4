use mathlib.Core.Path.{◌≡◌, ◌∙◌, ap, sym}
use mathlib.Core.Bool.{true}
use Prim.Native.Nat.{◌≤◌, ◌+◌, ◌*◌}
use native.Mathlib.Nat.{mul-le-mul}
use native.Mathlib.Omega.{arith}
use Rattle.dct_select.specs.Transforms.{TRANSFORMS}
use Rattle.layout.specs.RowByRow.{along_row}
use Rattle.layout.specs.Grid.{block_at}
use Rattle.layout.specs.Check.{Until}
use Rattle.lent_sides.specs.laws.Sizes.{WIDES, HIGHS}
use Rattle.lent_check.specs.laws.Flaws.{is_sound, sound_cells, unsound}
use Rattle.lent_check.specs.laws.Steps.{place, close}
use Rattle.lent_check.specs.laws.Rows.{rows_start, rows_finish, row_next, row_stop, close_fault, told_good, told_bad}
use Rattle.lent_check.proofs.check.is_layout.Goals.{Else-not-cells_sound}
use Rattle.lent_check.proofs.check.is_layout.Goals as goal

pub cells_sound-requires : goal.cells_sound-requires
cells_sound-requires c =
    let a = c.args in
    let p = c.requires in
    let m : a.bh * a.bw ≤ 256 * 256 = mul-le-mul p.1 p.0 in
    (omega arith, omega arith)

pub returns-then-not-cells_sound : goal.returns-then-not-cells_sound
returns-then-not-cells_sound c =
    let a = c.args in
    let p = c.requires in
    sym (unsound a.bw a.bh a.kinds.now a.hf_mul.now p.2 p.3 (sym c.cells_sound.ensures ∙ c.if-not-cells_sound.true))

sound : (c : Else-not-cells_sound) → is_sound c.args.kinds.now c.args.hf_mul.now ≡ true
sound c = sym c.cells_sound.ensures ∙ c.if-not-cells_sound.false

pub loop-y-init : goal.loop-y-init
loop-y-init c = let a = c.args in (omega arith, rows_start a.kinds.now a.hf_mul.now a.bw a.bh (omega arith))

pub place_row-requires : goal.place_row-requires
unfolding WIDES HIGHS TRANSFORMS
place_row-requires c =
    let a = c.args in
    let p = c.requires in
    (omega arith, omega arith, omega arith, p.2)

pub returns-then-not-place_row : goal.returns-then-not-place_row
returns-then-not-place_row c =
    let a = c.args in
    let p = c.requires in
    let l = c.loop-y in
    let k = block_at a.kinds.now a.bw in
    let e = told_bad c.place_row.result c.place_row.new.depth (along_row (place a.bw a.bh k) a.bw 0 l.y (Until l.depth)) c.place_row.ensures (c.if-not-place_row.true) in
    sym (l.invariant.1 ∙ row_stop a.kinds.now a.hf_mul.now a.bw a.bh (sound_cells a.bw a.bh a.kinds.now a.hf_mul.now p.2 p.3 (sound (goal.at.returns-then-not-place_row c).Else-not-cells_sound)) l.y l.depth (omega arith) l.invariant.0 (sym (close_fault a.bw a.bh k l.y a.bw 0) ∙ ap (along_row (close k) a.bw 0 l.y) e))

pub close_row-requires : goal.close_row-requires
close_row-requires c =
    let a = c.args in
    let p = c.requires in
    let l = c.loop-y in
    let h : l.y + 1 ≤ a.bh = omega arith in
    let w : a.bw ≤ a.bw = omega arith in
    let m : (l.y + 1) * a.bw ≤ a.bh * a.bw = mul-le-mul h w in
    (omega arith, omega arith, omega arith)

pub returns-then-not-close_row : goal.returns-then-not-close_row
returns-then-not-close_row c =
    let a = c.args in
    let p = c.requires in
    let l = c.loop-y in
    let k = block_at a.kinds.now a.bw in
    let e = told_good c.place_row.result c.place_row.new.depth (along_row (place a.bw a.bh k) a.bw 0 l.y (Until l.depth)) c.place_row.ensures (c.if-not-place_row.false) in
    let f = told_bad c.close_row.result c.close_row.new.depth (along_row (close k) a.bw 0 l.y (Until c.place_row.new.depth)) c.close_row.ensures (c.if-not-close_row.true) in
    sym (l.invariant.1 ∙ row_stop a.kinds.now a.hf_mul.now a.bw a.bh (sound_cells a.bw a.bh a.kinds.now a.hf_mul.now p.2 p.3 (sound (goal.at.returns-then-not-close_row c).Else-not-cells_sound)) l.y l.depth (omega arith) l.invariant.0 (f ∙ ap (along_row (close k) a.bw 0 l.y) e))

pub loop-y-preserved : goal.loop-y-preserved
loop-y-preserved c =
    let a = c.args in
    let p = c.requires in
    let l = c.loop-y in
    let k = block_at a.kinds.now a.bw in
    let e = told_good c.place_row.result c.place_row.new.depth (along_row (place a.bw a.bh k) a.bw 0 l.y (Until l.depth)) c.place_row.ensures (c.if-not-place_row.false) in
    let f = told_good c.close_row.result c.close_row.new.depth (along_row (close k) a.bw 0 l.y (Until c.place_row.new.depth)) c.close_row.ensures (c.if-not-close_row.false) in
    let n = row_next a.kinds.now a.hf_mul.now a.bw a.bh (sound_cells a.bw a.bh a.kinds.now a.hf_mul.now p.2 p.3 (sound (goal.at.loop-y-preserved c).Else-not-cells_sound)) l.y l.depth (omega arith) l.invariant.0 c.close_row.new.depth (f ∙ ap (along_row (close k) a.bw 0 l.y) e) in
    (n.1, l.invariant.1 ∙ n.0)

pub returns : goal.returns
returns c =
    let a = c.args in
    let l = c.loop-y in
    sym (l.invariant.1 ∙ rows_finish a.kinds.now a.hf_mul.now a.bw a.bh l.y l.depth (omega arith))
