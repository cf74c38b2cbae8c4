use mathlib.Core.Path.{◌∙◌}
use Rattle.layout.proofs.laws.CutLaws.{starts_x}
use Rattle.lent_sides.specs.laws.Limits.{in_limits_lem}
use Rattle.lent_cut.proofs.laws.CutSteps.{Ready, ready, copied}
use native.Mathlib.Omega.{arith}
use Rattle.lent_cut.proofs.cut.copy_group.Goals.{After-sides_of-group}
use Rattle.lent_cut.proofs.cut.copy_group.Goals as goal

pub group_x-gx-requires : goal.group_x-gx-requires
group_x-gx-requires c =
    let a = c.args in
    let p = c.requires in
    let s = in_limits_lem 256 a.bw a.bh p.sides in
    let l = starts_x a.bw a.bh a.index p.index in
    omega arith

pub group_y-gy-requires : goal.group_y-gy-requires
group_y-gy-requires c =
    let a = c.args in
    let p = c.requires in
    let s = in_limits_lem 256 a.bw a.bh p.sides in
    let l = starts_x a.bw a.bh a.index p.index in
    omega arith

placed : (c : After-sides_of-group) → let a = c.args in Ready a.bw a.bh a.kinds.now a.hf_mul.now a.index a.out_kinds.now a.out_hf_mul.now c.group_x-gx.result c.group_y-gy.result c.sides_of-group.result
placed c =
    let a = c.args in
    ready a.bw a.bh a.kinds.now a.hf_mul.now a.index a.out_kinds.now a.out_hf_mul.now c.group_x-gx.result c.group_y-gy.result c.sides_of-group.result c.requires c.group_x-gx.ensures c.group_y-gy.ensures c.sides_of-group.ensures

pub overflow_mul-gx : goal.overflow_mul-gx
overflow_mul-gx c = let s = in_limits_lem 256 c.args.bw c.args.bh c.requires.sides in omega (arith, (placed (goal.at.overflow_mul-gx c).After-sides_of-group).fits_x)

pub overflow_mul-gy : goal.overflow_mul-gy
overflow_mul-gy c = omega (arith, (placed (goal.at.overflow_mul-gy c).After-sides_of-group).fits_y)

pub copy_cells-requires : goal.copy_cells-requires
copy_cells-requires c = let r = placed (goal.at.copy_cells-requires c).After-sides_of-group in (r.fits_x, r.fits_y, r.fits, r.same, r.out_kinds_fit, r.out_hf_mul_fit)

pub returns : goal.returns
returns c =
    let a = c.args in
    let k = c.copy_cells.ensures.0 ∙ copied a.bw a.bh a.index a.kinds.now c.group_x-gx.result c.group_y-gy.result c.sides_of-group.result c.group_x-gx.ensures c.group_y-gy.ensures c.sides_of-group.ensures in
    let m = c.copy_cells.ensures.1 ∙ copied a.bw a.bh a.index a.hf_mul.now c.group_x-gx.result c.group_y-gy.result c.sides_of-group.result c.group_x-gx.ensures c.group_y-gy.ensures c.sides_of-group.ensures in
    rw (k, m, c.sides_of-group.ensures)
