use native.Mathlib.Omega.{arith}
use Prim.Native.Nat.{◌*◌}
use Rattle.coeff_group.proofs.laws.WorkLaws.{part_ends, part_cut}
use Rattle.coeff_call.proofs.preset_map_of.Goals as goal

pub overflow_mul-a : goal.overflow_mul-a
overflow_mul-a c = omega (arith, part_ends c.args.clusters c.args.preset c.requires.0 c.requires.1)

pub overflow_add-e : goal.overflow_add-e
overflow_add-e c = omega (arith, part_ends c.args.clusters c.args.preset c.requires.0 c.requires.1)

pub slice_bounds-result-end : goal.slice_bounds-result-end
slice_bounds-result-end c = c.requires.2

pub returns : goal.returns
returns c = part_cut c.args.cluster_map.now (495 * c.args.clusters) c.args.preset
