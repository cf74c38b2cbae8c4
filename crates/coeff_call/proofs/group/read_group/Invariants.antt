use mathlib.Core.Path.{◌≡◌}
use mathlib.Core.List.{[], ◌∷◌}
use Rattle.coeff_group.specs.Group.{Reading}
use Rattle.coeff_group.specs.PassGroup.{pass_group}
use Rattle.coeff_group.specs.laws.Due.{Due, row_from, rows_from, whole_of}
use Prim.Native.Nat.{◌*◌}
use lib.ListN.{length}
use Rattle.coeff_call.proofs.group.read_group.Given as goal

abbrev pub invariant-loop-x : goal.invariant-loop-x
invariant-loop-x l =
    let P = pass_group l.group l.kinds l.hf_mul l.contexts l.lf_there l.lf0 l.lf1 l.lf2 l.store in
    (length l.log ≡ length l.initial.log)
    × ((whole : Reading) → Due l.shift l.contexts.num_block_clusters l.preset_map P l.symbols (192 * (l.group.bw * l.group.bh)) whole (row_from P 0 l.y) l.initial.at l.initial.rows l.initial.log (l.initial.g0 ∷ l.initial.g1 ∷ l.initial.g2 ∷ [])
    → Due l.shift l.contexts.num_block_clusters l.preset_map P l.symbols (192 * (l.group.bw * l.group.bh)) whole (row_from P l.x l.y) l.at l.rows l.log (l.g0 ∷ l.g1 ∷ l.g2 ∷ []))

abbrev pub invariant-loop-y : goal.invariant-loop-y
invariant-loop-y l =
    let P = pass_group l.group l.kinds l.hf_mul l.contexts l.lf_there l.lf0 l.lf1 l.lf2 l.store in
    (length l.log ≡ length l.initial.log)
    × Due l.shift l.contexts.num_block_clusters l.preset_map P l.symbols (192 * (l.group.bw * l.group.bh)) (whole_of l.shift l.contexts.num_block_clusters l.preset_map P l.symbols l.initial.log (l.initial.g0 ∷ l.initial.g1 ∷ l.initial.g2 ∷ [])) (rows_from P l.y) l.at l.rows l.log (l.g0 ∷ l.g1 ∷ l.g2 ∷ [])
