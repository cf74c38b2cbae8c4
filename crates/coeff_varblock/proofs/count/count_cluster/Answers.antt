use borrow.Author.Rules.{rules}
use mathlib.Core.Path.{◌≡◌, ◌∙◌, ap}
use Prim.Native.Nat.{ℕ, ◌≤◌, ◌+◌, ◌*◌}
use lib.ListN.{get_or}
use native.Mathlib.Omega.{arith}
use native.Mathlib.Nat.{mul-le-mul}
use Rattle.coeff_walk.specs.Item.{predicted, count_index}
use Rattle.coeff_walk.proofs.laws.Counts.{index_small}
use Rattle.coeff_varblock.proofs.count.count_cluster.Goals as goal

pub overflow_mul-entry : goal.overflow_mul-entry
overflow_mul-entry c =
    let i : c.count_index.result ≤ 4294967295 = rw c.count_index.ensures (index_small c.predict-predicted.result c.predict-predicted.ensures.1) in
    let m : c.count_index.result * c.args.clusters ≤ 4294967295 * 16 = mul-le-mul i c.requires.2 in
    omega arith

pub overflow_add-entry : goal.overflow_add-entry
overflow_add-entry c =
    let i : c.count_index.result ≤ 4294967295 = rw c.count_index.ensures (index_small c.predict-predicted.result c.predict-predicted.ensures.1) in
    let m : c.count_index.result * c.args.clusters ≤ 4294967295 * 16 = mul-le-mul i c.requires.2 in
    omega arith

pub returns : goal.returns
returns c =
    let a = c.args in
    let e : c.count_index.result ≡ count_index (predicted a.row.now a.x a.y) = c.count_index.ensures ∙ ap count_index c.predict-predicted.ensures.0 in
    let r : c.unwrap_or.result ≡ get_or a.preset_map.now (a.block_context + c.count_index.result * a.clusters) 0 = search rules in
    r ∙ ap (λ (i : ℕ). get_or a.preset_map.now (a.block_context + i * a.clusters) 0) e
