use mathlib.Core.List.{List}
use mathlib.Core.Path.{◌≡◌}
use Prim.Native.Nat.{ℕ}
use native.Mathlib.Nat.{mul-le-mul}
use Rattle.context_index.specs.Lists.{contexts_by}
use Rattle.context_index.specs.laws.Contexts.{block_contexts}
use Rattle.coeff_walk.specs.declared.shape.Shape.{Shape}
use Rattle.coeff_group.specs.declared.plan.Plan.{Plan}
use native.Mathlib.Omega.{arith}
use Rattle.coeff_call.proofs.plan.plan_of.Goals as goal

pub overflow_mul-i : goal.overflow_mul-i
overflow_mul-i c = let a = c.args in omega (arith, mul-le-mul {n₁ = a.y} {m₁ = a.group.bw} {n₂ = 32} {m₂ = 32} (omega arith) (omega arith))

pub overflow_add-i : goal.overflow_add-i
overflow_add-i c = let a = c.args in omega (arith, mul-le-mul {n₁ = a.y} {m₁ = a.group.bw} {n₂ = 32} {m₂ = 32} (omega arith) (omega arith))

-- The plan of equal parts, with contexts by order and numbers.
planned : (contexts : ℕ → ℕ → ℕ → ℕ → List ℕ) {s t : Shape} {o p q r u q' r' u' : ℕ} {b : List ℕ} → s ≡ t → o ≡ p → q ≡ q' → r ≡ r' → u ≡ u' → b ≡ contexts o q r u → ◌≡◌ {A = Plan} (record { shape = s; order = o; block_contexts = b }) (record { shape = t; order = p; block_contexts = contexts p q' r' u' })
planned contexts e f g h i j = rw (j, e, f, g, h, i)

pub returns : goal.returns
returns c =
    let a = c.args in
    planned (λ o q r u. block_contexts (contexts_by a.lengths a.lf_thresholds.now a.qf_thresholds.now a.block_ctx_map.now) o a.hf_mul a.lf_there q r u) c.shape_of-shape.ensures c.order_of-order.ensures c.number_at.ensures c.number_at-2.ensures c.number_at-3.ensures c.block_contexts-block_contexts.ensures
