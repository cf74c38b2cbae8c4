use Rattle.lister.specs.laws.ListSteps.{few_wide, few_high, few_blocks, cleared}
use Rattle.layout_sizes.specs.declared.Blocks.{Blocks}
use lib.Seq.{length-take-le}
use native.Mathlib.Omega.{arith}
use mathlib.Core.Path.{◌≡◌, ◌∙◌, refl, ap, sym}
use mathlib.Core.List.{List}
use Prim.Native.Nat.{ℕ, ◌≤◌, ◌*◌}
use lib.ListN.{length, take, replicate, length-replicate}
use Rattle.lister.proofs.list_columns.Goals.{After-blocks_of-blocks}
use Rattle.lister.proofs.list_columns.Goals as goal

-- The job's grid is at most 64 blocks wide and high, so the 4,096 elements of each buffer are enough.
wide : (c : After-blocks_of-blocks) → c.blocks_of-blocks.result.bw ≤ 64
wide c = omega (arith, ap (λ (s : Blocks). s.bw) c.blocks_of-blocks.ensures, few_wide c.args.width c.requires.0)

high : (c : After-blocks_of-blocks) → c.blocks_of-blocks.result.bh ≤ 64
high c = omega (arith, ap (λ (s : Blocks). s.bh) c.blocks_of-blocks.ensures, few_high c.args.height c.requires.1)

few : (c : After-blocks_of-blocks) → c.blocks_of-blocks.result.bh * c.blocks_of-blocks.result.bw ≤ 4096
few c = few_blocks c.blocks_of-blocks.result.bw c.blocks_of-blocks.result.bh (wide c) (high c)

fits : (c : After-blocks_of-blocks) (buffer : List ℕ) → buffer ≡ replicate 4096 0 → c.blocks_of-blocks.result.bh * c.blocks_of-blocks.result.bw ≤ length buffer
fits c buffer e = omega (arith, few c, ap length e ∙ length-replicate {A = ℕ} 4096 0)

as_long : (c : After-blocks_of-blocks) (buffer : List ℕ) → buffer ≡ replicate 4096 0
    → c.blocks_of-blocks.result.bh * c.blocks_of-blocks.result.bw ≡ length (take (c.blocks_of-blocks.result.bh * c.blocks_of-blocks.result.bw) buffer)
as_long c buffer e = sym (length-take-le (c.blocks_of-blocks.result.bh * c.blocks_of-blocks.result.bw) buffer (fits c buffer e))

pub overflow_mul-n : goal.overflow_mul-n
overflow_mul-n c = omega (arith, few (goal.at.overflow_mul-n c).After-blocks_of-blocks)

pub slice_bounds-list_layout-end : goal.slice_bounds-list_layout-end
slice_bounds-list_layout-end c = as_long (goal.at.slice_bounds-list_layout-end c).After-blocks_of-blocks _ refl

pub slice_bounds-list_layout-end-2 : goal.slice_bounds-list_layout-end-2
slice_bounds-list_layout-end-2 c = as_long (goal.at.slice_bounds-list_layout-end-2 c).After-blocks_of-blocks _ refl

pub slice_bounds-list_layout-end-3 : goal.slice_bounds-list_layout-end-3
slice_bounds-list_layout-end-3 c = as_long (goal.at.slice_bounds-list_layout-end-3 c).After-blocks_of-blocks _ refl

pub slice_bounds-list_layout-end-4 : goal.slice_bounds-list_layout-end-4
slice_bounds-list_layout-end-4 c = as_long (goal.at.slice_bounds-list_layout-end-4 c).After-blocks_of-blocks _ refl

pub slice_bounds-sharpness-end : goal.slice_bounds-sharpness-end
slice_bounds-sharpness-end c = few (goal.at.slice_bounds-sharpness-end c).After-blocks_of-blocks

pub slice_bounds-kinds-end : goal.slice_bounds-kinds-end
slice_bounds-kinds-end c = few (goal.at.slice_bounds-kinds-end c).After-blocks_of-blocks

pub slice_bounds-hf_mul-end : goal.slice_bounds-hf_mul-end
slice_bounds-hf_mul-end c = few (goal.at.slice_bounds-hf_mul-end c).After-blocks_of-blocks

pub slice_bounds-sigma-end : goal.slice_bounds-sigma-end
slice_bounds-sigma-end c = few (goal.at.slice_bounds-sigma-end c).After-blocks_of-blocks

pub list_layout-requires : goal.list_layout-requires
list_layout-requires c =
    let a = c.args in
    let h = c.requires in
    let n = c.blocks_of-blocks.result.bh * c.blocks_of-blocks.result.bw in
    (ap (λ (z : Blocks). z.bw) c.blocks_of-blocks.ensures, ap (λ (z : Blocks). z.bh) c.blocks_of-blocks.ensures, wide (goal.at.list_layout-requires c).After-blocks_of-blocks, high (goal.at.list_layout-requires c).After-blocks_of-blocks, cleared 0 _ n n refl (few (goal.at.list_layout-requires c).After-blocks_of-blocks) refl, cleared 0 _ n n refl (few (goal.at.list_layout-requires c).After-blocks_of-blocks) refl, cleared 0 _ n n refl (few (goal.at.list_layout-requires c).After-blocks_of-blocks) refl, cleared 0 _ n n refl (few (goal.at.list_layout-requires c).After-blocks_of-blocks) refl)
