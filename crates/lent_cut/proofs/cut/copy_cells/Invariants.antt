use mathlib.Core.Path.{◌≡◌}
use mathlib.Core.List.{List}
use Prim.Native.Nat.{ℕ, ◌+◌, ◌*◌}
use lib.ListN.{length}
use Rattle.layout.specs.Grid.{block_at, grid_of}
use Rattle.layout.proofs.laws.Fill.{write}
use Rattle.layout.proofs.laws.Loops.{rows_left, cells_left}
use Rattle.lent_cut.proofs.cut.copy_cells.Given as goal

-- the cells to copy
abbrev pub from : List ℕ → ℕ → ℕ → ℕ → ℕ → ℕ → ℕ
from l bw first_x first_y x y = block_at l bw (first_x + x) (first_y + y)

abbrev pub invariant-loop-x : goal.invariant-loop-x
invariant-loop-x l =
    (length l.out_kinds ≡ l.group_bh * l.group_bw) × (length l.out_hf_mul ≡ l.group_bh * l.group_bw)
    × (grid_of (from l.kinds l.bw l.first_x l.first_y) l.group_bw l.group_bh ≡ cells_left (write (from l.kinds l.bw l.first_x l.first_y) l.group_bw l.group_bh) l.group_bw l.group_bh l.y l.x l.out_kinds)
    × (grid_of (from l.hf_mul l.bw l.first_x l.first_y) l.group_bw l.group_bh ≡ cells_left (write (from l.hf_mul l.bw l.first_x l.first_y) l.group_bw l.group_bh) l.group_bw l.group_bh l.y l.x l.out_hf_mul)

abbrev pub invariant-loop-y : goal.invariant-loop-y
invariant-loop-y l =
    (length l.out_kinds ≡ l.group_bh * l.group_bw) × (length l.out_hf_mul ≡ l.group_bh * l.group_bw)
    × (grid_of (from l.kinds l.bw l.first_x l.first_y) l.group_bw l.group_bh ≡ rows_left (write (from l.kinds l.bw l.first_x l.first_y) l.group_bw l.group_bh) l.group_bw l.group_bh l.y l.out_kinds)
    × (grid_of (from l.hf_mul l.bw l.first_x l.first_y) l.group_bw l.group_bh ≡ rows_left (write (from l.hf_mul l.bw l.first_x l.first_y) l.group_bw l.group_bh) l.group_bw l.group_bh l.y l.out_hf_mul)
