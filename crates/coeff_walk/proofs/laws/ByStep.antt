-- A row of counts, rewritten block by block.
use Rattle.std.specs.Prelude.{◌≡◌, List, ℕ, suc, ◌+◌, ◌-◌, ◌<◌, set}
use Rattle.std.proofs.Common.{ap, ◌∙◌, arith}
use Rattle.laws.specs.Lists.{fill_from}

-- rewriting, step by step
pub row_start : (row : List ℕ) (x n v : ℕ) → fill_from row (x + 0) (n - 0) v ≡ fill_from row x n v
row_start row x n v = let e : x + 0 ≡ x = omega arith in let f : n - 0 ≡ n = omega arith in rw (e, f)

pub row_step : (row : List ℕ) (x n k v : ℕ) → k < n → fill_from row (x + k) (n - k) v ≡ fill_from (set row (x + k) v) (x + (k + 1)) (n - (k + 1)) v
unfolding fill_from
row_step row x n k v h =
    let e : n - k ≡ suc (n - (k + 1)) = omega arith in
    let f : x + k + 1 ≡ x + (k + 1) = omega arith in
    ap (λ (m : ℕ). fill_from row (x + k) m v) e ∙ ap (λ (p : ℕ). fill_from (set row (x + k) v) p (n - (k + 1)) v) f

pub row_end : (row : List ℕ) (x n k v : ℕ) → k ≡ n → fill_from row (x + k) (n - k) v ≡ row
unfolding fill_from
row_end row x n k v h = let e : n - k ≡ 0 = omega arith in rw e
