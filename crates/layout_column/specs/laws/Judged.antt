-- A column by itself at a block: what it asks for, and one law for each way out of its checks.
use Rattle.std.specs.Prelude.{ℕ, ◌+◌, ◌%◌, ◌^◌, ◌<◌, ◌≤◌}
use Rattle.refusal.specs.declared.Said.{Said}
use Rattle.refusal.specs.Said.{said_at}
use Rattle.refusal.specs.Answer.{Answer, gives, refuses, answered_by}
use Rattle.dct_select.specs.Transforms.{wide, high}
use Rattle.layout_column.specs.declared.JudgedColumn.{JudgedColumn}
use Rattle.layout_column.specs.Columns.{column_checks}

abbrev pub judged_column : ℕ → ℕ → JudgedColumn
judged_column t h = record { kind = 2 + t; hf_mul = h; wide = wide t; high = high t }

-- what a column asks for at the block (x, y); refused, it is at that block
unfoldable pub judged_of : ℕ → ℕ → ℕ → ℕ → Answer JudgedColumn
judged_of t h x y = answered_by (column_checks t h x y) (λ (s : Said). refuses (said_at s.number x y)) (λ (u : Unit). gives (judged_column t h))

-- a column that passes the checks
pub record Fitting (t h x y : ℕ) : Type 0 where
  pub known : t < 27
  pub positive : 1 ≤ h
  pub signed : h < 2 ^ 31
  pub square_x : x % 32 + wide t ≤ 32
  pub square_y : y % 32 + high t ≤ 32
