-- A block visited: one law for each way out.
use Rattle.std.specs.Prelude.{◌≡◌, ℕ, ◌≤◌, ◌<◌, length, get_or, Result}
use Rattle.std.proofs.Common.{ap, ◌∙◌, arith}
use borrow.Author.Tests.{lt-ltb, le-ltb, eq-eqb, ne_eqb}
use Rattle.refusal.specs.declared.Refusal.{Refusal}
use Rattle.refusal.specs.declared.Said.{Said}
use Rattle.refusal.specs.Said as refusals
use Rattle.refusal.specs.Answer.{Answer, gives, refuses, answered, answered_by}
use Rattle.refusal.specs.laws.Answer.{answered_by_lem}
use Rattle.dct_select.specs.Transforms.{COUNT}
use Rattle.layout.specs.Grid.{block_at}
use Rattle.layout_column.specs.declared.JudgedColumn.{JudgedColumn}
use Rattle.layout_column.specs.Columns.{column_checks}
use Rattle.layout_column.specs.laws.Judged.{judged_column, judged_of}
use Rattle.layout_placing.specs.Reading.{Job, Placed, Placing, Going, Stopped, stop_at, place_in, next_type, next_hf_mul, column, visit}

module _ (J : Job) (x y : ℕ) (p : Placed) where
  abbrev pub by_asking : Answer JudgedColumn → Placing
  by_asking a =
      answered_by a (λ (s : Said). Stopped p.used s) (λ (v : JudgedColumn). place_in J v.kind v.hf_mul v.wide v.high x y p)

  abbrev pub by_judged : Result JudgedColumn Refusal → Placing
  by_judged j = by_asking (answered j)

  -- the next column's type is unknown, whatever its mul
  pub column_unknown : p.used < length J.types → COUNT ≤ get_or J.types p.used 0 → stop_at 5 x y p ≡ column J x y p
  unfolding column
  column_unknown l t = rw (lt-ltb p.used (length J.types) l, le-ltb (get_or J.types p.used 0) COUNT t)

  pub visit_taken : 0 < block_at p.kinds J.bw x y → Going p ≡ visit J x y (Going p)
  visit_taken h = rw (ne_eqb (block_at p.kinds J.bw x y) 0 (omega arith))

  module _ (free : block_at p.kinds J.bw x y ≤ 0) where
    is_free : block_at p.kinds J.bw x y ≡ 0
    is_free = omega arith

    pub visit_ends : length J.types ≤ p.used → stop_at 4 x y p ≡ visit J x y (Going p)
    unfolding column
    visit_ends l = rw (eq-eqb (block_at p.kinds J.bw x y) 0 is_free, le-ltb p.used (length J.types) l)

    pub visit_judged : (j : Result JudgedColumn Refusal) → p.used < length J.types → answered j ≡ judged_of (next_type J p) (next_hf_mul J p) x y → by_judged j ≡ visit J x y (Going p)
    unfolding column judged_of
    visit_judged j l e =
        rw (eq-eqb (block_at p.kinds J.bw x y) 0 is_free, lt-ltb p.used (length J.types) l)
        (ap by_asking e
        ∙ answered_by_lem by_asking (column_checks (next_type J p) (next_hf_mul J p) x y) (λ (s : Said). refuses (refusals.said_at s.number x y)) (λ (u : Unit). gives (judged_column (next_type J p) (next_hf_mul J p))))
