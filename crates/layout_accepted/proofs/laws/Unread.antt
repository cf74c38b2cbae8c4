-- Filter off: sharpness unread (document 01, Layout and filter strength).
use Rattle.std.specs.Prelude.{◌≡◌, List, eqb, Float, length, None}
use Rattle.std.proofs.Math.Path.{refl, ap, fun_ext}
use Rattle.std.proofs.Math.Bool.{cond}
use Prim.Native.Nat.{ℕ, ◌+◌}
use Rattle.refusal.specs.declared.Said.{Said}
use Rattle.refusal.specs.Answer.{answered_by}
use Rattle.dct_select.specs.Transforms.{wide, high}
use Rattle.layout.specs.RowByRow.{row_by_row}
use Rattle.layout.specs.Grid.{block_at}
use Rattle.layout_filter.specs.declared.Filter.TheVariants.{Off}
use Rattle.layout_filter.specs.Strength.{scaled_by, divided_by}
use Rattle.layout_placing.specs.Scan.{Scan, Taking, Left, take_cell, scan}
use Rattle.layout_placing.specs.Reading.{Job, Placed, Placing, Going, Stopped, stop_at, placed, place, place_in, next_type, next_hf_mul, next_checks, column, visit, start, reading}
use Rattle.layout_call.specs.Call.{outcome_of, Inputs, job_of, layout_of}
use Rattle.layout_accepted.specs.Outcome.{with_sharpness}
use Rattle.layout_accepted.specs.laws.Unread.{SharpnessUnread}

module _ (bw bh : ℕ) (lookups : List Float) (s t : List ℕ) where
  cell_unread : (cx cy : ℕ) (p : Scan) → take_cell bw bh None lookups s cx cy p ≡ take_cell bw bh None lookups t cx cy p
  unfolding take_cell
  cell_unread cx cy (Taking k g) = refl
  cell_unread cx cy (Left n a b) = refl

  scan_unread : (x y w h : ℕ) (p : Scan) → scan bw bh None lookups s x y w h p ≡ scan bw bh None lookups t x y w h p
  unfolding scan
  scan_unread x y w h p = ap (λ (f : ℕ → ℕ → Scan → Scan). row_by_row f w h p) (fun_ext (λ dx. fun_ext (λ dy. fun_ext (λ q. cell_unread (x + dx) (y + dy) q))))

module _ (i : Inputs) (s : List ℕ) (off : i.filter ≡ Off) where
  abbrev J : Job
  J = job_of i

  abbrev J' : Job
  J' = job_of (with_sharpness i s)

  place_unread : (kind h w n x y : ℕ) (p : Placed) → place_in J' kind h w n x y p ≡ place_in J kind h w n x y p
  unfolding place scaled_by divided_by
  place_unread kind h w n x y p =
      rw off (ap (λ (q : Scan). placed J.bw kind h x y p q) (scan_unread J.bw J.bh i.lookups s i.sharpness x y w n (Taking p.kinds p.sigma)))

  visit_unread : (x y : ℕ) (r : Placing) → visit J' x y r ≡ visit J x y r
  unfolding column
  visit_unread x y (Stopped n r) = refl
  visit_unread x y (Going p) =
      ap (λ (r : Placing). cond (eqb (block_at p.kinds J.bw x y) 0) (answered_by (next_checks J x y p) (λ (s : Said). stop_at s.number x y p) (λ (u : Unit). r)) (Going p))
      (place_unread (2 + next_type J p) (next_hf_mul J p) (wide (next_type J p)) (high (next_type J p)) x y p)

  reading_unread : reading J' ≡ reading J
  unfolding reading
  reading_unread = ap (λ (f : ℕ → ℕ → Placing → Placing). row_by_row f J.bw J.bh (Going (start J))) (fun_ext (λ x. fun_ext (λ y. fun_ext (λ r. visit_unread x y r))))

  outcome_unread : (r : Placing) → outcome_of J' r ≡ outcome_of J r
  outcome_unread (Stopped n r) = refl
  outcome_unread (Going p) = refl

  unread : length s ≡ length i.sharpness → (kinds hf_mul sigma : List ℕ) → layout_of (with_sharpness i s) kinds hf_mul sigma ≡ layout_of i kinds hf_mul sigma
  unfolding layout_of
  unread e kinds hf_mul sigma = rw (e, reading_unread, outcome_unread (reading J))

-- whatever the sharpness numbers are, as many of them: the same answer, the same buffers
pub sharpness_unread : (i : Inputs) (s : List ℕ) → SharpnessUnread i s
sharpness_unread i s off e kinds hf_mul sigma = unread i s off e kinds hf_mul sigma
