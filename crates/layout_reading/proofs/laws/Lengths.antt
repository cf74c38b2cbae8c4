-- The reading as the code goes: its checks before work, one law for each way out, and what it hands back.
use Rattle.std.specs.Prelude.{◌≡◌, Bool, true, ◌&&◌, List, ℕ, ◌*◌, ◌≤◌, leb, Err}
use Rattle.std.proofs.Common.{leb-true}
use Rattle.laws.specs.laws.Cases.{and-true}
use Rattle.refusal.specs.declared.Refusal.{Refusal}
use Rattle.refusal.specs.Said.{said}
use Rattle.refusal.specs.Answer.{gives, refuses, passed}
use Rattle.refusal.specs.laws.Answer.{pass}
use Rattle.layout_sizes.specs.Blocks.{counts_fit}
use Rattle.layout_sizes.specs.laws.Counts.{Counts}
use Rattle.layout_sizes.proofs.laws.Counts.{counts}
use Rattle.layout_filter.specs.declared.Filter.{Filter}
use Rattle.layout_placing.specs.Reading.{Job, reading}
use Rattle.layout_reading.specs.laws.Outcome.{told_by, handed, checks_of, read_checks, read_of}

module _ (params : Bool) (bw bh types muls sharpness kinds hf_mul sigma : ℕ) where
  abbrev lent : Bool
  lent = counts_fit types muls sharpness kinds hf_mul sigma (bh * bw)

  -- what passed checks tell
  pub record Passed : Type 0 where
    pub params_fit : params ≡ true
    pub wide : bw ≤ 256
    pub high : bh ≤ 256
    pub lengths : Counts types muls sharpness kinds hf_mul sigma (bh * bw)

  pub passed_checks : checks_of params bw bh types muls sharpness kinds hf_mul sigma ≡ gives tt → Passed
  passed_checks e =
      let p = pass 11 params _ tt e in
      let q = pass 1 (leb bw 256 && leb bh 256 && lent) passed tt p.1 in
      let r = and-true (leb bw 256 && leb bh 256) lent q.0 in
      let s = and-true (leb bw 256) (leb bh 256) r.0 in
      record { params_fit = p.0; wide = leb-true bw 256 s.0; high = leb-true bh 256 s.1; lengths = counts types muls sharpness kinds hf_mul sigma (bh * bw) r.1 }

module _ (J : Job) (k m s : List ℕ) (filter : Filter) (scale : ℕ) where
  pub read_refused : (r : Refusal) → refuses (said r) ≡ read_checks J k m s filter scale → handed (Err (record { placed = 0; why = r })) k m s ≡ read_of J k m s filter scale
  unfolding read_of
  read_refused r e = rw (← e)

  pub read_works : passed ≡ read_checks J k m s filter scale → told_by J (reading J) ≡ read_of J k m s filter scale
  unfolding read_of
  read_works e = rw (← e)
