-- A column's type counts as a whole 32-bit number (document 02, No. 5): 0 to 26 where a column is placed; the next one is refused with 5
-- exactly if it is there and its type is unknown, whatever its mul.
use Rattle.std.specs.Prelude.{◌≡◌, List, ◌⊎◌, ℕ, ◌+◌, ◌≤◌, ◌<◌, length, get_or}
use Rattle.std.proofs.Common.{◌∙◌, inl, inr, arith}
use Rattle.laws.specs.laws.Cases.{le_or_lt}
use Rattle.refusal.specs.declared.Said.{Said}
use Rattle.refusal.specs.Said.{said_at}
use Rattle.dct_select.specs.Transforms.{COUNT}
use Rattle.layout_placing.specs.Reading.{Job, Placed, Stopped, next_type, next_hf_mul}
use Rattle.layout_placing.proofs.laws.Visits.{column_unknown}
use Rattle.layout_call.specs.Call.{Inputs, job_of}
use Rattle.layout_accepted.specs.laws.Puts.{Column}
use Rattle.layout_accepted.proofs.laws.Stops.{Well, column_well}
use Rattle.layout_accepted.proofs.laws.Accepted.{along, stopped_with}
use Rattle.layout_accepted.proofs.laws.Theorems.{accepted_read}
use Rattle.layout_accepted.specs.Refused.{Sofar, UnknownNext, AtWork}
use Rattle.layout_accepted.specs.laws.Types.{AcceptedKnown}

module _ (J : Job) where
  -- the types of the first n columns are 0 to 26
  abbrev Known : ℕ → Type 0
  Known n = (k : ℕ) → k < n → get_or J.types k 0 < COUNT

  one_more : (n : ℕ) → get_or J.types n 0 < COUNT → Known n → Known (n + 1)
  one_more n t q k h = go (le_or_lt n k)
    where
      go : (n ≤ k) ⊎ (k < n) → get_or J.types k 0 < COUNT
      go (inl a) = let e : n ≡ k = omega arith in rw e at t
      go (inr a) = q k a

  -- so are those of the columns placed, at each step
  abbrev PlacedKnown : Placed → Type 0
  PlacedKnown p = Known p.used

  keep : (x y : ℕ) (p p' : Placed) → x < J.bw → y < J.bh → p.used < length J.types → Sofar J x y p → Column J x y p p' (next_type J p) (next_hf_mul J p) → PlacedKnown p → PlacedKnown p'
  keep x y p p' hx hy m o c q k h = let u = c.used_is in one_more p.used c.fits.known q k (omega arith)

-- the types of the columns that an accepted call used are 0 to 26
pub accepted_known : AcceptedKnown
accepted_known i kinds hf_mul sigma n e k h =
    let a = accepted_read i kinds hf_mul sigma n e in
    let u = a.used in
    (along (job_of i) (PlacedKnown (job_of i)) (λ k h. absurd (omega arith)) (keep (job_of i)) a.last a.read).1 k (omega arith)

module _ (i : Inputs) (kinds hf_mul sigma : List ℕ) (r : Said) (w : AtWork i kinds hf_mul sigma r) where
  -- so are those of the columns that were placed before a refusal
  pub refused_known : (k : ℕ) → k < w.free.before.used → get_or i.types k 0 < COUNT
  unfolding Well
  refused_known k h =
      let s = stopped_with (job_of i) (PlacedKnown (job_of i)) (λ k h. absurd (omega arith)) (keep (job_of i)) w.free.before.used r w.reads in
      let u : w.free.before.used ≡ s.before.used = (rw s.stops at (column_well (job_of i) r.x r.y s.before)).4 in
      s.holds k (omega arith)

  -- the refusal is 5 exactly if the column behind those is there and its type is unknown
  pub five_unknown : r.number ≡ 5 → UnknownNext (job_of i) w.free.before
  unfolding Well
  five_unknown f = (rw w.free.stops at (column_well (job_of i) r.x r.y w.free.before)).5 f

  pub unknown_five : UnknownNext (job_of i) w.free.before → r.number ≡ 5
  unknown_five (h, t) = told (column_unknown (job_of i) r.x r.y w.free.before h t ∙ w.free.stops)
    where
      told : Stopped w.free.before.used (said_at 5 r.x r.y) ≡ Stopped w.free.before.used r → r.number ≡ 5
      told e = cc
