-- The layout call as the code goes: one law for each way out.
use Rattle.std.specs.Prelude.{◌≡◌, refl, true, false, List, ℕ, ◌≤◌, Result, Ok, Err}
use Rattle.std.proofs.Common.{ap, ◌∙◌, arith}
use borrow.Author.Tests.{le-leb}
use Rattle.refusal.specs.declared.Refusal.{Refusal}
use Rattle.refusal.specs.Said.{said_at}
use Rattle.layout_sizes.specs.declared.Blocks.{Blocks}
use Rattle.layout_sizes.specs.Blocks.{size_fits, modes_fit, bw_in, bh_in}
use Rattle.layout_sizes.specs.laws.Bounds.{blocks_of}
use Rattle.layout_sizes.proofs.laws.Bounds.{bw_most, bh_most}
use Rattle.layout_reading.specs.declared.column.Stop.{Stop}
use Rattle.layout_placing.specs.Reading.{Job, job_by}
use Rattle.refusal.specs.laws.Answer.{answered_by_lem}
use Rattle.layout_reading.specs.laws.Outcome.{Told, handed, read_checks, read_of}
use Rattle.layout_call.specs.Call.{leaves, Inputs, refuse, layout_of}

-- what a reading answers is the call's answer
abbrev pub answer_by : Result ℕ Stop → Result ℕ Refusal
answer_by (Ok used) = Ok used
answer_by (Err stop) = Err stop.why

pub hands_on : (s : Result ℕ Stop) (k m g : List ℕ) → leaves (answer_by s) k m g ≡ (handed s k m g).outcome
hands_on (Ok used) k m g = refl
hands_on (Err stop) k m g = refl

module _ (i : Inputs) (k m g : List ℕ) where
  pub call_size : size_fits i.width i.height ≡ false → refuse i k m g (said_at 2 0 0) ≡ layout_of i k m g
  unfolding layout_of
  call_size a = rw a

  module _ (a : size_fits i.width i.height ≡ true) where
    pub call_modes : modes_fit i.modes ≡ false → refuse i k m g (said_at 11 0 0) ≡ layout_of i k m g
    unfolding layout_of
    call_modes b = rw (a, b)

    module _ (b : modes_fit i.modes ≡ true) where
      abbrev job_in : ℕ → ℕ → Job
      job_in bw bh = job_by bw bh i.types i.muls i.sharpness i.filter i.lookups i.scale

      -- the reading refuses the filter's numbers, then lengths, that do not fit
      reads : (bw bh : ℕ) → bw ≤ 256 → bh ≤ 256 → bw ≡ bw_in i.width i.modes → bh ≡ bh_in i.height i.modes
          → (read_of (job_in bw bh) k m g i.filter i.scale).outcome ≡ layout_of i k m g
      unfolding layout_of read_of
      reads bw bh w h p q =
          answered_by_lem (λ (z : Told). z.outcome) (read_checks (job_in bw bh) k m g i.filter i.scale) _ _ ∙ rw (a, b, le-leb bw 256 w, le-leb bh 256 h) (rw (p, q))

      pub call_reads : (blocks : Blocks) → blocks ≡ blocks_of i.width i.height i.modes
          → (r : Result ℕ Refusal) (s : Result ℕ Stop) (k' m' g' : List ℕ) → leaves r k' m' g' ≡ (handed s k' m' g').outcome
          → handed s k' m' g' ≡ read_of (job_in blocks.bw blocks.bh) k m g i.filter i.scale
          → leaves r k' m' g' ≡ layout_of i k m g
      call_reads blocks p r s k' m' g' e h =
          let w : blocks.bw ≡ bw_in i.width i.modes = ap (λ (z : Blocks). z.bw) p in
          let v : blocks.bh ≡ bh_in i.height i.modes = ap (λ (z : Blocks). z.bh) p in
          e ∙ ap (λ (z : Told). z.outcome) h
          ∙ reads blocks.bw blocks.bh (omega (arith, bw_most i.width i.height a i.modes)) (omega (arith, bh_most i.width i.height a i.modes)) w v
