-- What a refused layout call hands back and leaves (document 01, Refused).
use Rattle.std.specs.Prelude.{◌≡◌, refl, Bool, true, false, List, ℕ}
use Rattle.std.proofs.Math.Path.{ap}
use Rattle.std.proofs.Common.{sym, ◌∙◌, arith}
use Rattle.refusal.specs.declared.Said.{Said}
use Rattle.refusal.specs.Said as refusals
use Rattle.refusal.specs.Answer.{Answer, gives, refuses}
use Rattle.layout_sizes.specs.Blocks.{size_fits}
use Rattle.layout_placing.specs.Reading.{Job, Placed, Placing, Going, Stopped, reading}
use Rattle.layout_call.specs.Call.{Outcome, outcome_of, Inputs, job_of, parameters_fit, all_lengths_fit, refuse, layout_of}
use Rattle.layout_accepted.proofs.laws.Stops.{Well, column_well}
use Rattle.layout_accepted.proofs.laws.Accepted.{stopped_with}
use Rattle.layout_accepted.proofs.laws.Theorems.{off_size, off_parameters, off_lengths, works}
use Rattle.layout_accepted.specs.Refused.{AtBlock, AtFree, AtWork, BeforeWork, Refuses, lengths, parameter, size, work}

-- A reading that stopped did so at a free block.
module _ (J : Job) where
  -- stopped at a free block, n columns having been placed
  abbrev pub Stopping : ℕ → Said → Type 0
  Stopping n r = AtBlock J.bw J.bh r × (f : AtFree J r) × (n ≡ f.before.used)

  pub read_stops : (n : ℕ) (r : Said) → reading J ≡ Stopped n r → Stopping n r
  unfolding Well
  read_stops n r e =
      let s = stopped_with J (λ (p : Placed). Unit) tt (λ x y p p' hx hy u o c q. tt) n r e in
      let w : Well J r.x r.y s.before (Stopped n r) = rw s.stops at (column_well J r.x r.y s.before) in (
        record { least = w.0; most = w.1; in_x = s.in_x; in_y = s.in_y },
        record { before = s.before; sofar = s.sofar; free = s.free; stops = s.stops ∙ ap (λ (m : ℕ). Stopped m r) w.4 },
        w.4,
      )

module _ (i : Inputs) (kinds hf_mul sigma : List ℕ) where
  same : (r s : Said) → ◌≡◌ {A = Answer ℕ} (refuses r) (refuses s) → r ≡ s
  same r s e = cc

  before_work : (n : ℕ) (r : Said) → refuse i kinds hf_mul sigma (refusals.said_at n 0 0) ≡ layout_of i kinds hf_mul sigma → (layout_of i kinds hf_mul sigma).answer ≡ refuses r → BeforeWork i kinds hf_mul sigma n r
  before_work n r e f = record {
    said_is = sym (same (refusals.said_at n 0 0) r (ap (λ (o : Outcome). o.answer) e ∙ f));
    kinds_kept = sym (ap (λ (o : Outcome). o.kinds) e);
    hf_mul_kept = sym (ap (λ (o : Outcome). o.hf_mul) e);
    sigma_kept = sym (ap (λ (o : Outcome). o.sigma) e);
  }

  stopped : (n : ℕ) (r : Said) → reading (job_of i) ≡ Stopped n r → outcome_of (job_of i) (Stopped n r) ≡ layout_of i kinds hf_mul sigma → AtWork i kinds hf_mul sigma r
  stopped n r e o =
      let w = read_stops (job_of i) n r e in
      record {
        block = w.0;
        free = w.1;
        reads = e ∙ ap (λ (m : ℕ). Stopped m r) w.2;
        kinds_zero = sym (ap (λ (q : Outcome). q.kinds) o);
        hf_mul_zero = sym (ap (λ (q : Outcome). q.hf_mul) o);
        sigma_zero = sym (ap (λ (q : Outcome). q.sigma) o);
      }

  at_work : (r : Said) (s : Placing) → reading (job_of i) ≡ s → outcome_of (job_of i) s ≡ layout_of i kinds hf_mul sigma → (layout_of i kinds hf_mul sigma).answer ≡ refuses r → AtWork i kinds hf_mul sigma r
  at_work r (Going p) e o f = absurd (let g : gives p.used ≡ refuses r = ap (λ (q : Outcome). q.answer) o ∙ f in let z : ◌≡◌ {A = ℕ} 0 1 = cc in omega arith)
  at_work r (Stopped n t) e o f = let d : t ≡ r = same t r (ap (λ (q : Outcome). q.answer) o ∙ f) in rw d at (stopped n t e o)

  -- a refused call is one of these
  pub refused_how : (r : Said) → (layout_of i kinds hf_mul sigma).answer ≡ refuses r → Refuses i kinds hf_mul sigma r
  refused_how r f = go (size_fits i.width i.height) (parameters_fit i) (all_lengths_fit i kinds hf_mul sigma) refl refl refl
    where
      go : (a b c : Bool) → size_fits i.width i.height ≡ a → parameters_fit i ≡ b → all_lengths_fit i kinds hf_mul sigma ≡ c → Refuses i kinds hf_mul sigma r
      go false b c p q s = size p (before_work 2 r (off_size i kinds hf_mul sigma p) f)
      go true false c p q s = parameter p q (before_work 11 r (off_parameters i kinds hf_mul sigma p q) f)
      go true true false p q s = lengths p q s (before_work 1 r (off_lengths i kinds hf_mul sigma p q s) f)
      go true true true p q s = work p q s (at_work r (reading (job_of i)) refl (works i kinds hf_mul sigma p q s) f)
