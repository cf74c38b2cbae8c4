-- Laws: The context call's answer and record, with lists and map in lent memory.
use Rattle.std.specs.Prelude.{◌≡◌, refl, Bool, true, false, cond, List, ℕ, eqb, replicate, Result, Ok, Err}
use Rattle.std.proofs.Common.{ap, sym, ◌∙◌}
use Rattle.refusal.specs.declared.Refusal.{Refusal}
use Rattle.refusal.specs.declared.Refusal.TheVariants.{BitsEnd}
use Rattle.refusal.specs.declared.Said.{Said}
use Rattle.refusal.specs.Said.{said}
use Rattle.refusal.specs.Answer.{Answer, gives, refuses, answered_by}
use Rattle.bits.specs.Bits.{Read, Value, Ended, read_bits}
use Rattle.context_record.specs.declared.HfBlockContext.{HfBlockContext}
use Rattle.context_thresholds.specs.Thresholds.{read_lists}
use Rattle.context_call.specs.declared.ContextParts.{ContextParts}
use Rattle.context_call.specs.Call.{Outcome, contexts_of, accepted, refused, judged, judged_lists, or_ended, by_first, no_lists, DEFAULT_MAP, parsed}
use Rattle.context_call.specs.Parts.{kept_by, or_kept, with_lists}
use Rattle.context_record.specs.Record.{record_of}

pub kept_same : (lf qf map : List ℕ) (o p : Outcome) → o ≡ p → or_kept o lf qf map ≡ or_kept p lf qf map
kept_same lf qf map o p e = ap (λ (z : Outcome). or_kept z lf qf map) e

abbrev outcome_of : Answer ℕ → HfBlockContext → Outcome
outcome_of a c = record { answer = a; contexts = c }

-- What an answer says of the outcome o and of the places, which held lf₀, qf₀ and map₀.
module _ (r : Result ContextParts Refusal) (lf qf map lf₀ qf₀ map₀ : List ℕ) (o : Outcome) (e : with_lists r lf qf map ≡ or_kept o lf₀ qf₀ map₀) where
  pub was_accepted : (p : ContextParts) → r ≡ Ok p → accepted p.bits_read (record_of p.num_block_clusters p.lengths lf qf map) ≡ o
  was_accepted p f =
      let c = record_of p.num_block_clusters p.lengths lf qf map in
      let w : accepted p.bits_read c ≡ or_kept o lf₀ qf₀ map₀ = ap (λ (x : Result ContextParts Refusal). with_lists x lf qf map) (sym f) ∙ e in
      let g : gives p.bits_read ≡ o.answer = ap (λ (z : Outcome). z.answer) w in
      let h : c ≡ o.contexts = ap (λ (z : Outcome). z.contexts) w ∙ rw (← g) in
      ap (λ (a : Answer ℕ). outcome_of a c) g ∙ ap (outcome_of o.answer) h

  pub was_refused : (why : Refusal) → r ≡ Err why → (refuses (said why) ≡ o.answer) × (lf ≡ lf₀) × (qf ≡ qf₀) × (map ≡ map₀)
  was_refused why f =
      let w : with_lists (Err why) lf qf map ≡ or_kept o lf₀ qf₀ map₀ = ap (λ (x : Result ContextParts Refusal). with_lists x lf qf map) (sym f) ∙ e in
      let g : refuses (said why) ≡ o.answer = ap (λ (z : Outcome). z.answer) w in
      let h : (with_lists (Err why) lf qf map).contexts ≡ kept_by (refuses (said why)) o.contexts lf₀ qf₀ map₀ = ap (λ (z : Outcome). z.contexts) w ∙ rw (← g) in
      (g, ap (λ (c : HfBlockContext). c.lf_thresholds) h, ap (λ (c : HfBlockContext). c.qf_thresholds) h, ap (λ (c : HfBlockContext). c.block_ctx_map) h)

-- Refused: the places stay.
pub refused_is : (lf qf map : List ℕ) (a : Result ContextParts Refusal) (why : Refusal) → a ≡ Err why → with_lists a lf qf map ≡ or_kept (refused (said why)) lf qf map
unfolding contexts_of
refused_is lf qf map a why e = rw e

-- the bits end
pub refused_at : {A : Type 0} (lf qf map : List ℕ) (a : Result ContextParts Refusal) (why : Refusal) (r : Read A) (k : A → ℕ → Outcome) (at : ℕ)
    → a ≡ Err why → BitsEnd at ≡ why → r ≡ Ended at → with_lists a lf qf map ≡ or_kept (or_ended r k) lf qf map
unfolding contexts_of
refused_at lf qf map a why r k at e w f = rw (e, ← w, f)

-- Where the places held 0, they hold the record of the call by value.
abbrev Plain : Outcome → Type 0
Plain o = or_kept o (replicate 45 0) (replicate 15 0) (replicate 2496 0) ≡ o

plain_refused : (s : Said) → Plain (refused s)
unfolding contexts_of
plain_refused s = refl

plain_ended : {A : Type 0} (r : Read A) (k : A → ℕ → Outcome) → ((l : A) (at : ℕ) → Plain (k l at)) → Plain (or_ended r k)
plain_ended (Value l at) k f = f l at
plain_ended (Ended at) k f = plain_refused (said (BitsEnd at))

plain_judged : (a : Answer Unit) (at : ℕ) (c : HfBlockContext) → Plain (answered_by a refused (λ (u : Unit). accepted at c))
plain_judged (gives u) at c = refl
plain_judged (refuses s) at c = plain_refused s

plain_first : (b : Bool) (bytes : List ℕ) (count : ℕ) (map : List ℕ) (at : ℕ) → Plain (cond b (accepted at (contexts_of 15 no_lists DEFAULT_MAP)) (or_ended (read_lists bytes at) (judged_lists count map)))
plain_first true bytes count map at = refl
plain_first false bytes count map at = plain_ended (read_lists bytes at) (judged_lists count map) (λ l p. plain_judged (judged count map _) p _)

pub kept_zeros : (bytes : List ℕ) (count : ℕ) (map : List ℕ) → or_kept (parsed bytes count map) (replicate 45 0) (replicate 15 0) (replicate 2496 0) ≡ parsed bytes count map
unfolding parsed
kept_zeros bytes count map = plain_ended (read_bits bytes 0 1) (by_first bytes count map) (λ first at. plain_first (eqb first 1) bytes count map at)
