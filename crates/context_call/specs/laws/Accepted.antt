-- Every record that the context call accepts is fit.
use Rattle.std.specs.Prelude.{◌≡◌, refl, Bool, true, false, cond, T, eqb, leb, length, take, replicate}
use Rattle.std.proofs.Common.{ap, sym, ◌∙◌, arith, le→leb}
use mathlib.Core.List.{List}
use Prim.Native.Nat.{ℕ, ◌*◌, ◌-◌, ◌≤◌}
use Rattle.std.specs.Float.Ieee.Fits.{and_i}
use Rattle.std.proofs.Math.Seq.{take-append_seam}
use Rattle.laws.specs.Tables.{every}
use Rattle.refusal.specs.Answer.{Answer, gives, refuses, answered_by}
use Rattle.bits.specs.Bits.{Bytes, Read, Value, Ended, read_bits}
use Rattle.bits.specs.laws.Near.{Near, then_near, map_near}
use Rattle.context_record.specs.Record.{bsize_of, qf_fit, fit_of, fit}
use Rattle.bytes_below.specs.Below.{bytes_below}
use Rattle.context_record.specs.laws.Bounds.{fit_last}
use Rattle.context_thresholds.specs.Thresholds.{Lists, lists_of, lf_value, qf_value, read_list, read_lists, pad}
use Rattle.context_thresholds.specs.laws.Lists.{lf_near, qf_near, list_near}
use Rattle.context_call.specs.Call.{Outcome, lengths_of, contexts_of, no_lists, DEFAULT_MAP, accepted, refused, judged, judged_lists, or_ended, by_first, parsed}
use Rattle.context_call.specs.laws.CallLaws.{judged_passed}

-- four lists that keep to the limits of a record
record Kept (l : Lists) : Type 0 where
  few0 : length l.lf_thresholds0 ≤ 15
  few1 : length l.lf_thresholds1 ≤ 15
  few2 : length l.lf_thresholds2 ≤ 15
  few3 : length l.qf_thresholds ≤ 15
  values : T (every qf_fit l.qf_thresholds)

-- at most 15 values, each of which passes
abbrev Few : (ℕ → Bool) → List ℕ → Type 0
Few rule vs = (length vs ≤ 15) × T (every rule vs)

module _ (s : List ℕ) (h : Bytes s) where
  lf_list : (p : ℕ) → Near (Few (λ (v : ℕ). true)) (read_list s (lf_value s) p) p 514 516
  lf_list p = list_near (lf_value s) (λ (v : ℕ). true) (lf_near s h) s h p

  qf_list : (p : ℕ) → Near (Few qf_fit) (read_list s (qf_value s) p) p 514 516
  qf_list p =
      list_near (qf_value s) qf_fit (qf_near s h (λ (v : ℕ). T (qf_fit v)) (λ v a b. and_i (leb 1 v) (leb v 300) (le→leb 1 v a) (le→leb v 300 b))) s h p

  -- the four lists that are read
  lists_near : (p : ℕ) → Near Kept (read_lists s p) p 2056 2058
  unfolding read_lists
  lists_near p =
      let few : List ℕ → Type 0 = Few (λ (v : ℕ). true) in
      then_near few Kept p 514 516 1542 1544 2056 2058 (omega arith) (omega arith) (omega arith) _ (read_list s (lf_value s) p) (lf_list p) (λ a p0 fa.
      then_near few Kept p0 514 516 1028 1030 1542 1544 (omega arith) (omega arith) (omega arith) _ (read_list s (lf_value s) p0) (lf_list p0) (λ b p1 fb.
      then_near few Kept p1 514 516 514 516 1028 1030 (omega arith) (omega arith) (omega arith) _ (read_list s (lf_value s) p1) (lf_list p1) (λ c p2 fc.
      map_near (Few qf_fit) Kept p2 514 516 (λ (d : List ℕ). lists_of a b c d)
      (λ d fd. record { few0 = fa.0; few1 = fb.0; few2 = fc.0; few3 = fd.0; values = fd.1 }) (read_list s (qf_value s) p2) (qf_list p2))))

true_of : (b : Bool) → T b → b ≡ true
true_of false t = elim t [ ]
true_of true t = refl

stored_fit : (count : ℕ) (map : List ℕ) (l : Lists) → Kept l → bsize_of (lengths_of l) ≤ 64 → length map ≡ 39 * bsize_of (lengths_of l)
    → 1 ≤ count → count ≤ 16 → bytes_below count map ≡ true → fit (contexts_of count l map) ≡ true
unfolding contexts_of
stored_fit count map l k size e some few below =
    let used : take (length l.qf_thresholds) (pad 15 l.qf_thresholds) ≡ l.qf_thresholds = take-append_seam l.qf_thresholds (replicate (15 - length l.qf_thresholds) 0) in
    let bytes : take (39 * bsize_of (lengths_of l)) (pad 2496 map) ≡ map =
    ap (λ (n : ℕ). take n (pad 2496 map)) (sym e) ∙ take-append_seam map (replicate (2496 - length map) 0)
    in
    fit_last count (lengths_of l) (pad 15 l.qf_thresholds) (pad 2496 map) k.few0 k.few1 k.few2 k.few3 size some few
    (ap (every qf_fit) used ∙ true_of (every qf_fit l.qf_thresholds) k.values)
    ∙ ap (bytes_below count) bytes
    ∙ below

default_fit : fit (contexts_of 15 no_lists DEFAULT_MAP) ≡ true
unfolding contexts_of fit_of bsize_of
default_fit = refl

-- what is accepted is fit
abbrev Fits : Outcome → Type 0
Fits o = (t : ℕ) → o.answer ≡ gives t → fit o.contexts ≡ true

ended_fit : {A : Type 0} (r : Read A) (k : A → ℕ → Outcome) → ((l : A) (at : ℕ) → r ≡ Value l at → Fits (k l at)) → Fits (or_ended r k)
ended_fit (Value l at) k f t e = f l at refl t e
ended_fit (Ended at) k f t e = absurd (let z : ◌≡◌ {A = ℕ} 0 1 = cc in omega arith)

judged_fit : (count : ℕ) (map : List ℕ) (l : Lists) (at : ℕ) → Kept l → Fits (judged_lists count map l at)
judged_fit count map l at k = go (judged count map (lengths_of l)) refl
  where
    go : (a : Answer Unit) → judged count map (lengths_of l) ≡ a → Fits (answered_by a refused (λ (u : Unit). accepted at (contexts_of count l map)))
    go (refuses s) j t e = absurd (let z : ◌≡◌ {A = ℕ} 0 1 = cc in omega arith)
    go (gives u) j t e = let p = judged_passed count map (lengths_of l) u j in stored_fit count map l k p.0 p.1 p.2 p.3 p.4

-- document 01, Block contexts: a record of the context call is never refused with 12
pub accepted_fit : (s : List ℕ) → Bytes s → (count : ℕ) (map : List ℕ) (at : ℕ) → (parsed s count map).answer ≡ gives at → fit (parsed s count map).contexts ≡ true
unfolding parsed
accepted_fit s h count map t e = ended_fit (read_bits s 0 1) (by_first s count map) (λ first at i. go (eqb first 1) at) t e
  where
    go : (b : Bool) (at : ℕ) → Fits (cond b (accepted at (contexts_of 15 no_lists DEFAULT_MAP)) (or_ended (read_lists s at) (judged_lists count map)))
    go true at t e = default_fit
    go false at t e = ended_fit (read_lists s at) (judged_lists count map) (λ l q i. judged_fit count map l q ((lists_near s h at).value l q i).0) t e
