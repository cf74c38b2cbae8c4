-- What a walk tells of its count when it ends: used up where it is done (document 02, No. 8), more due than places remain where 17 stopped it (document
-- 02, No. 9), remaining where 24 did.
use Rattle.std.specs.Prelude.{◌≡◌, refl, List, [], ◌∷◌, ◌++◌, ℕ, zero, suc, ◌+◌, ◌*◌, ◌-◌, ◌≤◌, length, take, drop, Result, Ok, Err}
use Rattle.std.proofs.Common.{ap, sym, ◌∙◌, arith, length-append, take_at}
use Rattle.refusal.specs.declared.Refusal.{Refusal}
use Rattle.coeff_walk.specs.Walk.{walk}
use Rattle.coeff_walk.specs.Item.{Item}
use Rattle.coeff_walk.specs.Sent.{non_zeros, up_to}
use Rattle.coeff_walk.specs.UsedUp.{CountRemains, MoreDue}
use Rattle.coeff_walk.specs.laws.Outcome.{answer_of, between, UsesUp}
use Rattle.coeff_walk.specs.laws.Walks.{End, ends, stops, walked_by, TooMany, TooFew, Tells}
use Rattle.coeff_walk.proofs.laws.Walks.{run}

-- what was stopped promises nothing
pub not_done : (why : Refusal) (to : ℕ) → ◌≡◌ {A = Result ℕ Refusal} (Err why) (Ok to) → ⊥
not_done why to e = cc

-- position of an end, as it is told
pub ended_at : (to at : ℕ) → ◌≡◌ {A = Result ℕ Refusal} (Ok at) (Ok to) → to ≡ at
ended_at to at e = cc

-- the symbols read are those in front of the symbols left
pub front : (us xs us' : List ℕ) (from to : ℕ) → us ≡ xs ++ us' → to + length us' ≡ from + length us → take (to - from) us ≡ xs
front us xs us' from to e f = rw e (take_at xs us' (to - from) (omega (arith, ap length e, length-append xs us')))

-- up to the last that is not 0 there are as many as in all
sent_used : (n : ℕ) (ds : List ℕ) → n ≡ non_zeros ds → non_zeros (up_to n ds) ≡ n
unfolding non_zeros up_to
sent_used n [] e = sym e
sent_used zero (d ∷ ds) e = refl
sent_used (suc n) (zero ∷ ds) e = sent_used (suc n) ds e
sent_used (suc n) (suc d ∷ ds) e = ap suc (sent_used n ds (omega arith))

-- a walk that is done
module _ (shift blocks : ℕ) (coeff_map ps : List ℕ) (i prev n : ℕ) (symbols : List ℕ) (at : ℕ) (log g : List ℕ) where
  by_end : (k : ℕ) (log₁ g₁ ds : List ℕ) (e : End) → walk shift blocks coeff_map ps i prev n (drop at symbols) at log g ≡ walked_by e (at + k) log₁ g₁ → Tells blocks i prev n ps (drop at symbols) k ds e
      → (to : ℕ) → answer_of (walk shift blocks coeff_map ps i prev n (drop at symbols) at log g) ≡ Ok to → non_zeros (between symbols at to) ≡ n
  by_end k log₁ g₁ ds (ends us') q t to f =
      let z : to ≡ at + k = ended_at to (at + k) (sym (ap answer_of q) ∙ f) in
      ap non_zeros (front (drop at symbols) (up_to n ds) us' at to t.rest (omega (arith, t.read))) ∙ sent_used n ds t.due
  by_end k log₁ g₁ ds (stops why) q t to f = absurd (not_done (why (at + k)) to (sym (ap answer_of q) ∙ f))

  pub walk_uses : (r : Result ℕ Refusal) → r ≡ answer_of (walk shift blocks coeff_map ps i prev n (drop at symbols) at log g) → UsesUp n symbols at r
  walk_uses r e to f = let w = run blocks coeff_map ps i prev n (drop at symbols) in by_end (length w.clusters) _ _ w.ds w.end (w.is shift at log g) w.tells to (sym e ∙ f)

-- 17 and 24 in an item with the count n
module _ (it : Item) (n : ℕ) (most : n ≤ 63 * it.blocks) where
  pub more_due : (prev : ℕ) → prev ≤ 1 → length it.cells ≡ 63 * it.blocks → (ds : List ℕ) → TooMany it.blocks 0 prev n it.cells ds → MoreDue it (n ∷ ds)
  more_due prev f long ds t =
      let q = t f in
      record {
        count = n;
        most = most;
        ds = ds;
        due = n - non_zeros ds;
        still = omega (arith, q.0, q.1, long);
        places_left = length it.cells - length ds;
        places = omega (arith, q.0);
        some = omega (arith, q.0);
        more = omega (arith, q.0, q.1, long);
        are = refl;
      }

  pub count_remains : (ds : List ℕ) → TooFew n it.cells ds → CountRemains it (n ∷ ds)
  count_remains ds t = record { count = n; most = most; ds = ds; long = t.0; fewer = t.1; are = refl }
