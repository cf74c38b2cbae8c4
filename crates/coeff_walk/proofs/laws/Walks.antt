-- What a walk reads, logs and adds, whatever the shift and whatever log and grid held: all of it in one induction.
use Rattle.std.specs.Prelude.{◌≡◌, Bool, ◌⊎◌, length, get_or, set}
use Rattle.std.proofs.Math.Path.{refl, sym}
use Rattle.std.proofs.Common.{ap, ap₂, ◌∙◌, inl, inr, add-one, length-append}
use Rattle.std.proofs.Math.Bool.{true, false, cond}
use mathlib.Core.List.{List, [], ◌∷◌, ◌++◌, append_assoc}
use Prim.Native.Nat.{ℕ, zero, suc, ◌+◌, ◌*◌, ◌<◌, ◌≤◌}
use native.Mathlib.Omega.{arith}
use borrow.Author.Tests.{lt-ltb, ltb-false}
use Rattle.std.proofs.Math.Dec.{ltb}
use Rattle.std.proofs.lemmas.List.{length-replicate}
use Rattle.std.proofs.lemmas.List.Edits.{sets}
use Rattle.laws.specs.laws.Cases.{le_or_lt}
use Rattle.refusal.specs.declared.Refusal.{Refusal}
use Rattle.refusal.specs.declared.Refusal.TheVariants.{SymbolsEnd, TooManyZeros, CountRemaining}
use Rattle.coeff_context.specs.Context.{coeff_context}
use Rattle.coeff_walk.specs.Walk.{Walked, done, stopped, walk, flag, less, gain}
use Rattle.coeff_walk.proofs.laws.Kept.{length_gain}
use Rattle.coeff_context.proofs.laws.Contexts.{context_below}
use Rattle.coeff_walk.specs.Sent.{Words, more, non_zeros, up_to}
use Rattle.coeff_walk.specs.laws.Walks.{gains, none, End, walked_by, longer, ReadOf, Stop, TooMany, TooFew, Tells, Run, stops, ends, count, too_many_zeros, count_remaining, symbols_end}

pub length_gains : (s : ℕ) (g ps ds : List ℕ) → length (gains s g ps ds) ≡ length g
length_gains s g ps [] = refl
length_gains s g [] (d ∷ ds) = refl
length_gains s g (p ∷ ps) (d ∷ ds) = length_gains s (gain s g p d) ps ds ∙ length_gain s g p d

pub none_long : (ps : List ℕ) → length (none ps) ≡ length ps
none_long ps = length-replicate (length ps) 0

pub gains_none : (s : ℕ) (g ps : List ℕ) → gains s g ps (none ps) ≡ g
gains_none s g [] = refl
gains_none s g (p ∷ ps) = gains_none s g ps

none_non_zero : (ps : List ℕ) → non_zeros (none ps) ≡ 0
unfolding non_zeros
none_non_zero [] = refl
none_non_zero (p ∷ ps) = none_non_zero ps

pub none_words : (ps : List ℕ) → Words (none ps)
none_words [] = tt
none_words (p ∷ ps) = (omega arith, none_words ps)

pub read_le : {Q : List ℕ → Type 0} (us : List ℕ) (k : ℕ) → ReadOf Q us k → k ≤ length us
read_le us k r = omega (arith, r.long, ap length r.are, length-append r.s r.vs)

module _ (blocks i prev n : ℕ) (ps us : List ℕ) where
  either : (b : Bool) (F H : ℕ → ℕ → List ℕ → List ℕ → Walked) (F' H' : List ℕ → ℕ → ℕ → List ℕ → List ℕ → Walked) → Run blocks i prev n ps us F F' → (b ≡ false → Run blocks i prev n ps us H H')
      → Run blocks i prev n ps us (λ s at log g. cond b (F s at log g) (H s at log g)) (λ vs s at log g. cond b (F' vs s at log g) (H' vs s at log g))
  either true F H F' H' r q = r
  either false F H F' H' r q = q refl

  stops_here : (F' : List ℕ → ℕ → ℕ → List ℕ → List ℕ → Walked) (why : ℕ → Refusal) → Stop (TooMany blocks i prev n ps) (TooFew n ps) us 0 why
      → Run blocks i prev n ps us (λ s at log g. stopped why at log g) F'
  stops_here F' why t = record {
    clusters = [];
    ds = none ps;
    end = stops why;
    is = λ s at log g. let z : at + 0 ≡ at = omega arith in rw (z, gains_none s g ps);
    further = λ h vs s at log g. absurd h;
    all = none_long ps;
    few = omega arith;
    tells = t;
  }

-- nothing is read
ends_here : (blocks i prev : ℕ) (ps us : List ℕ) → up_to 0 (none ps) ≡ [] → Run blocks i prev 0 ps us (λ s at log g. done us at log g) (λ vs s at log g. done (us ++ vs) at log g)
ends_here blocks i prev ps us f = record {
  clusters = [];
  ds = none ps;
  end = ends us;
  is = λ s at log g. let z : at + 0 ≡ at = omega arith in rw (z, gains_none s g ps);
  further = λ h vs s at log g. let z : at + 0 ≡ at = omega arith in rw (z, gains_none s g ps);
  all = none_long ps;
  few = omega arith;
  tells = record { rest = rw f; read = omega arith; due = sym (none_non_zero ps); words = λ w. (none_words ps, w) };
}

-- the symbols xs were read before
pub stop_later : {Due Remains Due' Remains' : List ℕ → Type 0} (xs us us' : List ℕ) (k k' : ℕ) (why : ℕ → Refusal) → us' ≡ xs ++ us → k' ≡ length xs + k
    → ((s : List ℕ) → Due s → Due' (xs ++ s)) → ((s : List ℕ) → Remains s → Remains' (xs ++ s)) → Stop Due Remains us k why → Stop Due' Remains' us' k' why
stop_later {Due} {Remains} {Due'} {Remains'} xs us us' k k' why e f d r = go
  where
    long : length us' ≡ length xs + length us
    long = ap length e ∙ length-append xs us

    behind : {Q Q' : List ℕ → Type 0} → ((s : List ℕ) → Q s → Q' (xs ++ s)) → ReadOf Q us k → ReadOf Q' us' k'
    behind g q = record {
      s = xs ++ q.s;
      vs = q.vs;
      are = e ∙ ap (λ (l : List ℕ). xs ++ l) q.are ∙ sym (append_assoc xs q.s q.vs);
      long = omega (arith, f, q.long, length-append xs q.s);
      told = g q.s q.told;
    }

    go : Stop Due Remains us k why → Stop Due' Remains' us' k' why
    go (symbols_end w q) = symbols_end w (omega (arith, f, q, long))
    go (count w q) = count w (omega (arith, f, q, long))
    go (too_many_zeros w q) = too_many_zeros w (behind d q)
    go (count_remaining w q) = count_remaining w (behind r q)

due_later : (u n m : ℕ) → less u n ≡ m → suc n ≡ more u m
due_later zero n m e = e
due_later (suc u) n m e = ap suc e

many_later : (blocks i prev n u p : ℕ) (ps ds : List ℕ) → TooMany blocks (i + 1) (flag u) (less u n) ps ds → TooMany blocks i prev (suc n) (p ∷ ps) (u ∷ ds)
unfolding non_zeros
many_later blocks i prev n zero p ps ds t f = let q = t (omega arith) in (omega (arith, q.0), omega (arith, q.1))
many_later blocks i prev n (suc u) p ps ds t f = let q = t (omega arith) in (omega (arith, q.0), omega (arith, q.1))

few_later : (n u p : ℕ) (ps ds : List ℕ) → TooFew (less u n) ps ds → TooFew (suc n) (p ∷ ps) (u ∷ ds)
unfolding non_zeros
few_later n zero p ps ds t = (ap suc t.0, t.1)
few_later n (suc u) p ps ds t = (ap suc t.0, omega (arith, t.1))

tells_later : (blocks i prev n u k p : ℕ) (ps us ds : List ℕ) (e : End) → Tells blocks (i + 1) (flag u) (less u n) ps us k ds e → Tells blocks i prev (suc n) (p ∷ ps) (u ∷ us) (suc k) (u ∷ ds) e
unfolding non_zeros up_to
tells_later blocks i prev n u k p ps us ds (ends us') t =
    let r = t.read in
    record { rest = ap (λ (l : List ℕ). u ∷ l) t.rest; read = omega arith; due = due_later u n (non_zeros ds) t.due; words = λ w. let q = t.words w.1 in ((w.0, q.0), q.1) }
tells_later blocks i prev n u k p ps us ds (stops why) t =
    stop_later (u ∷ []) us (u ∷ us) k (suc k) why refl (omega arith) (λ s. unfold non_zeros in many_later blocks i prev n u p ps s) (λ s. unfold non_zeros in few_later n u p ps s) t

-- a symbol was read before
later : (blocks i prev n u k p : ℕ) (ps us : List ℕ) (F : ℕ → ℕ → List ℕ → List ℕ → Walked) (F' : List ℕ → ℕ → ℕ → List ℕ → List ℕ → Walked) → Run blocks (i + 1) (flag u) (less u n) ps us F F'
    → Run blocks i prev (suc n) (p ∷ ps) (u ∷ us) (λ s at log g. F s (at + 1) (set log at k) (gain s g p u)) (λ vs s at log g. F' vs s (at + 1) (set log at k) (gain s g p u))
later blocks i prev n u k p ps us F F' r = record {
  clusters = k ∷ r.clusters;
  ds = u ∷ r.ds;
  end = r.end;
  is = λ s at log g. r.is s (at + 1) (set log at k) (gain s g p u) ∙ shifted s at log g r.end;
  further = λ h vs s at log g. r.further h vs s (at + 1) (set log at k) (gain s g p u) ∙ shifted s at log g (longer vs r.end);
  all = ap suc r.all;
  few = let m = r.few in omega arith;
  tells = tells_later blocks i prev n u (length r.clusters) p ps us r.ds r.end r.tells;
}
  where
    shifted : (s at : ℕ) (log g : List ℕ) (e : End) → walked_by e (at + 1 + length r.clusters) (sets (set log at k) (at + 1) r.clusters) (gains s (gain s g p u) ps r.ds)
        ≡ walked_by e (at + suc (length r.clusters)) (sets (set log at k) (suc at) r.clusters) (gains s (gain s g p u) ps r.ds)
    shifted s at log g e =
        ap₂ (λ (m q : ℕ). walked_by e m (sets (set log at k) q r.clusters) (gains s (gain s g p u) ps r.ds)) (omega arith) (add-one at)

module _ (blocks : ℕ) (coeff_map : List ℕ) where
  -- 17 before a symbol is read: more are due than places remain, or the context would be below 458
  too_many : (i prev n p : ℕ) (ps us : List ℕ) → ltb (coeff_context blocks n i prev) 458 ≡ false → Stop (TooMany blocks i prev (suc n) (p ∷ ps)) (TooFew (suc n) (p ∷ ps)) us 0 TooManyZeros
  unfolding non_zeros
  too_many i prev n p ps us t = too_many_zeros refl (record { s = []; vs = us; are = refl; long = refl; told = λ f. (omega arith, by f (le_or_lt (suc n + i) (63 * blocks))) })
    where
      by : prev ≤ 1 → (suc n + i ≤ 63 * blocks) ⊎ (63 * blocks < suc n + i) → 63 * blocks + 0 < i + 0 + suc n
      by f (inl h) = absurd (omega (arith, context_below blocks n i prev h f, ltb-false (coeff_context blocks n i prev) 458 t))
      by f (inr h) = omega (arith, h)

  pub run : (ps : List ℕ) (i prev n : ℕ) (us : List ℕ)
      → Run blocks i prev n ps us (λ s at log g. walk s blocks coeff_map ps i prev n us at log g) (λ vs s at log g. walk s blocks coeff_map ps i prev n (us ++ vs) at log g)
  unfolding walk up_to non_zeros
  run [] i prev zero us = ends_here blocks i prev [] us refl
  run [] i prev (suc n) us =
      stops_here blocks i prev (suc n) [] us _ CountRemaining (count_remaining refl (record { s = []; vs = us; are = refl; long = refl; told = (refl, omega arith) }))
  run (p ∷ ps) i prev zero us = ends_here blocks i prev (p ∷ ps) us refl
  run (p ∷ ps) i prev (suc n) [] = go (ltb (coeff_context blocks n i prev) 458) refl
    where
      go : (b : Bool) → ltb (coeff_context blocks n i prev) 458 ≡ b
          → Run blocks i prev (suc n) (p ∷ ps) [] (λ s at log g. cond b (stopped SymbolsEnd at log g) (stopped TooManyZeros at log g)) (λ vs s at log g. walk s blocks coeff_map (p ∷ ps) i prev (suc n) vs at log g)
      go true t = stops_here blocks i prev (suc n) (p ∷ ps) [] _ SymbolsEnd (symbols_end refl refl)
      go false t = stops_here blocks i prev (suc n) (p ∷ ps) [] _ TooManyZeros (too_many i prev n p ps [] t)
  run (p ∷ ps) i prev (suc n) (u ∷ us) =
      either blocks i prev (suc n) (p ∷ ps) (u ∷ us) (ltb (coeff_context blocks n i prev) 458) _ _ _ _
      (later blocks i prev n u (get_or coeff_map (coeff_context blocks n i prev) 0) p ps us _ _ (run ps (i + 1) (flag u) (less u n) us))
      (λ t. stops_here blocks i prev (suc n) (p ∷ ps) (u ∷ us) (λ vs s at log g. stopped TooManyZeros at log g) TooManyZeros (too_many i prev n p ps (u ∷ us) t))

-- Symbols that are sent are read.
pub non_zeros_le : (ds : List ℕ) → non_zeros ds ≤ length ds
unfolding non_zeros
non_zeros_le [] = omega arith
non_zeros_le (zero ∷ ds) = omega (arith, non_zeros_le ds)
non_zeros_le (suc d ∷ ds) = omega (arith, non_zeros_le ds)

gains_zeros : (s : ℕ) (g ps ds : List ℕ) → non_zeros ds ≡ 0 → gains s g ps ds ≡ g
unfolding non_zeros
gains_zeros s g ps [] e = refl
gains_zeros s g [] (d ∷ ds) e = refl
gains_zeros s g (p ∷ ps) (zero ∷ ds) e = gains_zeros s g ps ds e
gains_zeros s g (p ∷ ps) (suc d ∷ ds) e = absurd (omega arith)

module _ (s blocks : ℕ) (coeff_map : List ℕ) where
  -- a walk that reads rest and adds ds
  pub record Sent (ps ds : List ℕ) (i prev n : ℕ) (rest : List ℕ) (at : ℕ) (log g : List ℕ) : Type 0 where
    pub at' : ℕ
    pub log' : List ℕ
    pub is : walk s blocks coeff_map ps i prev n (up_to n ds ++ rest) at log g ≡ done rest at' log' (gains s g ps ds)

  pub walk_sent : (ps ds : List ℕ) (i prev n : ℕ) (rest : List ℕ) (at : ℕ) (log g : List ℕ) → length ds ≡ length ps → n ≡ non_zeros ds → i + length ps ≤ 63 * blocks → prev ≤ 1
      → Sent ps ds i prev n rest at log g
  unfolding walk up_to non_zeros
  walk_sent [] [] i prev n rest at log g l e b f = record { at' = at; log' = log; is = rw e }
  walk_sent [] (d ∷ ds) i prev n rest at log g l e b f = absurd (omega arith)
  walk_sent (p ∷ ps) [] i prev n rest at log g l e b f = absurd (omega arith)
  walk_sent (p ∷ ps) (d ∷ ds) i prev zero rest at log g l e b f = record { at' = at; log' = log; is = rw (gains_zeros s g (p ∷ ps) (d ∷ ds) (unfold non_zeros in sym e)) }
  walk_sent (p ∷ ps) (zero ∷ ds) i prev (suc n) rest at log g l e b f =
      let r = walk_sent ps ds (i + 1) 0 (suc n) rest (at + 1) (set log at (get_or coeff_map (coeff_context blocks n i prev) 0)) g (omega arith) e (omega arith) (omega arith) in
      record { at' = r.at'; log' = r.log'; is = rw (lt-ltb (coeff_context blocks n i prev) 458 (context_below blocks n i prev (omega (arith, non_zeros_le ds)) f)) r.is }
  walk_sent (p ∷ ps) (suc d ∷ ds) i prev (suc n) rest at log g l e b f =
      let r = walk_sent ps ds (i + 1) 1 n rest (at + 1) (set log at (get_or coeff_map (coeff_context blocks n i prev) 0)) (gain s g p (suc d)) (omega arith) (omega arith) (omega arith) (omega arith) in
      record { at' = r.at'; log' = r.log'; is = rw (lt-ltb (coeff_context blocks n i prev) 458 (context_below blocks n i prev (omega (arith, non_zeros_le ds)) f)) r.is }
