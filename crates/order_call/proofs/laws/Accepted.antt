-- What an accepted order call gives, and when a refused one stops.
use Rattle.std.specs.Prelude.{◌≡◌, refl, false, List, [], ◌∷◌, ℕ, zero, suc, ◌+◌, ◌*◌, ◌<◌, T, length, get_or}
use Rattle.std.proofs.Common.{ap, ◌∙◌, not-suc-le-zero, le_of_suc-le-suc, zero-add, arith}
use Rattle.std.specs.Float.Ieee.Fits.{and_l, and_r}
use Rattle.order_natural.specs.Places.{Place}
use Rattle.laws.specs.Tables.{every}
use Rattle.refusal.specs.declared.Refusal.{Refusal}
use Rattle.order_sizes.specs.BlockSizes.{BLOCK_SIZES, width_of, height_of}
use Rattle.order_natural.specs.laws.Sizes.{right}
use Rattle.order_natural.proofs.laws.Sizes.{of_right, all_right}
use Rattle.order_call.specs.Orders.{FromSymbols, Given, Refused, Entry, entry, plan, is_used, orders, Stops}
use Rattle.order_call.specs.laws.Read.{Holds, ListGiven, Sized, Each, AllGiven}
use Rattle.order_call.proofs.laws.Read.{lists_give}
use Rattle.order_call.specs.laws.Accepted.{Accepted}

plan_sized : (used k : ℕ) (ss : List Place) → T (every right ss) → Sized (plan used k ss)
plan_sized used k [] t = tt
plan_sized used k (s ∷ ss) t =
    let z = of_right s (and_l (right s) (every right ss) t) in
    (z, (z, (z, plan_sized used (k + 1) ss (and_r (right s) (every right ss) t))))

pub plan_length : (used k : ℕ) (ss : List Place) → length (plan used k ss) ≡ 3 * length ss
plan_length used k [] = refl
plan_length used k (s ∷ ss) = let r = plan_length used (k + 1) ss in omega arith

-- entry 3 k + c is order o + k
plan_from : (used o : ℕ) (ss : List Place) (k c : ℕ) (d : Entry) → k < length ss → c < 3 → get_or (plan used o ss) (3 * k + c) d ≡ entry (is_used used (o + k)) (get_or ss k (0, 0))
plan_from used o [] k c d h l = absurd (not-suc-le-zero h)
plan_from used o (s ∷ ss) zero c d h l = let e : o + 0 ≡ o = omega arith in rw e (go c l)
  where
    go : (c : ℕ) → c < 3 → get_or (plan used o (s ∷ ss)) (0 + c) d ≡ entry (is_used used o) s
    go zero l = refl
    go (suc zero) l = refl
    go (suc (suc zero)) l = refl
    go (suc (suc (suc c))) l = absurd (omega arith)
plan_from used o (s ∷ ss) (suc k) c d h l =
    let i : 3 * suc k + c ≡ suc (suc (suc (3 * k + c))) = omega arith in
    let e : o + 1 + k ≡ o + suc k = omega arith in
    rw (i, ← e) (plan_from used (o + 1) ss k c d (le_of_suc-le-suc h) l)

-- and order k from the first on
pub plan_at : (used : ℕ) (ss : List Place) (k c : ℕ) (d : Entry) → k < length ss → c < 3 → get_or (plan used 0 ss) (3 * k + c) d ≡ entry (is_used used k) (get_or ss k (0, 0))
plan_at used ss k c d h l = plan_from used 0 ss k c d h l ∙ ap (λ (j : ℕ). entry (is_used used j) (get_or ss k (0, 0))) (zero-add k)

each_length : (es : List Entry) (ls : List (List Place)) → Each es ls → length ls ≡ length es
each_length [] [] h = refl
each_length [] (l ∷ ls) h = absurd h
each_length (e ∷ es) [] h = absurd h
each_length (e ∷ es) (l ∷ ls) h = ap suc (each_length es ls h.1)

each_at : (es : List Entry) (ls : List (List Place)) → Each es ls → (i : ℕ) (d : Entry) → i < length es → ListGiven (get_or es i d).used (get_or es i d).width (get_or es i d).height (get_or ls i [])
each_at [] ls h i d l = absurd (not-suc-le-zero l)
each_at (e ∷ es) [] h i d l = absurd h
each_at (e ∷ es) (m ∷ ls) h zero d l = h.0
each_at (e ∷ es) (m ∷ ls) h (suc i) d l = each_at es ls h.1 i d (le_of_suc-le-suc l)

accept : (used : ℕ) (us : List ℕ) (ls : List (List Place)) (vs : List ℕ) (m : ℕ) → AllGiven (plan used 0 BLOCK_SIZES) 0 (length us) ls vs m → Accepted used us ls vs m
unfolding BLOCK_SIZES width_of height_of
accept used us ls vs m g =
    record {
      entries = g.0;
      many = each_length (plan used 0 BLOCK_SIZES) ls g.0 ∙ plan_length used 0 BLOCK_SIZES;
      list = λ k c h l.
          let d : Entry = entry false (0, 0) in
          rw (plan_at used BLOCK_SIZES k c d h l) at (each_at (plan used 0 BLOCK_SIZES) ls g.0 (3 * k + c) d (omega (arith, plan_length used 0 BLOCK_SIZES)));
      read = g.1.left;
    }

pub given : {A : Type 0} (P : A → List ℕ → ℕ → Type 0) (Q : Refusal → Type 0) (r : FromSymbols A) (a : A) (us : List ℕ) (at : ℕ) → r ≡ Given a us at → Holds P Q r → P a us at
given P Q r a us at e h = rw e at h

refused : {A : Type 0} (P : A → List ℕ → ℕ → Type 0) (Q : Refusal → Type 0) (r : FromSymbols A) (why : Refusal) → r ≡ Refused why → Holds P Q r → Q why
refused P Q r why e h = rw e at h

whole : (used : ℕ) (us : List ℕ) → Holds (AllGiven (plan used 0 BLOCK_SIZES) 0 (length us)) (Stops 0 (length us)) (orders used us)
unfolding orders
whole used us = lists_give (plan used 0 BLOCK_SIZES) (plan_sized used 0 BLOCK_SIZES all_right) us 0 (length us) (omega arith)

pub orders_accepted : (used : ℕ) (us : List ℕ) (ls : List (List Place)) (vs : List ℕ) (m : ℕ) → orders used us ≡ Given ls vs m → Accepted used us ls vs m
orders_accepted used us ls vs m e =
    accept used us ls vs m (given (AllGiven (plan used 0 BLOCK_SIZES) 0 (length us)) (Stops 0 (length us)) (orders used us) ls vs m e (whole used us))

-- refused: 15 only with every symbol read, 13 with the refused length or digit counted among those read
pub orders_refused : (used : ℕ) (us : List ℕ) (why : Refusal) → orders used us ≡ Refused why → Stops 0 (length us) why
orders_refused used us why e = refused (AllGiven (plan used 0 BLOCK_SIZES) 0 (length us)) (Stops 0 (length us)) (orders used us) why e (whole used us)
