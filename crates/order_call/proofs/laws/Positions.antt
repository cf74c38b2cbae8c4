-- Where the order call's 13 stands (document 01, Refused).
use Rattle.std.specs.Prelude.{◌≡◌, refl, Bool, true, false, List, ℕ, ◌*◌, ◌≤◌, eqb, length}
use Rattle.std.proofs.Common.{ap, subst, ◌∙◌, inl, inr, arith}
use Rattle.refusal.specs.declared.Refusal.{Refusal}
use Rattle.refusal.specs.declared.Refusal.TheVariants as refusal
use Rattle.refusal.specs.declared.Said.{Said}
use Rattle.refusal.specs.Said.{said}
use Rattle.refusal.specs.Answer.{refuses, unless, passed, answered_by}
use Rattle.bits.specs.Bits.{Read, Value, Ended}
use Rattle.order_natural.specs.Places.{Place}
use Rattle.order_store.specs.Store.{PLACES}
use Rattle.order_call.specs.Orders.{FromSymbols, Given, Refused, orders, Stops}
use Rattle.order_call.specs.Call.{outcome, used_orders, outcome_of, read, parsed, Reached}
use Rattle.order_call.proofs.laws.Accepted.{orders_refused}

by_stop : (all : ℕ) (why : Refusal) → Stops 0 all why → (said why).number ≡ 13 → Reached all (said why)
by_stop all why (inl e) n = absurd (let z : ◌≡◌ {A = ℕ} 15 13 = rw e at n in omega arith)
by_stop all why (inr s) n = let (m, e, a, b) = s in rw e (record { some = omega arith; most = omega arith; second = refl })

module _ (symbols : List ℕ) (why : Said) (n : why.number ≡ 13) where
  by_orders : (used : ℕ) (r : FromSymbols (List (List Place))) → orders used symbols ≡ r → (outcome_of r).answer ≡ refuses why → Reached (length symbols) why
  by_orders used (Given ls us at) e f = absurd (let z : ◌≡◌ {A = ℕ} 0 1 = cc in omega arith)
  by_orders used (Refused w) e f =
      let q : said w ≡ why = cc in
      subst (Reached (length symbols)) q (by_stop (length symbols) w (orders_refused used symbols w e) (ap (λ (s : Said). s.number) q ∙ n))

  by_bits : (r : Read ℕ) (store : List ℕ) → (read r symbols store).answer ≡ refuses why → Reached (length symbols) why
  by_bits (Value used at) store f = by_orders used (orders used symbols) refl f
  by_bits (Ended at) store f = absurd (let q : said (refusal.BitsEnd at) ≡ why = cc in let z : ◌≡◌ {A = ℕ} 3 13 = ap (λ (s : Said). s.number) q ∙ n in omega arith)

  by_length : (b : Bool) (bytes store : List ℕ) → (answered_by (unless 1 b passed) (λ (s : Said). outcome (refuses s) store) (λ (u : Unit). read (used_orders bytes) symbols store)).answer ≡ refuses why
      → Reached (length symbols) why
  by_length true bytes store f = by_bits (used_orders bytes) store f
  by_length false bytes store f = absurd (let q : said refusal.Length ≡ why = cc in let z : ◌≡◌ {A = ℕ} 1 13 = ap (λ (s : Said). s.number) q ∙ n in omega arith)

module _ (bytes symbols store : List ℕ) where
  -- 13 of the order call: after 1 symbol at least, as many as there are at most
  pub order_13 : (why : Said) → (parsed bytes symbols store).answer ≡ refuses why → why.number ≡ 13 → Reached (length symbols) why
  unfolding parsed
  order_13 why e n = by_length symbols why n (eqb (length store) (2 * PLACES)) bytes store e

  -- so it is never taken for 13 of a stored place
  pub never_stored_place : (parsed bytes symbols store).answer ≡ refuses (said refusal.StoredPlace) → ⊥
  never_stored_place e = let r = order_13 (said refusal.StoredPlace) e refl in let z : 1 ≤ 0 = r.some in omega arith
