-- Laws: What a reading gives, and where a refusal stands.
use Rattle.std.specs.Prelude.{◌≡◌, refl, Bool, true, false, List, [], ◌∷◌, ℕ, zero, suc, ◌+◌, ◌*◌, ◌-◌, ◌/◌, ◌≤◌, ltb, leb, length}
use Rattle.std.proofs.Common.{ap, sym, ◌∙◌, inl, inr, arith, length-append, ltb-true}
use Rattle.refusal.specs.declared.Refusal.{Refusal}
use Rattle.refusal.specs.declared.Refusal.TheVariants as refusal
use Rattle.order_natural.specs.Places.{Place}
use Rattle.order_natural.specs.Natural.{natural}
use Rattle.order_natural.specs.Order.{Size}
use Rattle.order_permutation.specs.Digits.{ordered}
use Rattle.order_call.specs.Orders.{FromSymbols, Given, Refused, and_then, check, digits, one_list, Entry, entry_list, lists, Stops}
use Rattle.order_natural.proofs.laws.Order.{natural_order}
use Rattle.order_permutation.specs.laws.Chosen.{ordered_order}
use Rattle.order_call.specs.laws.Read.{Holds, Took, OneGiven, EntryGiven, Sized, AllGiven}

stops_later : (at at' all : ℕ) (why : Refusal) → at ≤ at' → Stops at' all why → Stops at all why
stops_later at at' all why h (inl s) = inl s
stops_later at at' all why h (inr s) = let (m, e, a, b) = s in inr (m, e, omega arith, b)

then_holds : {A B : Type 0} (P : A → List ℕ → ℕ → Type 0) (P' : B → List ℕ → ℕ → Type 0) (Q : Refusal → Type 0) (r : FromSymbols A) (k : A → List ℕ → ℕ → FromSymbols B)
    → Holds P Q r → ((a : A) (us : List ℕ) (at : ℕ) → P a us at → Holds P' Q (k a us at)) → Holds P' Q (and_then r k)
then_holds P P' Q (Given a us at) k h f = f a us at h
then_holds P P' Q (Refused why) k h f = h

check_holds : {A : Type 0} (P : A → List ℕ → ℕ → Type 0) (Q : Refusal → Type 0) (b : Bool) (at : ℕ) (r : FromSymbols A)
    → (b ≡ true → Holds P Q r) → Q (refusal.Order at) → Holds P Q (check b at r)
check_holds P Q true at r h q = h refl
check_holds P Q false at r h q = q

holds_mono : {A : Type 0} (P : A → List ℕ → ℕ → Type 0) (Q Q' : Refusal → Type 0) (r : FromSymbols A) → ((why : Refusal) → Q why → Q' why) → Holds P Q r → Holds P Q' r
holds_mono P Q Q' (Given a us at) f h = h
holds_mono P Q Q' (Refused why) f h = f why h

pub digits_give : (n left : ℕ) (us : List ℕ) (at : ℕ) → Holds (Took n left us at) (Stops at (at + length us)) (digits n left us at)
unfolding digits
digits_give zero left us at = record { below = tt; many = refl; order = refl; read = omega arith }
digits_give (suc n) left [] at = inl (ap refusal.SymbolsEnd (omega arith))
digits_give (suc n) left (u ∷ us) at =
    let e : at + 1 + length us ≡ at + suc (length us) = omega arith in
    check_holds (Took (suc n) left (u ∷ us) at) (Stops at (at + suc (length us))) (ltb u left) (at + 1) (and_then (digits n (left - 1) us (at + 1)) (λ ds. Given (u ∷ ds)))
    (λ b. then_holds (Took n (left - 1) us (at + 1)) (Took (suc n) left (u ∷ us) at) (Stops at (at + suc (length us))) (digits n (left - 1) us (at + 1)) (λ ds. Given (u ∷ ds))
    (holds_mono (Took n (left - 1) us (at + 1)) (Stops (at + 1) (at + 1 + length us)) (Stops at (at + suc (length us))) (digits n (left - 1) us (at + 1))
    (λ why s. stops_later at (at + 1) (at + suc (length us)) why (omega arith) (rw e at s))
    (digits_give n (left - 1) us (at + 1)))
    (λ ds vs m t. record {
      below = (ltb-true u left b, t.below);
      many = ap suc t.many;
      order = ap (λ (l : List ℕ). u ∷ l) t.order;
      read = omega (arith, t.read);
    }))
    (inr (at + 1, refl, omega arith, omega arith))

pub one_gives : (width height : ℕ) (us : List ℕ) (at : ℕ) → Holds (OneGiven width height us at) (Stops at (at + length us)) (one_list width height us at)
unfolding one_list
one_gives width height [] at = inl (ap refusal.SymbolsEnd (omega arith))
one_gives width height (n ∷ us) at =
    let free = width * height - width * height / 64 in
    let end : List ℕ → List ℕ → ℕ → FromSymbols (List Place) = λ ds. Given (ordered (0, 0) (width * height / 64) (natural width height) ds) in
    let e : at + 1 + length us ≡ at + suc (length us) = omega arith in
    check_holds (OneGiven width height (n ∷ us) at) (Stops at (at + suc (length us))) (leb n free) (at + 1) (and_then (digits n free us (at + 1)) end)
    (λ b. then_holds (Took n free us (at + 1)) (OneGiven width height (n ∷ us) at) (Stops at (at + suc (length us))) (digits n free us (at + 1)) end
    (holds_mono (Took n free us (at + 1)) (Stops (at + 1) (at + 1 + length us)) (Stops at (at + suc (length us))) (digits n free us (at + 1))
    (λ why s. stops_later at (at + 1) (at + suc (length us)) why (omega arith) (rw e at s))
    (digits_give n free us (at + 1)))
    (λ ds vs m t. record {
      chose = ds;
      below = t.below;
      symbols = ap (λ (k : ℕ). k ∷ us) (sym t.many) ∙ ap (λ (r : List ℕ). length ds ∷ r) t.order;
      list = refl;
      read = omega (arith, t.read, t.many);
    }))
    (inr (at + 1, refl, omega arith, omega arith))

pub holds_map : {A : Type 0} (P P' : A → List ℕ → ℕ → Type 0) (Q : Refusal → Type 0) (r : FromSymbols A) → ((a : A) (us : List ℕ) (m : ℕ) → P a us m → P' a us m) → Holds P Q r → Holds P' Q r
holds_map P P' Q (Given a us m) f h = f a us m h
holds_map P P' Q (Refused why) f h = h

of_one : (width height : ℕ) → Size width height → (us : List ℕ) (at : ℕ) (l : List Place) (vs : List ℕ) (m : ℕ) → OneGiven width height us at l vs m → EntryGiven true width height at (at + length us) l vs m
of_one width height z us at l vs m g = (
  record {
    order = rw g.list (ordered_order width height z (natural width height) (natural_order width height z) g.chose g.below);
    unused = λ f. let i : ◌≡◌ {A = ℕ} 0 1 = cc in absurd (omega arith);
  },
  record { on = omega (arith, g.read); left = omega (arith, g.read, simp length-append at (ap length g.symbols)) },
)

pub entry_gives : (used : Bool) (width height : ℕ) → Size width height → (us : List ℕ) (at : ℕ) → Holds (EntryGiven used width height at (at + length us)) (Stops at (at + length us)) (entry_list used width height us at)
entry_gives true width height z us at =
    holds_map (OneGiven width height us at) (EntryGiven true width height at (at + length us)) (Stops at (at + length us)) (one_list width height us at) (of_one width height z us at) (one_gives width height us at)
entry_gives false width height z us at = (record { order = natural_order width height z; unused = λ f. refl }, record { on = omega arith; left = refl })

pub lists_give : (es : List Entry) → Sized es → (us : List ℕ) (at all : ℕ) → at + length us ≡ all → Holds (AllGiven es at all) (Stops at all) (lists es us at)
lists_give [] z us at all e = (tt, record { on = omega arith; left = e })
lists_give (f ∷ es) z us at all e =
    then_holds (EntryGiven f.used f.width f.height at all) (AllGiven (f ∷ es) at all) (Stops at all) (entry_list f.used f.width f.height us at) (λ l us at. and_then (lists es us at) (λ ls. Given (l ∷ ls)))
    (rw e at (entry_gives f.used f.width f.height z.0 us at))
    (λ l vs m g.
    then_holds (AllGiven es m all) (AllGiven (f ∷ es) at all) (Stops at all) (lists es vs m) (λ ls. Given (l ∷ ls))
    (holds_mono (AllGiven es m all) (Stops m all) (Stops at all) (lists es vs m) (λ why s. stops_later at m all why g.1.on s) (lists_give es z.1 vs m all g.1.left))
    (λ ls ws k h. ((g.0, h.0), record { on = omega (arith, g.1.on, h.1.on); left = h.1.left })))
