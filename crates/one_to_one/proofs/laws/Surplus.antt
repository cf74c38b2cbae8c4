-- Surplus symbols are accepted (document 01, Orders and Coefficients): whatever follows the symbols of an accepted call, it answers
-- and leaves the same.
use Rattle.std.specs.Prelude.{◌≡◌, true, false, ltb, leb, eqb, length}
use Rattle.std.proofs.Math.Path.{refl, ap}
use Rattle.std.proofs.Common.{sym, ◌∙◌, arith}
use Rattle.std.proofs.Math.Bool.{Bool}
use mathlib.Core.List.{List, [], ◌∷◌, ◌++◌}
use Prim.Native.Nat.{ℕ, zero, suc, ◌+◌, ◌*◌, ◌-◌, ◌/◌}
use Rattle.std.proofs.lemmas.List.Edits.{sets}
use Rattle.refusal.specs.Said.{said}
use Rattle.refusal.specs.declared.Said.{Said}
use Rattle.refusal.specs.Answer as answer
use Rattle.bits.specs.Bits.{Read, Value, Ended}
use Rattle.order_sizes.specs.BlockSizes.{BLOCK_SIZES}
use Rattle.order_natural.specs.Places.{Place}
use Rattle.order_store.specs.Store.{PLACES}
use Rattle.order_call.specs.Orders as orders
use Rattle.order_call.specs.Call as order_call
use Rattle.order_call.specs.Call.{parsed}
use Rattle.refusal.specs.Answer.{gives}
use Rattle.coeff_group.specs.Group.{PerChannel}
use Rattle.coeff_group.specs.PassGroup.{varblocks, items_of}
use Rattle.coeff_call.specs.Call.{Lent, Outcome, outcome_of, call}
use Rattle.one_to_one.specs.Filling.{with_symbols}
use Rattle.coeff_group.specs.laws.Cells.{adds}
use Rattle.coeff_group.specs.laws.Reads.{End, ends, stops, read_by, longer, Goes, joined}
use Rattle.one_to_one.specs.laws.Ways.{Way, before, work}
use Rattle.one_to_one.proofs.laws.Ways.{way, no_answer, did}
use Rattle.coeff_group.specs.Sequence.{read_cells}
use Rattle.one_to_one.specs.laws.Surplus.{Surplus}

module _ (more : List ℕ) (L : Lent) where
  same_end : (e : End) (at : ℕ) (log : List ℕ) (G : PerChannel) (n : ℕ) → (outcome_of (read_by e at log G)).answer ≡ gives n → Goes e × (outcome_of (read_by (longer more e) at log G) ≡ outcome_of (read_by e at log G))
  same_end (ends us rows) at log G n e = (tt, refl)
  same_end (stops why) at log G n e = absurd (no_answer (said (why at)) n e)

  by_way : Way L → (n : ℕ) → (call L).answer ≡ gives n → call (with_symbols L (L.symbols ++ more)) ≡ call L
  by_way (before s t e) n a = absurd (no_answer s n (sym (ap (λ (o : Outcome). o.answer) (e L.symbols L.log refl)) ∙ a))
  by_way (work passed preset e) n a =
      let d = did L preset in
      let G = adds L.shift L.grids (read_cells (items_of L.pass_group (varblocks L.pass_group))) (joined d.dss) in
      let c : call L ≡ outcome_of (read_by d.end (length d.clusters) (sets L.log 0 d.clusters) G) = e L.symbols L.log refl ∙ ap outcome_of (d.is L.log) in
      let s = same_end d.end (length d.clusters) (sets L.log 0 d.clusters) G n (sym (ap (λ (o : Outcome). o.answer) c) ∙ a) in
      e (L.symbols ++ more) L.log refl ∙ ap outcome_of (d.further s.0 more) ∙ s.1 ∙ sym c

  -- a call that is accepted stays so, with the same answer, log and grids, whatever symbols follow
  pub surplus : Surplus more L
  surplus = by_way (way L)

-- The same of the order call.
module _ (more : List ℕ) where
  abbrev more_given : {A : Type 0} → orders.FromSymbols A → orders.FromSymbols A
  more_given (orders.Given a us at) = orders.Given a (us ++ more) at
  more_given (orders.Refused why) = orders.Refused why

  abbrev Gives : {A : Type 0} → orders.FromSymbols A → Type 0
  Gives (orders.Given a us at) = Unit
  Gives (orders.Refused why) = ⊥

  check_more : {A : Type 0} (ok : Bool) (at : ℕ) (r r' : orders.FromSymbols A) → (Gives r → r' ≡ more_given r) → Gives (orders.check ok at r) → orders.check ok at r' ≡ more_given (orders.check ok at r)
  check_more true at r r' f e = f e
  check_more false at r r' f e = absurd e

  then_more : {A B : Type 0} (r r' : orders.FromSymbols A) (k : A → List ℕ → ℕ → orders.FromSymbols B) → (Gives r → r' ≡ more_given r)
      → ((a : A) (us : List ℕ) (at : ℕ) → Gives (k a us at) → k a (us ++ more) at ≡ more_given (k a us at)) → Gives (orders.and_then r k) → orders.and_then r' k ≡ more_given (orders.and_then r k)
  then_more (orders.Given a us at) r' k f g e = rw (f tt) (g a us at e)
  then_more (orders.Refused why) r' k f g e = absurd e

  digits_more : (n left : ℕ) (us : List ℕ) (at : ℕ) → Gives (orders.digits n left us at) → orders.digits n left (us ++ more) at ≡ more_given (orders.digits n left us at)
  unfolding orders.digits
  digits_more zero left us at e = refl
  digits_more (suc n) left [] at e = absurd e
  digits_more (suc n) left (u ∷ us) at e =
      check_more (ltb u left) (at + 1) _ _
      (then_more (orders.digits n (left - 1) us (at + 1)) _ (λ ds. orders.Given (u ∷ ds)) (digits_more n (left - 1) us (at + 1)) (λ a vs k f. refl)) e

  list_more : (bw bh : ℕ) (us : List ℕ) (at : ℕ) → Gives (orders.one_list bw bh us at) → orders.one_list bw bh (us ++ more) at ≡ more_given (orders.one_list bw bh us at)
  unfolding orders.one_list
  list_more bw bh [] at e = absurd e
  list_more bw bh (n ∷ us) at e =
      check_more (leb n (bw * bh - bw * bh / 64)) (at + 1) _ _
      (then_more (orders.digits n (bw * bh - bw * bh / 64) us (at + 1)) _ _ (digits_more n (bw * bh - bw * bh / 64) us (at + 1)) (λ a vs k f. refl)) e

  entry_more : (used : Bool) (bw bh : ℕ) (us : List ℕ) (at : ℕ) → Gives (orders.entry_list used bw bh us at) → orders.entry_list used bw bh (us ++ more) at ≡ more_given (orders.entry_list used bw bh us at)
  entry_more true bw bh us at e = list_more bw bh us at e
  entry_more false bw bh us at e = refl

  lists_more : (es : List orders.Entry) (us : List ℕ) (at : ℕ) → Gives (orders.lists es us at) → orders.lists es (us ++ more) at ≡ more_given (orders.lists es us at)
  lists_more [] us at e = refl
  lists_more (s ∷ es) us at e =
      then_more (orders.entry_list s.used s.width s.height us at) _ _ (entry_more s.used s.width s.height us at)
      (λ l vs k. then_more (orders.lists es vs k) _ _ (lists_more es vs k) (λ a ws j f. refl)) e

  module _ (bytes symbols store : List ℕ) where
    was_given : (r : orders.FromSymbols (List (List Place))) (n : ℕ) → (order_call.outcome_of r).answer ≡ answer.gives n → Gives r
    was_given (orders.Given ls us at) n e = tt
    was_given (orders.Refused why) n e = let z : ◌≡◌ {A = ℕ} 0 1 = cc in absurd (omega arith)

    same_written : (r : orders.FromSymbols (List (List Place))) → order_call.outcome_of (more_given r) ≡ order_call.outcome_of r
    same_written (orders.Given ls us at) = refl
    same_written (orders.Refused why) = refl

    by_bits : (R : Read ℕ) (n : ℕ) → (order_call.read R symbols store).answer ≡ answer.gives n → order_call.read R (symbols ++ more) store ≡ order_call.read R symbols store
    unfolding orders.orders
    by_bits (Ended at) n e = refl
    by_bits (Value used at) n e =
        let l = orders.plan used 0 BLOCK_SIZES in
        ap order_call.outcome_of (lists_more l symbols 0 (was_given (orders.lists l symbols 0) n e)) ∙ same_written (orders.lists l symbols 0)

    -- an accepted order call stays so, with the same store, whatever symbols follow
    pub surplus_orders : (n : ℕ) → (parsed bytes symbols store).answer ≡ answer.gives n → parsed bytes (symbols ++ more) store ≡ parsed bytes symbols store
    unfolding parsed
    surplus_orders n e = go (eqb (length store) (2 * PLACES)) e
      where
        again : List ℕ → Bool → order_call.Outcome
        again us b = answer.answered_by (answer.unless 1 b answer.passed) (λ (s : Said). order_call.outcome (answer.refuses s) store) (λ (u : Unit). order_call.read (order_call.used_orders bytes) us store)

        go : (b : Bool) → (again symbols b).answer ≡ answer.gives n → again (symbols ++ more) b ≡ again symbols b
        go true f = by_bits (order_call.used_orders bytes) n f
        go false f = refl
