-- The ways out of the order call.
use Rattle.std.specs.Prelude.{◌≡◌, List, ℕ, ◌*◌, length, Err}
use Rattle.std.proofs.Common.{ap, ◌∙◌, arith, eq-eqb, ne_eqb}
use Rattle.std.proofs.Math.Path.{sym}
use Rattle.refusal.specs.declared.Refusal.TheVariants as refusal
use Rattle.bits.specs.declared.BitPlace.{BitPlace}
use Rattle.bits.specs.Reads.{Got}
use Rattle.bits.specs.Reads.{got_value, got_end}
use Rattle.bits.specs.Bits.{Read}
use Rattle.bits.specs.Reads.{got_of}
use Rattle.bits.specs.laws.Laws.{was_value, was_end}
use Rattle.order_store.specs.Store.{PLACES}
use Rattle.order_store.specs.laws.Offsets.{places_by}
use Rattle.order_call.specs.Orders.{orders}
use Rattle.order_call.specs.Call.{Outcome, leaves, used_orders, outcome_of, read, parsed}

module _ (bytes symbols store : List ℕ) where
  pub other_length : (length store ≡ 787968 → ⊥) → leaves (Err refusal.Length) store ≡ parsed bytes symbols store
  unfolding parsed
  other_length n = rw (ne_eqb (length store) (2 * PLACES) (λ e. n (e ∙ places_by)))

  module _ (n : length store ≡ 787968) where
    read_on : parsed bytes symbols store ≡ read (used_orders bytes) symbols store
    unfolding parsed
    read_on = rw (eq-eqb (length store) (2 * PLACES) (n ∙ sym places_by))

    module _ (g : Got) (eg : g ≡ got_of 0 (used_orders bytes)) where
      pub bits_end : (taken : ℕ) → g ≡ got_end taken → leaves (Err (refusal.BitsEnd taken)) store ≡ parsed bytes symbols store
      bits_end taken e =
          let w = was_end 0 (used_orders bytes) taken (sym eg ∙ e) in
          let t : taken ≡ w.at = w.taken ∙ omega arith in
          ap (λ (k : ℕ). leaves (Err (refusal.BitsEnd k)) store) t ∙ sym (read_on ∙ ap (λ (r : Read ℕ). read r symbols store) w.is)

      pub lists_read : (used : ℕ) (q : BitPlace) (o : Outcome) → g ≡ got_value used q → o ≡ outcome_of (orders used symbols) → o ≡ parsed bytes symbols store
      lists_read used q o e f =
          let w = was_value 0 (used_orders bytes) used q (sym eg ∙ e) in
          f ∙ sym (read_on ∙ ap (λ (r : Read ℕ). read r symbols store) w.is)
