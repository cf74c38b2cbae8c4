-- Laws: A lent group for examples: the default contexts, no LF grids, natural orders, one preset, all as the calls themselves hand them on.
use Rattle.std.specs.Prelude.{◌≡◌, refl, Ok, true, [], ◌∷◌, ℕ, zero, suc, ◌+◌, ◌*◌, ◌<◌, length, get_or, replicate}
use Rattle.std.proofs.Common.{ap, ◌∙◌, arith, eq-eqb}
use Rattle.std.proofs.lemmas.List.{length-replicate}
use Rattle.bits.specs.Bits.{read_bits, read_u32, bits_of, value_of}
use Rattle.order_sizes.specs.BlockSizes.{BLOCK_SIZES}
use Rattle.order_natural.specs.Places.{flat}
use Rattle.order_natural.specs.Natural.{natural}
use Rattle.order_store.specs.Store.{PLACES, stretch, places_fit}
use Rattle.order_naturals.specs.Naturals.{naturals}
use Rattle.order_call.specs.Call as order
use Rattle.order_call.proofs.laws.Accepts.{orders_unused}
use Rattle.order_call.proofs.laws.Stretch.{store_length, stretch_list, accepted_fits}
use Rattle.order_call.specs.Call.{Wrote}
use Rattle.context_call.specs.Call as context
use Rattle.one_to_one.specs.Plain.{defaults, store}

pub store_long : length store ≡ 2 * PLACES
unfolding store
store_long = store_length 0 [] (naturals BLOCK_SIZES) [] 0 (orders_unused [])

pub store_fits : places_fit store ≡ true
unfolding store
store_fits = accepted_fits 0 [] (naturals BLOCK_SIZES) [] 0 (orders_unused [])

list_of : (k c : ℕ) → k < 13 → c < 3 → stretch store k c ≡ flat (get_or (naturals BLOCK_SIZES) (3 * k + c) [])
unfolding store
list_of k c h l = stretch_list 0 [] (naturals BLOCK_SIZES) [] 0 (orders_unused []) k c h l

list_0 : (c : ℕ) → c < 3 → get_or (naturals BLOCK_SIZES) (3 * 0 + c) [] ≡ natural 8 8
unfolding BLOCK_SIZES
list_0 zero l = refl
list_0 (suc zero) l = refl
list_0 (suc (suc zero)) l = refl
list_0 (suc (suc (suc c))) l = absurd (omega arith)

list_2 : (c : ℕ) → c < 3 → get_or (naturals BLOCK_SIZES) (3 * 2 + c) [] ≡ natural 16 16
unfolding BLOCK_SIZES
list_2 zero l = refl
list_2 (suc zero) l = refl
list_2 (suc (suc zero)) l = refl
list_2 (suc (suc (suc c))) l = absurd (omega arith)

-- order 0 and order 2, in each channel
pub order_0 : (c : ℕ) → c < 3 → stretch store 0 c ≡ flat (natural 8 8)
order_0 c l = list_of 0 c (omega arith) l ∙ ap flat (list_0 c l)

pub order_2 : (c : ℕ) → c < 3 → stretch store 2 c ≡ flat (natural 16 16)
order_2 c l = list_of 2 c (omega arith) l ∙ ap flat (list_2 c l)

-- used orders 0 is two bits, 0 and 1
unused_call : order.parsed (2 ∷ []) [] (replicate (2 * PLACES) 0) ≡ order.leaves (Ok 0) store
unfolding order.parsed read_u32 read_bits bits_of value_of store
unused_call = rw (eq-eqb (length (replicate {A = ℕ} (2 * PLACES) 0)) (2 * PLACES) (length-replicate (2 * PLACES) 0), orders_unused [])

pub store_wrote : Wrote store
store_wrote = record { bytes = 2 ∷ []; symbols = []; earlier = replicate (2 * PLACES) 0; count = 0; call = unused_call }

-- what the context call hands back for first bit 1
pub defaults_read : context.parsed (1 ∷ []) 0 [] ≡ context.accepted 1 defaults
unfolding context.parsed read_bits bits_of value_of
defaults_read = refl
