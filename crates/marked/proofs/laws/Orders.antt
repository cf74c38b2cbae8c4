-- M3, from the order call's definition.
use Rattle.std.specs.Prelude.{◌≡◌, refl, Ok, List, [], ◌∷◌, ℕ, ◌*◌, length, get_or, take, drop}
use Rattle.std.proofs.Common.{ap, ◌∙◌, arith, eq-eqb}
use Rattle.bits.specs.Bits.{read_bits, read_u32, bits_of, value_of}
use Rattle.order_sizes.specs.BlockSizes.{BLOCK_SIZES}
use Rattle.order_natural.specs.Places.{Place, flat}
use Rattle.order_natural.specs.Natural.{natural}
use Rattle.order_permutation.specs.Digits.{ordered}
use Rattle.order_store.specs.Store.{PLACES, stored, stretch}
use Rattle.order_naturals.specs.Naturals.{naturals}
use Rattle.order_call.specs.Orders.{Given, digits, one_list, orders}
use Rattle.order_call.specs.Call.{Outcome, leaves, parsed}
use Rattle.order_call.proofs.laws.Stretch.{stretch_list}

-- the lists of order 0 alone used, channel 0 with length 1 and digit 1, channels 1 and 2 with length 0
abbrev lists : List (List Place)
lists =
    ordered (0, 0) 1 (natural 8 8) (1 ∷ []) ∷ ordered (0, 0) 1 (natural 8 8) [] ∷ ordered (0, 0) 1 (natural 8 8) [] ∷ drop 3 (naturals BLOCK_SIZES)

lists_read : orders 1 (1 ∷ 1 ∷ 0 ∷ 0 ∷ []) ≡ Given lists [] 4
unfolding orders one_list digits BLOCK_SIZES
lists_read = refl

-- bits 1, 1: a field of 13 bits; its lowest bit: order 0
digit_call : (earlier : List ℕ) → length earlier ≡ 2 * PLACES → parsed (7 ∷ 0 ∷ []) (1 ∷ 1 ∷ 0 ∷ 0 ∷ []) earlier ≡ leaves (Ok 4) (stored lists)
unfolding parsed read_u32 read_bits bits_of value_of
digit_call earlier e = rw (eq-eqb (length earlier) (2 * PLACES) e, lists_read)

first_places : take 8 (flat (get_or lists 0 [])) ≡ 0 ∷ 0 ∷ 0 ∷ 1 ∷ 1 ∷ 0 ∷ 0 ∷ 2 ∷ []
unfolding natural
first_places = refl

pub one_digit : (earlier : List ℕ) → length earlier ≡ 2 * PLACES → take 8 (stretch (parsed (7 ∷ 0 ∷ []) (1 ∷ 1 ∷ 0 ∷ 0 ∷ []) earlier).store 0 0) ≡ 0 ∷ 0 ∷ 0 ∷ 1 ∷ 1 ∷ 0 ∷ 0 ∷ 2 ∷ []
one_digit earlier e =
    ap (λ (o : Outcome). take 8 (stretch o.store 0 0)) (digit_call earlier e)
    ∙ ap (λ (l : List ℕ). take 8 l) (stretch_list 1 (1 ∷ 1 ∷ 0 ∷ 0 ∷ []) lists [] 4 lists_read 0 0 (omega arith) (omega arith)) ∙ first_places
