-- Laws: Stores that an accepted order call wrote.
use Rattle.std.specs.Prelude.{◌≡◌, refl, true, List, [], ℕ, ◌+◌, ◌*◌, ◌<◌, get_or, replicate}
use Rattle.std.proofs.Common.{ap, sym, ◌∙◌, arith}
use Rattle.refusal.specs.declared.Refusal.TheVariants.{BitsEnd}
use Rattle.refusal.specs.declared.Said.{Said}
use Rattle.refusal.specs.Said.{said}
use Rattle.refusal.specs.Answer.{gives, refuses}
use Rattle.refusal.specs.laws.Answer.{worked}
use Rattle.bits.specs.Bits.{Read, Value, Ended}
use Rattle.order_sizes.specs.BlockSizes.{width_of, height_of}
use Rattle.order_natural.specs.Places.{Place, flat}
use Rattle.order_natural.specs.Order.{Order}
use Rattle.order_store.specs.Store.{stored, stretch, places_fit, PLACES}
use Rattle.order_call.specs.Orders.{FromSymbols, Given, Refused, orders}
use Rattle.order_call.specs.Call.{Outcome, outcome, used_orders, outcome_of, read, before_work, parsed, Wrote}
use Rattle.order_call.proofs.laws.Accepted.{orders_accepted}
use Rattle.order_call.proofs.laws.Stretch.{stretch_list, accepted_fits}
use Rattle.order_call.specs.laws.Wrote.{Behind}

-- a refusal is no result
never : (s : Said) (kept : List ℕ) (n : ℕ) (store : List ℕ) → outcome (refuses s) kept ≡ outcome (gives n) store → ⊥
never s kept n store e = let z : ◌≡◌ {A = ℕ} 0 1 = cc (ap (λ (o : Outcome). o.answer) e) in omega arith

of_orders : (used : ℕ) (symbols store : List ℕ) (n : ℕ) (r : FromSymbols (List (List Place))) → orders used symbols ≡ r → outcome_of r ≡ outcome (gives n) store → Behind store
of_orders used symbols store n (Given ls vs m) e w =
    let s : stored ls ≡ store = ap (λ (o : Outcome). o.store) w in
    record { used = used; symbols = symbols; lists = ls; left = vs; count = m; given = e; is = sym s }
of_orders used symbols store n (Refused why) e w = absurd (never (said why) (replicate (2 * PLACES) 0) n store w)

of_read : (b : Read ℕ) (symbols earlier store : List ℕ) (n : ℕ) → read b symbols earlier ≡ outcome (gives n) store → Behind store
of_read (Value used at) symbols earlier store n e = of_orders used symbols store n (orders used symbols) refl e
of_read (Ended at) symbols earlier store n e = absurd (never (said (BitsEnd at)) earlier n store e)

pub behind : (store : List ℕ) → Wrote store → Behind store
unfolding parsed
behind store w =
    let (u, a, e) = worked (before_work w.earlier) _ _ (outcome (gives w.count) store) (λ s f. never s w.earlier w.count store f) w.call in
    of_read (used_orders w.bytes) w.symbols w.earlier store w.count e

module _ (store : List ℕ) (w : Wrote store) where
  abbrev b : Behind store
  b = behind store w

  -- the list of an order and a channel
  abbrev pub list_of : ℕ → ℕ → List Place
  list_of k c = get_or b.lists (3 * k + c) []

  -- it is an order of its size: each cell just once, the corner first
  pub wrote_order : (k c : ℕ) → k < 13 → c < 3 → Order (width_of k) (height_of k) (list_of k c)
  wrote_order k c h l = ((orders_accepted b.used b.symbols b.lists b.left b.count b.given).list k c h l).order

  -- and looking it up hands it back
  pub wrote_stretch : (k c : ℕ) → k < 13 → c < 3 → stretch store k c ≡ flat (list_of k c)
  wrote_stretch k c h l = ap (λ (s : List ℕ). stretch s k c) b.is ∙ stretch_list b.used b.symbols b.lists b.left b.count b.given k c h l

  -- so every stored place is inside
  pub wrote_fits : places_fit store ≡ true
  wrote_fits = ap places_fit b.is ∙ accepted_fits b.used b.symbols b.lists b.left b.count b.given
