use Rattle.std.proofs.Common.{rules, arith, ap, ◌≡◌, refl, ℕ, Ok, Err}
use Rattle.refusal.specs.declared.Refusal.TheVariants.{BitsEnd}
use Rattle.bits.specs.declared.BitPlace.{BitPlace}
use Rattle.bits.specs.Reads.{Got}
use Rattle.order_call.specs.Call.{leaves, parsed}
use Rattle.order_call.proofs.laws.Parsing.{other_length, bits_end, lists_read}
use Rattle.order_call.proofs.parse.Goals.{After-from_residual, After-read_orders}
use Rattle.order_call.proofs.parse.Goals as goal

pub returns-then-store-ne-NUMBERS : goal.returns-then-store-ne-NUMBERS
returns-then-store-ne-NUMBERS c = let a = c.args in other_length a.bytes.now a.symbols.now a.store.now c.if-store-ne-NUMBERS.true

-- bits end
ended : (c : After-from_residual) (r : Got) → c.used_orders.result ≡ r → leaves c.from_residual.result c.args.store.now ≡ parsed c.args.bytes.now c.args.symbols.now c.args.store.now
ended c (Ok (used, place)) e =
    let f : c.map_err.result ≡ Ok (used, place) = search rules in
    absurd (let z : ◌≡◌ {A = ℕ} 0 1 = cc (f, c.in_err-used.was) in omega arith)
ended c (Err end) e =
    let a = c.args in
    let f : c.from_residual.result ≡ Err (BitsEnd end.taken) = search rules in
    rw f (bits_end a.bytes.now a.symbols.now a.store.now c.if-store-ne-NUMBERS.false c.used_orders.result c.used_orders.ensures end.taken e)

pub returns-in_err-used : goal.returns-in_err-used
returns-in_err-used c = ended c c.used_orders.result refl

-- or the used orders are read
given : (c : After-read_orders) (r : Got) → c.used_orders.result ≡ r → leaves c.read_orders.result c.read_orders.new.store ≡ parsed c.args.bytes.now c.args.symbols.now c.args.store.now
given c (Ok (used, place)) e =
    let a = c.args in
    let f : c.map_err.result ≡ Ok (used, place) = search rules in
    let g : (c.in_ok-used.used, c.in_ok-used.field-0-1) ≡ (used, place) = cc (f, c.in_ok-used.was) in
    let u : c.in_ok-used.used ≡ used = ap (λ (p : ℕ × BitPlace). p.0) g in
    lists_read a.bytes.now a.symbols.now a.store.now c.if-store-ne-NUMBERS.false c.used_orders.result c.used_orders.ensures used place (leaves c.read_orders.result c.read_orders.new.store) e (rw u at c.read_orders.ensures)
given c (Err end) e =
    let f : c.map_err.result ≡ Err (BitsEnd end.taken) = search rules in
    absurd (let z : ◌≡◌ {A = ℕ} 0 1 = cc (f, c.in_ok-used.was) in omega arith)

pub returns : goal.returns
returns c = given (goal.at.returns c).After-read_orders c.used_orders.result refl
