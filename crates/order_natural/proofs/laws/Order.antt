-- Laws: An order of width × height: a listing of its cells, the corner first.
use Rattle.std.specs.Prelude.{◌≡◌, ℕ, ◌*◌, ◌/◌, List}
use Rattle.std.proofs.Common.{ap, sym, ◌∙◌, mul-div_cancel, mul_assoc, arith}
use Rattle.order_natural.specs.Natural.{natural}
use Rattle.order_natural.specs.Order.{Size, Order, Facts}
use Rattle.order_natural.proofs.laws.Sizes.{width_eights, height_by}
use Rattle.order_natural.proofs.laws.Whole.{natural_lists, natural_corner}
use Rattle.order_natural.specs.Places.{Place}
use Rattle.order_natural.proofs.laws.Listing.{listing_length, listing_inside, listing_distinct, listing_found}

swap : (w k : ℕ) → w * 8 * (k * 8) ≡ w * k * 64
swap w k =
    let e : 8 * (k * 8) ≡ k * 64 = omega arith in
    mul_assoc w 8 (k * 8) ∙ ap (λ (n : ℕ). w * n) e ∙ sym (mul_assoc w k 64)

-- size / 64 is the corner's size
pub skip_by : (width height : ℕ) → Size width height → width * height / 64 ≡ width / 8 * (height / 8)
skip_by width height z =
    ap (λ (n : ℕ). n / 64) (ap (λ (n : ℕ). n * height) (width_eights width height z) ∙ ap (λ (n : ℕ). width / 8 * 8 * n) (height_by width height z) ∙ swap (width / 8) (height / 8))
    ∙ mul-div_cancel (width / 8 * (height / 8)) (omega arith)

pub natural_order : (width height : ℕ) → Size width height → Order width height (natural width height)
natural_order width height z = record { cells = natural_lists width height z; corner = rw (skip_by width height z) (natural_corner width height) }

pub order_facts : (width height : ℕ) (l : List Place) → Order width height l → Facts width height l
order_facts width height l o =
    record {
      long = listing_length width height l o.cells;
      inside = listing_inside width height l o.cells;
      distinct = listing_distinct width height l o.cells;
      found = listing_found width height l o.cells;
      corner = o.corner;
    }

pub natural_facts : (width height : ℕ) → Size width height → Facts width height (natural width height)
natural_facts width height z = order_facts width height (natural width height) (natural_order width height z)
