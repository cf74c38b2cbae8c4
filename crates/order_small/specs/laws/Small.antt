-- What filling three lent lists with one of orders 0 to 6 answers and leaves (document 02, No. 3), and the ways out of it.
use Rattle.std.specs.Prelude.{◌≡◌, false, Bool, cond, ◌&&◌, List, ◌++◌, ℕ, ◌*◌, ◌-◌, ◌<◌, ◌≤◌, length, take, drop, ltb}
use Rattle.std.proofs.Common.{ap, ◌∙◌, arith, lt-ltb, le-ltb}
use Rattle.laws.specs.laws.Cases.{NoneBelow, above}
use Rattle.laws.specs.laws.Lists.{part_long}
use Rattle.laws.specs.laws.Laid.{Laid, laid_part}
use Rattle.order_sizes.specs.declared.OrderSize.{OrderSize}
use Rattle.order_sizes.specs.BlockSizes.{width_of, height_of}
use Rattle.order_sizes.specs.laws.BlockSizes.{block_size}
use Rattle.order_natural.specs.Places.{flat, paired}
use Rattle.order_natural.specs.Natural.{natural}
use Rattle.order_natural.specs.Order.{Facts}
use Rattle.order_natural.proofs.laws.Flat.{paired_flat}
use Rattle.order_natural.proofs.laws.Order.{natural_facts}
use Rattle.order_natural.proofs.laws.Sizes.{size_of}
use Rattle.order_natural.proofs.laws.Turns.{natural_numbers}
use Rattle.order_natural.specs.laws.Filling.{three_of, room_for, filled}
use Rattle.order_natural.proofs.laws.Filling.{has_room}

-- one of orders 0 to 6, and three lists of just as many places
unfoldable pub small_room : List ℕ → ℕ → Bool
small_room lists order = ltb order 7 && room_for lists order

unfoldable pub small_filled : List ℕ → ℕ → List ℕ
small_filled lists order = cond (small_room lists order) (three_of order) lists

-- an order that is known to be k: how many numbers it has, and which
pub as_many : {order n : ℕ} (k : ℕ) → order ≡ k → n ≡ 2 * (width_of order * height_of order) → n ≡ 2 * (width_of k * height_of k)
as_many k e h = rw e at h

pub as_order : {order : ℕ} {l : List ℕ} (k : ℕ) → order ≡ k → k < 7 → l ≡ flat (natural (width_of k) (height_of k)) → (l ≡ flat (natural (width_of order) (height_of order))) × Facts (width_of order) (height_of order) (paired l)
as_order k e h n = rw e (n, rw (n, paired_flat) (natural_facts (width_of k) (height_of k) (size_of k (omega arith))))

-- the last of the seven
pub last_order : (order : ℕ) → order < 7 → NoneBelow 6 order → order ≡ 6
last_order order h r = let a = above 6 order r in omega arith

module _ (lists : List ℕ) (order : ℕ) where
  pub no_small : 7 ≤ order → (false ≡ small_room lists order) × (lists ≡ small_filled lists order)
  unfolding small_room small_filled
  no_small h = (rw (le-ltb order 7 h), rw (le-ltb order 7 h))

  -- below 7 it is filled as any order is
  pub as_any : order < 7 → (b : Bool) (l : List ℕ) → (b ≡ room_for lists order) × (l ≡ filled lists order) → (b ≡ small_room lists order) × (l ≡ small_filled lists order)
  unfolding small_room small_filled filled
  as_any h b l e = (rw (lt-ltb order 7 h) e.0, rw (lt-ltb order 7 h) e.1)

  pub small_filled_is : order < 7 → length lists ≡ 3 * (2 * (width_of order * height_of order)) → small_filled lists order ≡ three_of order
  unfolding small_room small_filled
  small_filled_is h n = rw (lt-ltb order 7 h, has_room lists order (omega arith) n)

  -- the first of the three lists as the table has it
  module _ (s : OrderSize) (e : s ≡ block_size order) (h : order < 7) (long : length lists ≡ 3 * (2 * (s.width * s.height))) where
    abbrev n : ℕ
    n = 2 * (s.width * s.height)

    many : n ≡ 2 * (width_of order * height_of order)
    many = rw e

    pub first_long : length (take (n - 0) (drop 0 lists)) ≡ 2 * (width_of order * height_of order)
    first_long = part_long lists 0 n (omega arith) (omega arith) ∙ omega (arith, many)

    pub first_laid : (part one : List ℕ) → part ≡ flat (natural (width_of order) (height_of order)) → one ≡ take 0 lists ++ (part ++ drop (n - 0) (drop 0 lists)) → Laid lists one 0 (flat (natural s.width s.height)) n
    first_laid part one p o =
        let l : length part ≡ n - 0 = ap length p ∙ natural_numbers (width_of order) (height_of order) (size_of order (omega arith)) ∙ omega (arith, many) in
        let q : part ≡ flat (natural s.width s.height) = p ∙ rw e in
        rw q at (laid_part lists one 0 n part (omega arith) (omega arith) l o)
