-- What filling three lent lists with a natural order answers and leaves (document 01, Orders), and the ways out of it.
use Rattle.std.specs.Prelude.{◌≡◌, ℕ, ◌*◌, ◌<◌, ◌≤◌, true, false, List, ◌++◌, length, ◌≢◌, refl}
use Rattle.std.proofs.Common.{sym, ◌∙◌}
use borrow.Author.Tests.{lt-ltb, le-ltb, eq-eqb, ne_eqb}
use Rattle.order_sizes.specs.declared.OrderSize.{OrderSize}
use Rattle.order_sizes.specs.BlockSizes.{width_of, height_of}
use Rattle.order_sizes.specs.laws.BlockSizes.{block_size}
use Rattle.order_natural.specs.Places.{flat}
use Rattle.order_natural.specs.Natural.{natural}
use Rattle.order_copies.specs.laws.Copies.{three_times, three_times_lem}
use Rattle.laws.specs.laws.Laid.{Laid}
use Rattle.order_natural.proofs.laws.Sizes.{size_of, width_most, places_most, places_least}
use Rattle.order_natural.specs.laws.Filling.{three_of, room_for, filled, SizeKnown}

three_of_lem : (k : ℕ) → let l = flat (natural (width_of k) (height_of k)) in l ++ (l ++ l) ≡ three_of k
unfolding three_of
three_of_lem k = refl

pub size_known : (order : ℕ) (s : OrderSize) → s ≡ block_size order → order < 13 → SizeKnown s
size_known order s e h = record { size = rw e (size_of order h); narrow = rw e (width_most order h); most = rw e (places_most order h); least = rw e (places_least order h) }

module _ (lists : List ℕ) (order : ℕ) where
  pub no_order : 13 ≤ order → (false ≡ room_for lists order) × (lists ≡ filled lists order)
  unfolding room_for filled
  no_order h = (rw (le-ltb order 13 h), rw (le-ltb order 13 h))

  module _ (h : order < 13) where
    abbrev all : ℕ
    all = 3 * (2 * (width_of order * height_of order))

    pub has_room : length lists ≡ all → room_for lists order ≡ true
    unfolding room_for
    has_room k = rw (lt-ltb order 13 h, eq-eqb (length lists) all k)

    pub filled_is : length lists ≡ all → filled lists order ≡ three_of order
    unfolding filled
    filled_is k = rw (has_room k)

    module _ (s : OrderSize) (e : s ≡ block_size order) where
      pub no_room : (length lists ≢ 3 * (2 * (s.width * s.height))) → (false ≡ room_for lists order) × (lists ≡ filled lists order)
      unfolding room_for filled
      no_room k =
          let k' : length lists ≡ all → ⊥ = rw e at k in
          (rw (lt-ltb order 13 h, ne_eqb (length lists) all k'), rw (lt-ltb order 13 h, ne_eqb (length lists) all k'))

      -- the first list laid, the others copied from it
      pub laid_filled : (m m' : List ℕ) → length lists ≡ 3 * (2 * (s.width * s.height)) → Laid lists m 0 (flat (natural s.width s.height)) (2 * (s.width * s.height)) → m' ≡ three_times m → (true ≡ room_for lists order) × (m' ≡ filled lists order)
      laid_filled m m' k l c =
          let k' : length lists ≡ all = rw e at k in
          let f : m' ≡ three_of order = c ∙ three_times_lem m (flat (natural s.width s.height)) (2 * (s.width * s.height)) (l.long ∙ k) l.front ∙ rw e (three_of_lem order) in
          (sym (has_room k'), f ∙ sym (filled_is k'))
