-- The ways out of permuting a list.
use Rattle.std.specs.Prelude.{◌≡◌, true, false, List, ℕ, ◌-◌, ◌/◌, ◌%◌, ◌<◌, ◌≤◌, leb, eqb, length}
use Rattle.std.proofs.Common.{sym}
use borrow.Author.Tests.{eq-eqb, ne_eqb, le-leb, lt-leb}
use Rattle.order_natural.specs.Places.{flat, paired}
use Rattle.order_natural.proofs.laws.Bools.{and_false}
use Rattle.order_permutation.specs.Digits.{ordered}
use Rattle.order_digits.specs.laws.Leading.{leading}
use Rattle.order_permutation.specs.laws.Permuted.{all_below, permutable, permuted}

module _ (list : List ℕ) (skip : ℕ) (ds : List ℕ) where
  -- refused: the answer is false and the list stays
  abbrev pub Left : Type 0
  Left = (false ≡ permutable list skip ds) × (list ≡ permuted list skip ds)

  pub stays : permutable list skip ds ≡ false → Left
  unfolding permuted
  stays e = (sym e, rw e)

  pub odd_length : (length list % 2 ≡ 0 → ⊥) → Left
  unfolding permutable
  odd_length n = stays (rw (ne_eqb (length list % 2) 0 n))

  module _ (even : length list % 2 ≡ 0) where
    pub too_many : 65536 < length list / 2 → Left
    unfolding permutable
    too_many h = stays (rw (lt-leb (length list / 2) 65536 h, and_false (eqb (length list % 2) 0)))

    module _ (many : length list / 2 ≤ 65536) where
      pub too_few : length list / 2 < skip → Left
      unfolding permutable
      too_few h = stays (rw (lt-leb skip (length list / 2) h, and_false (leb (length list / 2) 65536), and_false (eqb (length list % 2) 0)))

      module _ (few : skip ≤ length list / 2) where
        pub not_small : all_below 256 list ≡ false → Left
        unfolding permutable
        not_small e = stays (rw (e, and_false (leb skip (length list / 2)), and_false (leb (length list / 2) 65536), and_false (eqb (length list % 2) 0)))

        module _ (small : all_below 256 list ≡ true) where
          pub digit_large : (leading ds (length list / 2 - skip) ≡ length ds → ⊥) → Left
          unfolding permutable
          digit_large n =
              stays
              (rw (
                ne_eqb (leading ds (length list / 2 - skip)) (length ds) n,
                and_false (all_below 256 list),
                and_false (leb skip (length list / 2)),
                and_false (leb (length list / 2) 65536),
                and_false (eqb (length list % 2) 0),
              ))

          pub all_fit : leading ds (length list / 2 - skip) ≡ length ds → permutable list skip ds ≡ true
          unfolding permutable
          all_fit e =
              rw (
                eq-eqb (length list % 2) 0 even,
                le-leb (length list / 2) 65536 many,
                le-leb skip (length list / 2) few,
                small,
                eq-eqb (leading ds (length list / 2 - skip)) (length ds) e,
              )

          pub moved : (m : List ℕ) → leading ds (length list / 2 - skip) ≡ length ds → m ≡ flat (ordered (0, 0) skip (paired list) ds) → (true ≡ permutable list skip ds) × (m ≡ permuted list skip ds)
          unfolding permuted
          moved m e f = (sym (all_fit e), rw (all_fit e) f)
