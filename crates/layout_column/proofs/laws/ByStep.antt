-- The checks of a column one by one: an hf_mul that is zero or negative, and one that is neither, said by its two bounds.
use Rattle.std.specs.Prelude.{◌≡◌, ℕ, ◌+◌, ◌%◌, ◌<◌, ◌≤◌}
use borrow.Author.Tests.{lt-ltb, le-ltb, le-leb, lt-leb}
use Rattle.refusal.specs.Said.{said_at}
use Rattle.refusal.specs.Answer.{gives, refuses}
use Rattle.dct_select.specs.Transforms.{wide, high}
use Rattle.layout_column.specs.laws.Judged.{judged_of}

module _ (t h x y : ℕ) (a : t < 27) where
  pub judged_zero : h < 1 → refuses (said_at 6 x y) ≡ judged_of t h x y
  unfolding judged_of
  judged_zero b = rw (lt-ltb t 27 a, lt-leb 1 h b)

  pub judged_negative : 1 ≤ h → 2147483648 ≤ h → refuses (said_at 6 x y) ≡ judged_of t h x y
  unfolding judged_of
  judged_negative b c = rw (lt-ltb t 27 a, le-leb 1 h b, le-ltb h 2147483648 c)

  module _ (b : 1 ≤ h) (c : h < 2147483648) where
    pub judged_wide : 32 < x % 32 + wide t → refuses (said_at 7 x y) ≡ judged_of t h x y
    unfolding judged_of
    judged_wide d = rw (lt-ltb t 27 a, le-leb 1 h b, lt-ltb h 2147483648 c, lt-leb (x % 32 + wide t) 32 d)

    pub judged_high : x % 32 + wide t ≤ 32 → 32 < y % 32 + high t → refuses (said_at 7 x y) ≡ judged_of t h x y
    unfolding judged_of
    judged_high d e =
        rw (lt-ltb t 27 a, le-leb 1 h b, lt-ltb h 2147483648 c, le-leb (x % 32 + wide t) 32 d, lt-leb (y % 32 + high t) 32 e)

    pub judged_asks : (g w n : ℕ) → g ≡ h → w ≡ wide t → n ≡ high t → x % 32 + w ≤ 32 → y % 32 + n ≤ 32
        → gives (record { kind = 2 + t; hf_mul = g; wide = w; high = n }) ≡ judged_of t h x y
    unfolding judged_of
    judged_asks g w n p q r d e =
        rw (lt-ltb t 27 a, le-leb 1 h b, lt-ltb h 2147483648 c, p, q, r, le-leb (x % 32 + wide t) 32 (rw q at d), le-leb (y % 32 + high t) 32 (rw r at e))
