-- Symbols and the 32-bit patterns that they stand for: each has one of the other.
use Rattle.std.specs.Prelude.{◌≡◌, refl, ◌⊎◌, ℕ, ◌+◌, ◌*◌, ◌-◌, ◌/◌, ◌%◌, ◌^◌, ◌<◌, ◌≤◌}
use Rattle.std.proofs.Common.{sym, ◌∙◌, inl, inr, eq-eqb, ne_eqb, lt-ltb, le-ltb}
use native.Mathlib.Omega.{arith}
use Rattle.laws.specs.laws.Cases.{le_or_lt, eq_or_ne}
use Rattle.coded_numbers.specs.Signed.{unpack_signed, pack, symbol}

pub unpack_even : (u : ℕ) → u % 2 ≡ 0 → unpack_signed u ≡ u / 2
unfolding unpack_signed
unpack_even u e = rw (eq-eqb (u % 2) 0 e)

pub unpack_odd : (u : ℕ) → (u % 2 ≡ 0 → ⊥) → unpack_signed u ≡ 2 ^ 32 - (u + 1) / 2
unfolding unpack_signed
unpack_odd u e = rw (ne_eqb (u % 2) 0 e)

pack_low : (d : ℕ) → d < 2 ^ 31 → pack d ≡ 2 * d
unfolding pack
pack_low d h = rw (lt-ltb d (2 ^ 31) h)

pack_high : (d : ℕ) → 2 ^ 31 ≤ d → pack d ≡ 2 * (2 ^ 32 - d) - 1
unfolding pack
pack_high d h = rw (le-ltb d (2 ^ 31) h)

pub unpack_lt : (u : ℕ) → u < 2 ^ 32 → unpack_signed u < 2 ^ 32
unpack_lt u h = go (eq_or_ne (u % 2) 0)
  where
    go : (u % 2 ≡ 0) ⊎ (u % 2 ≡ 0 → ⊥) → unpack_signed u < 2 ^ 32
    go (inl e) = rw (unpack_even u e) (omega arith)
    go (inr e) = rw (unpack_odd u e) (omega arith)

pack_lt : (d : ℕ) → d < 2 ^ 32 → pack d < 2 ^ 32
pack_lt d h = go (le_or_lt (2 ^ 31) d)
  where
    go : (2 ^ 31 ≤ d) ⊎ (d < 2 ^ 31) → pack d < 2 ^ 32
    go (inl e) = rw (pack_high d e) (omega arith)
    go (inr e) = rw (pack_low d e) (omega arith)

pub unpack_pack : (d : ℕ) → d < 2 ^ 32 → unpack_signed (pack d) ≡ d
unpack_pack d h = go (le_or_lt (2 ^ 31) d)
  where
    go : (2 ^ 31 ≤ d) ⊎ (d < 2 ^ 31) → unpack_signed (pack d) ≡ d
    go (inl e) = let p = pack_high d e in unpack_odd (pack d) (omega arith) ∙ omega arith
    go (inr e) = let p = pack_low d e in unpack_even (pack d) (omega arith) ∙ omega arith

pub pack_unpack : (u : ℕ) → u < 2 ^ 32 → pack (unpack_signed u) ≡ u
pack_unpack u h = go (eq_or_ne (u % 2) 0)
  where
    go : (u % 2 ≡ 0) ⊎ (u % 2 ≡ 0 → ⊥) → pack (unpack_signed u) ≡ u
    go (inl e) = let p = unpack_even u e in pack_low (unpack_signed u) (omega arith) ∙ omega arith
    go (inr e) = let p = unpack_odd u e in pack_high (unpack_signed u) (omega arith) ∙ omega arith

pack_zero : pack 0 ≡ 0
unfolding pack
pack_zero = refl

pub unpack_zero : unpack_signed 0 ≡ 0
unfolding unpack_signed
unpack_zero = refl

module _ (w g : ℕ) where
  pub symbol_lt : symbol w g < 2 ^ 32
  unfolding symbol
  symbol_lt = pack_lt ((w + (2 ^ 32 - g)) % 2 ^ 32) (omega arith)

  pub symbol_same : g < 2 ^ 32 → w ≡ g → symbol w g ≡ 0
  unfolding symbol
  symbol_same h e = let z : (w + (2 ^ 32 - g)) % 2 ^ 32 ≡ 0 = omega arith in rw z pack_zero

  -- the symbol's number, added to the start, is what is wanted
  pub symbol_adds : w < 2 ^ 32 → g < 2 ^ 32 → (g + unpack_signed (symbol w g)) % 2 ^ 32 ≡ w
  unfolding symbol
  symbol_adds hw hg = rw (unpack_pack ((w + (2 ^ 32 - g)) % 2 ^ 32) (omega arith)) (omega arith)

  pub symbol_zero : w < 2 ^ 32 → g < 2 ^ 32 → symbol w g ≡ 0 → w ≡ g
  symbol_zero hw hg e = sym (symbol_adds hw hg) ∙ rw (e, unpack_zero) (omega arith)

  -- what a symbol adds gives that symbol back
  pub symbol_of : (u : ℕ) → u < 2 ^ 32 → g < 2 ^ 32 → w ≡ (g + unpack_signed u) % 2 ^ 32 → symbol w g ≡ u
  unfolding symbol
  symbol_of u hu hg e =
      let l = unpack_lt u hu in
      let d : (w + (2 ^ 32 - g)) % 2 ^ 32 ≡ unpack_signed u = omega arith in
      rw d (pack_unpack u hu)
