-- The column count call as the code goes: one law for each way out.
use Rattle.std.specs.Prelude.{◌≡◌, true, false, List, ℕ, ◌+◌, ◌*◌, ◌/◌, ◌%◌, ◌^◌, ◌≤◌, ◌<◌, min}
use Rattle.std.proofs.Common.{ap, sym, ◌∙◌, mul-le-mul, mod-lt, arith, pow_mono, pow_pos}
use Rattle.refusal.specs.Said.{said_at}
use Rattle.refusal.specs.Answer.{gives, refuses}
use Rattle.bits.specs.Reads.{Got}
use Rattle.bits.specs.Reads.{got_value, got_end}
use Rattle.bits.specs.declared.BitPlace.{BitPlace}
use Rattle.bits.specs.Bits.{Value, read_bits, Bytes}
use Rattle.bits.specs.laws.Numbers.{number}
use Rattle.bits.specs.Reads.{got_of, place_at, bits_before}
use Rattle.bits.specs.laws.Laws.{read_whole, was_value, was_end, value_at, ended_at}
use Rattle.coded_numbers.proofs.laws.Exponent.{exponent_least}
use Rattle.layout_sizes.specs.Blocks.{size_fits, modes_fit, bw_in, bh_in}
use Rattle.layout_sizes.proofs.laws.Bounds.{bw_most, bh_most}
use Rattle.layout_column_count.specs.Count.{counts, plus_one, field_bits, count_of}

module _ (width height : ℕ) (modes bytes : List ℕ) where
  pub count_size : size_fits width height ≡ false → refuses (said_at 2 0 0) ≡ count_of width height modes bytes
  unfolding count_of
  count_size a = rw a

  pub count_modes : size_fits width height ≡ true → modes_fit modes ≡ false → refuses (said_at 11 0 0) ≡ count_of width height modes bytes
  unfolding count_of
  count_modes a b = rw (a, b)

  module _ (a : size_fits width height ≡ true) (b : modes_fit modes ≡ true) where
    pub most_blocks : bh_in height modes * bw_in width modes ≤ 65536
    most_blocks = mul-le-mul (bh_most width height a modes) (bw_most width height a modes)

    few_bits : field_bits width height modes ≤ 16
    few_bits = exponent_least (bh_in height modes * bw_in width modes) 16 most_blocks

    -- the field was read from the first bit on
    module _ (n : ℕ) (p : BitPlace) (g : Got) (c : n ≡ field_bits width height modes) (d : p ≡ place_at 0) (e : g ≡ got_of (bits_before p) (read_bits bytes (bits_before p) (min n 32))) where
      whole : g ≡ got_of 0 (read_bits bytes 0 n)
      whole = let f = few_bits in let m : min n 32 ≡ n = omega arith in e ∙ rw (d, m)

      read : count_of width height modes bytes ≡ plus_one (read_bits bytes 0 n)
      unfolding count_of
      read = rw (a, b, c)

      pub count_value : (v : ℕ) (q : BitPlace) → g ≡ got_value v q → gives (counts (1 + v) n) ≡ count_of width height modes bytes
      count_value v q f =
          let w = was_value 0 (read_bits bytes 0 n) v q (sym whole ∙ f) in
          let l = value_at bytes 0 n v w.at w.is in
          let k : n ≡ w.at = omega arith in
          ap (λ (i : ℕ). gives (counts (1 + v) i)) k ∙ sym (read ∙ ap plus_one w.is)

      -- the number fits in 16 bits
      pub count_small : (v : ℕ) (q : BitPlace) → Bytes bytes → g ≡ got_value v q → v < 65536
      count_small v q h f =
          let w = was_value 0 (read_bits bytes 0 n) v q (sym whole ∙ f) in
          let l = value_at bytes 0 n v w.at w.is in
          let k = few_bits in
          let r : Value (number bytes / 2 ^ 0 % 2 ^ n) (0 + n) ≡ Value v w.at = sym (read_whole bytes 0 n h (omega arith)) ∙ w.is in
          let u : number bytes / 2 ^ 0 % 2 ^ n ≡ v = cc in
          let b : 2 ^ n ≤ 2 ^ 16 = pow_mono {i = n} {j = 16} (omega arith) in
          let m : number bytes / 2 ^ 0 % 2 ^ n < 2 ^ n = mod-lt (number bytes / 2 ^ 0) (pow_pos n) in
          omega arith

      pub count_end : (k : ℕ) → g ≡ got_end k → refuses (said_at 3 0 0) ≡ count_of width height modes bytes
      count_end k f =
          let w = was_end 0 (read_bits bytes 0 n) k (sym whole ∙ f) in
          let l : 0 ≡ w.at = sym (ended_at bytes 0 n w.at w.is) in
          ap (λ (i : ℕ). refuses (said_at 3 i 0)) l ∙ sym (read ∙ ap plus_one w.is)
