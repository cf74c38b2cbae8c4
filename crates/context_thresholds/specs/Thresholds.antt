-- What the bits of block contexts say (document 01, Block contexts; `HfBlockContext::parse` of `lf.rs`).
use Rattle.std.specs.Prelude.{ℕ, zero, suc, ◌+◌, ◌-◌, List, [], ◌∷◌, ◌++◌, length, replicate}
use Rattle.bits.specs.Bits.{Read, Value, then, Offset, read_bits, read_u32}
use Rattle.coded_numbers.specs.Signed.{unpack_signed}

-- U32(4 bits, 16 + 8 bits, 272 + 16, 65808 + 32)
abbrev pub lf_u32 : List ℕ → ℕ → Read ℕ
lf_u32 s p = read_u32 s p (Offset 0 4) (Offset 16 8) (Offset 272 16) (Offset 65808 32)

-- an LF value behind p bits: signed of that
unfoldable pub lf_value : List ℕ → ℕ → Read ℕ
lf_value s p = then (lf_u32 s p) (λ u at. Value (unpack_signed u) at)

-- U32(2 bits, 4 + 3, 12 + 5, 44 + 8)
abbrev pub qf_u32 : List ℕ → ℕ → Read ℕ
qf_u32 s p = read_u32 s p (Offset 0 2) (Offset 4 3) (Offset 12 5) (Offset 44 8)

-- a qf value: 1 + that
unfoldable pub qf_value : List ℕ → ℕ → Read ℕ
qf_value s p = then (qf_u32 s p) (λ u at. Value (1 + u) at)

-- a value, then the others
abbrev pub prepend : ℕ → Read (List ℕ) → Read (List ℕ)
prepend v r = then r (λ vs at. Value (v ∷ vs) at)

-- n values one after the other
unfoldable pub read_values : (ℕ → Read ℕ) → ℕ → ℕ → Read (List ℕ)
read_values value zero p = Value [] p
read_values value (suc n) p = then (value p) (λ v at. prepend v (read_values value n at))

-- a list: four bits give its length
unfoldable pub read_list : List ℕ → (ℕ → Read ℕ) → ℕ → Read (List ℕ)
read_list s value p = then (read_bits s p 4) (read_values value)

-- three LF lists, then one qf list
pub record Lists : Type 0 where
  pub lf_thresholds0 : List ℕ
  pub lf_thresholds1 : List ℕ
  pub lf_thresholds2 : List ℕ
  pub qf_thresholds : List ℕ

abbrev pub lists_of : List ℕ → List ℕ → List ℕ → List ℕ → Lists
lists_of a b c d = record { lf_thresholds0 = a; lf_thresholds1 = b; lf_thresholds2 = c; qf_thresholds = d }

unfoldable pub read_lists : List ℕ → ℕ → Read Lists
read_lists s p =
    then (read_list s (lf_value s) p) (λ a at0.
    then (read_list s (lf_value s) at0) (λ b at1.
    then (read_list s (lf_value s) at1) (λ c at2.
    then (read_list s (qf_value s) at2) (λ d at3. Value (lists_of a b c d) at3))))

-- a list in n places, unused places 0
abbrev pub pad : ℕ → List ℕ → List ℕ
pad n l = l ++ replicate (n - length l) 0
