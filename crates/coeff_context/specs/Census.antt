-- The context census: the situations that it speaks of, and the context of each (document 02, No. 9).
use Rattle.std.specs.Prelude.{◌≡◌, Bool, ◌&&◌, ◌||◌, ℕ, ◌+◌, ◌*◌, ◌-◌, ◌/◌, ◌^◌, ◌≤◌, leb, eqb, get_or}
use Rattle.refusal.specs.Answer.{Answer, gives, unless}
use Rattle.coeff_context.specs.Context.{FREQ, NUM_NONZERO, coeff_context}

-- of a coefficient: the blocks of its varblock, the remaining count (how many that are not 0 are still due), its place, from 0, and the previous flag
pub record Situation : Type 0 where
  pub blocks : ℕ
  pub count : ℕ
  pub place : ℕ
  pub prev : ℕ

abbrev pub situation : (blocks count place prev : ℕ) → Situation
situation b n i p = record { blocks = b; count = n; place = i; prev = p }

-- up to 1,024
pub record PowerOfTwo (n : ℕ) : Type 0 where
  pub exponent : ℕ
  pub few : exponent ≤ 10
  pub power : n ≡ 2 ^ exponent

-- what the census speaks of: a block count that is a power of two up to 1,024, a remaining count of at least 1 and a place from 0, their sum at most
-- 63 × blocks; flag 0 and flag 1 are both allowed
pub record InCensus (s : Situation) : Type 0 where
  pub power : PowerOfTwo s.blocks
  pub some : 1 ≤ s.count
  pub room : s.count + s.place ≤ 63 * s.blocks
  pub flag : s.prev ≤ 1

-- its entry in the non-zero table, and in the frequency table
abbrev pub non_zero_entry : Situation → ℕ
non_zero_entry s = get_or NUM_NONZERO ((s.count - 1) / s.blocks) 0

abbrev pub frequency_entry : Situation → ℕ
frequency_entry s = get_or FREQ (s.place / s.blocks) 0

-- of two situations
pub record SameEntries (s t : Situation) : Type 0 where
  pub non_zero : non_zero_entry s ≡ non_zero_entry t
  pub frequency : frequency_entry s ≡ frequency_entry t
  pub flag : s.prev ≡ t.prev

-- its context, the coefficient number
abbrev pub context_of : Situation → ℕ
context_of s = coeff_context s.blocks (s.count - 1) s.place s.prev

-- the situation of one block with its count divided by blocks, rounded up, and its place divided by blocks, rounded down
abbrev pub in_one_block : Situation → Situation
in_one_block s = situation 1 ((s.count - 1) / s.blocks + 1) (s.place / s.blocks) s.prev

-- The call: whether the census speaks of a situation, as a test that computes, then its context.
abbrev pub is_power : ℕ → Bool
is_power n = eqb n 1 || eqb n 2 || eqb n 4 || eqb n 8 || eqb n 16 || eqb n 32 || eqb n 64 || eqb n 128 || eqb n 256 || eqb n 512 || eqb n 1024

unfoldable pub speaks_of : Situation → Bool
speaks_of s = is_power s.blocks && leb 1 s.count && leb (s.count + s.place) (63 * s.blocks) && leb s.prev 1

unfoldable pub census_of : Situation → Answer ℕ
census_of s = unless 11 (speaks_of s) (gives (context_of s))
