-- What the exported reads hand out (document 01, Bits and Refused).
use Rattle.std.specs.Prelude.{List, ℕ, ◌+◌, ◌*◌, Ok, Err, get_or}
use Rattle.refusal.specs.declared.Refusal.TheVariants.{BitsEnd}
use Rattle.refusal.specs.Said.{said}
use Rattle.refusal.specs.Answer.{Answer, gives, refuses}
use Rattle.bits.specs.Bits.{Choice}
use Rattle.bits.specs.Reads.{Got, bits_before, choice_of}

-- the results: the value, and byte and bit of the place behind it
pub record Results : Type 0 where
  pub value : ℕ
  pub byte : ℕ
  pub bit : ℕ

abbrev pub results : ℕ → ℕ → ℕ → Results
results v b k = record { value = v; byte = b; bit = k }

-- bits end: 3, with the bits read (document 01, Refused)
abbrev pub answered : Got → Answer Results
answered (Ok (v, next)) = gives (results v next.byte next.bit)
answered (Err end) = refuses (said (BitsEnd end.taken))

-- the bits before a place
abbrev pub bits_at : ℕ → ℕ → ℕ
bits_at byte bit = bits_before (record { byte = byte; bit = bit })

-- the k-th pair of an offset and a number of bits
abbrev pub choice : List ℕ → ℕ → Choice
choice l k = choice_of (record { offset = get_or l (2 * k) 0; bits = get_or l (2 * k + 1) 0 })
