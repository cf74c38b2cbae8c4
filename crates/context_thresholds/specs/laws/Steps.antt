-- The declared types against the reads of block contexts (document 01, Block contexts).
use Rattle.std.specs.Prelude.{◌≡◌, ℕ, ◌+◌, ◌-◌, ◌%◌, ◌^◌, ◌<◌, ◌≤◌, List, length, Result, Ok, Err}
use Rattle.std.proofs.Common.{arith, ap}
use Rattle.bits.specs.declared.BitPlace.{BitPlace}
use Rattle.bits.specs.declared.End.{End}
use Rattle.bits.specs.Reads.{got_value, got_end}
use Rattle.bits.specs.Bits.{Read, Value, Ended, then}
use Rattle.bits.specs.Reads.{got_of, place_at}
use Rattle.context_thresholds.specs.declared.Thresholds.{Thresholds}
use Rattle.context_thresholds.specs.Thresholds.{pad}

-- a list behind from bits: an end tells how many bits of it were read before it
abbrev pub thresholds_of : ℕ → Read (List ℕ) → Result Thresholds End
thresholds_of from (Value vs at) = Ok (record { count = length vs; next = place_at at; values = pad 15 vs })
thresholds_of from (Ended at) = Err (record { taken = at - from })

-- the number f u of a read's u
abbrev by : (ℕ → ℕ) → Read ℕ → Read ℕ
by f r = then r (λ u at. Value (f u) at)

pub by_value : (f : ℕ → ℕ) (p : ℕ) (r : Read ℕ) (u : ℕ) (q : BitPlace) → got_of p r ≡ got_value u q → got_value (f u) q ≡ got_of p (by f r)
by_value f p (Value w at) u q e =
    let both : ◌≡◌ {A = ℕ × BitPlace} (u, q) (w, place_at at) = cc in
    ap (λ (x : ℕ × BitPlace). got_value (f x.0) x.1) both
by_value f p (Ended at) u q e = absurd (let z : ◌≡◌ {A = ℕ} 0 1 = cc in omega arith)

pub by_end : (f : ℕ → ℕ) (p : ℕ) (r : Read ℕ) (k : ℕ) → got_of p r ≡ got_end k → got_end k ≡ got_of p (by f r)
by_end f p (Value w at) k e = absurd (let z : ◌≡◌ {A = ℕ} 0 1 = cc in omega arith)
by_end f p (Ended at) k e = cc

-- the bits of a list that starts behind start bits: those before a read at bit at, told modulo 2^64, and the read's k
pub counted : (start at end before k : ℕ) → start ≤ at → at ≤ start + 514 → at ≤ end → end ≤ at + 2 → k ≡ end - at → before < 2 ^ 64 → (before + start % 2 ^ 64) % 2 ^ 64 ≡ at % 2 ^ 64
    → (before + k ≡ end - start) × (end - start ≤ 516)
counted start at end before k h l m n e f g = (omega arith, omega arith)
