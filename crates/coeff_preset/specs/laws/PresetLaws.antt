-- The preset number, from what the bits give.
use Rattle.std.specs.Prelude.{◌≡◌, List, ℕ, ◌^◌, ◌<◌, ◌≤◌, min}
use Rattle.std.proofs.Common.{ap, sym, ◌∙◌, arith, lt-ltb, le-ltb}
use Rattle.refusal.specs.declared.Refusal.TheVariants.{BitsEnd, Preset}
use Rattle.refusal.specs.Said.{said}
use Rattle.refusal.specs.Answer.{gives, refuses}
use Rattle.bits.specs.Reads.{Got}
use Rattle.bits.specs.Reads.{got_value, got_end}
use Rattle.bits.specs.declared.BitPlace.{BitPlace}
use Rattle.bits.specs.Bits.{Value, read_bits}
use Rattle.bits.specs.Reads.{got_of, place_at, bits_before}
use Rattle.bits.specs.laws.Laws.{was_value, was_end, value_at, ended_at}
use Rattle.coded_numbers.specs.Exponent.{exponent}
use Rattle.coded_numbers.proofs.laws.Exponent.{exponent_least}
use Rattle.coeff_preset.specs.Preset.{preset_of}

module _ (bytes : List ℕ) (presets n : ℕ) (p : BitPlace) (g : Got) (m : presets < 2 ^ 32) (c : n ≡ exponent presets) (d : p ≡ place_at 0) (e : g ≡ got_of (bits_before p) (read_bits bytes (bits_before p) (min n 32))) where
  whole : g ≡ got_of 0 (read_bits bytes 0 n)
  whole = let f = exponent_least presets 32 (omega arith) in let l : min n 32 ≡ n = omega arith in e ∙ rw (d, l)

  pub preset_end : (k : ℕ) → g ≡ got_end k → refuses (said (BitsEnd 0)) ≡ preset_of presets (read_bits bytes 0 (exponent presets))
  preset_end k f =
      let w = was_end 0 (read_bits bytes 0 n) k (sym whole ∙ f) in
      let l : 0 ≡ w.at = sym (ended_at bytes 0 n w.at w.is) in
      ap (λ (i : ℕ). refuses (said (BitsEnd i))) l ∙ sym (ap (λ (i : ℕ). preset_of presets (read_bits bytes 0 i)) (sym c) ∙ ap (preset_of presets) w.is)

  pub preset_above : (v : ℕ) (q : BitPlace) → g ≡ got_value v q → presets ≤ v → refuses (said (Preset n)) ≡ preset_of presets (read_bits bytes 0 (exponent presets))
  preset_above v q f h =
      let w = was_value 0 (read_bits bytes 0 n) v q (sym whole ∙ f) in
      let l = value_at bytes 0 n v w.at w.is in
      let k : n ≡ w.at = omega arith in
      let t : preset_of presets (Value v w.at) ≡ refuses (said (Preset w.at)) = rw (le-ltb v presets h) in
      ap (λ (i : ℕ). refuses (said (Preset i))) k ∙ sym (ap (λ (i : ℕ). preset_of presets (read_bits bytes 0 i)) (sym c) ∙ ap (preset_of presets) w.is ∙ t)

  pub preset_below : (v : ℕ) (q : BitPlace) → g ≡ got_value v q → v < presets → gives v ≡ preset_of presets (read_bits bytes 0 (exponent presets))
  preset_below v q f h =
      let w = was_value 0 (read_bits bytes 0 n) v q (sym whole ∙ f) in
      let t : preset_of presets (Value v w.at) ≡ gives v = rw (lt-ltb v presets h) in
      sym (ap (λ (i : ℕ). preset_of presets (read_bits bytes 0 i)) (sym c) ∙ ap (preset_of presets) w.is ∙ t)
