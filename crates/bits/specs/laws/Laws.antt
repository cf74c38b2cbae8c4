-- Laws of reads that callers cite.
use Rattle.std.specs.Prelude.{◌≡◌, ℕ, zero, suc, ◌+◌, ◌-◌, ◌*◌, ◌/◌, ◌%◌, ◌^◌, ◌<◌, ◌≤◌, min, Bool, true, false, List, length, take, drop, nat_le, refl}
use Rattle.std.proofs.Math.Path.{ap, sym}
use Rattle.std.proofs.Common.{◌∙◌, le-leb, leb-true, eq-eqb, ne_eqb}
use native.Mathlib.Omega.{arith}
use Rattle.std.proofs.lemmas.Bool.{lt-leb}
use Rattle.bits.specs.declared.BitPlace.{BitPlace}
use Rattle.bits.specs.declared.End.{End}
use Rattle.bits.specs.Bits.{Read, Value, Ended, then, read_bits, read_choice, read_u32, choice_at, Choice, Constant, Offset, value_of, bits_of, Bytes}
use Rattle.bits.specs.laws.Numbers.{number, length_bits, value_field, window}
use Rattle.bits.specs.declared.U32Specifier.{U32Specifier}
use Rattle.bits.specs.Reads.{place_at, bits_before, end_after, got_value, got_end, got_of, choice_of}

pub before_at : (t : ℕ) → bits_before (place_at t) ≡ t
before_at t = omega arith

pub at_before : (p : BitPlace) → p.bit < 8 → place_at (bits_before p) ≡ p
at_before p h =
    let a : (8 * p.byte + p.bit) / 8 ≡ p.byte = omega arith in
    let b : (8 * p.byte + p.bit) % 8 ≡ p.bit = omega arith in
    rw (a, b)

-- The bits end.
pub read_short : (s : List ℕ) (p n : ℕ) → 8 * length s < p + n → read_bits s p n ≡ Ended p
unfolding read_bits
read_short s p n h = let l : length (bits_of s) < p + n = omega (arith, length_bits s) in rw (lt-leb (p + n) (length (bits_of s)) l)

-- The bits are there.
pub read_whole : (s : List ℕ) (p n : ℕ) → Bytes s → p + n ≤ 8 * length s → read_bits s p n ≡ Value (number s / 2 ^ p % 2 ^ n) (p + n)
unfolding read_bits
read_whole s p n h l =
    let m : p + n ≤ length (bits_of s) = omega (arith, length_bits s) in
    rw (le-leb (p + n) (length (bits_of s)) m, value_field s p n h)

-- what is gathered of c bytes from byte f on, j bits into them
pub read_window : (s : List ℕ) (p n f c j v b t : ℕ) → Bytes s → p ≡ 8 * f + j → p + n ≤ 8 * length s → j + n ≤ 8 * c
    → v ≡ number (take c (drop f s)) / 2 ^ j % 2 ^ n → b ≡ (p + n) / 8 → t ≡ (p + n) % 8 → got_value v (record { byte = b; bit = t }) ≡ got_of p (read_bits s p n)
read_window s p n f c j v b t h e l m w x y =
    let d : v ≡ number s / 2 ^ p % 2 ^ n = w ∙ window s f c j n h m ∙ rw e in
    rw (read_whole s p n h l, d, x, y)

pub read_end : (s : List ℕ) (p n : ℕ) → 8 * length s < p + n → got_end 0 ≡ got_of p (read_bits s p n)
read_end s p n h = let z : p - p ≡ 0 = omega arith in rw (read_short s p n h, z)

-- What a declared answer says of the read.
pub record WasValue (r : Read ℕ) (v : ℕ) (q : BitPlace) : Type 0 where
  pub at : ℕ
  pub is : r ≡ Value v at
  pub place : q ≡ place_at at

pub was_value : (from : ℕ) (r : Read ℕ) (v : ℕ) (q : BitPlace) → got_of from r ≡ got_value v q → WasValue r v q
was_value from (Value w at) v q e =
    let both : ◌≡◌ {A = ℕ × BitPlace} (w, place_at at) (v, q) = cc in
    record { at = at; is = ap (λ (x : ℕ × BitPlace). Value x.0 at) both; place = sym (ap (λ (x : ℕ × BitPlace). x.1) both) }
was_value from (Ended at) v q e = absurd (let z : ◌≡◌ {A = ℕ} 0 1 = cc in omega arith)

value_by : (from : ℕ) (r : Read ℕ) (v at : ℕ) (q : BitPlace) → r ≡ Value v at → q ≡ place_at at → got_value v q ≡ got_of from r
value_by from r v at q e f = rw (e, f)

pub record WasEnd (from : ℕ) (r : Read ℕ) (k : ℕ) : Type 0 where
  pub at : ℕ
  pub is : r ≡ Ended at
  pub taken : k ≡ at - from

pub was_end : (from : ℕ) (r : Read ℕ) (k : ℕ) → got_of from r ≡ got_end k → WasEnd from r k
was_end from (Value w at) k e = absurd (let z : ◌≡◌ {A = ℕ} 0 1 = cc in omega arith)
was_end from (Ended at) k e =
    let both : end_after (at - from) ≡ end_after k = cc in
    record { at = at; is = refl; taken = sym (ap (λ (x : End). x.taken) both) }

pub read_none : (s : List ℕ) (p : ℕ) → p ≤ 8 * length s → read_bits s p 0 ≡ Value 0 p
unfolding read_bits value_of
read_none s p h =
    let e : p + 0 ≡ p = omega arith in
    let l : p ≤ length (bits_of s) = omega (arith, length_bits s) in
    rw (e, le-leb p (length (bits_of s)) l)

-- a field that ended took nothing
pub ended_at : (s : List ℕ) (p n at : ℕ) → read_bits s p n ≡ Ended at → at ≡ p
unfolding read_bits
ended_at s p n at e = go (nat_le (p + n) (length (bits_of s))) refl
  where
    go : (b : Bool) → nat_le (p + n) (length (bits_of s)) ≡ b → at ≡ p
    go true f = absurd (let z : ◌≡◌ {A = ℕ} 0 1 = cc (rw f at e) in omega arith)
    go false f = cc (rw f at e)

-- and so tells that it took nothing
pub took_none : (s : List ℕ) (p n k : ℕ) → got_of p (read_bits s p n) ≡ got_end k → k ≡ 0
took_none s p n k e =
    let r = was_end p (read_bits s p n) k e in
    let a = ended_at s p n r.at r.is in
    omega (arith, r.taken)

-- a field that is there ends inside the lent bytes
pub value_at : (s : List ℕ) (p n v at : ℕ) → read_bits s p n ≡ Value v at → (at ≡ p + n) × (at ≤ 8 * length s)
unfolding read_bits
value_at s p n v at e = go (nat_le (p + n) (length (bits_of s))) refl
  where
    go : (b : Bool) → nat_le (p + n) (length (bits_of s)) ≡ b → (at ≡ p + n) × (at ≤ 8 * length s)
    go true f = let a : at ≡ p + n = cc (rw f at e) in (a, omega (arith, leb-true (p + n) (length (bits_of s)) f, length_bits s))
    go false f = absurd (let z : ◌≡◌ {A = ℕ} 0 1 = cc (rw f at e) in omega arith)

-- A choice is one read, a constant's of no bits.
pub choice_read : (s : List ℕ) (p : ℕ) (d : U32Specifier) → d.offset < 2 ^ 32 → p ≤ 8 * length s
    → read_choice s p (choice_of d) ≡ then (read_bits s p (min d.bits 32)) (λ v at. Value ((d.offset + v) % 2 ^ 32) at)
choice_read s p d h l = go d.bits refl
  where
    go : (n : ℕ) → d.bits ≡ n → read_choice s p (choice_of d) ≡ then (read_bits s p (min d.bits 32)) (λ v at. Value ((d.offset + v) % 2 ^ 32) at)
    go zero e =
        let z : min d.bits 32 ≡ 0 = omega arith in
        let m : (d.offset + 0) % 2 ^ 32 ≡ d.offset = omega arith in
        rw (eq-eqb d.bits 0 e, z, read_none s p l, m)
    go (suc n) e = let z : d.bits ≡ 0 → ⊥ = λ f. omega arith in rw (ne_eqb d.bits 0 z)

module _ (s : List ℕ) (p : ℕ) (d : U32Specifier) (h : d.offset < 2 ^ 32) (l : p ≤ 8 * length s) where
  pub choice_end : (k : ℕ) → got_of p (read_bits s p (min d.bits 32)) ≡ got_end k → got_end 0 ≡ got_of p (read_choice s p (choice_of d))
  choice_end k e =
      let r = was_end p (read_bits s p (min d.bits 32)) k e in
      let a : r.at ≡ p = ended_at s p (min d.bits 32) r.at r.is in
      let z : r.at - p ≡ 0 = omega arith in
      rw (choice_read s p d h l, r.is, z)

  pub choice_value : (v : ℕ) (q : BitPlace) (w : ℕ) → got_of p (read_bits s p (min d.bits 32)) ≡ got_value v q → w ≡ (d.offset + v) % 2 ^ 32
      → got_value w q ≡ got_of p (read_choice s p (choice_of d))
  choice_value v q w e f =
      let r = was_value p (read_bits s p (min d.bits 32)) v q e in
      let x : read_choice s p (choice_of d) ≡ Value ((d.offset + v) % 2 ^ 32) r.at =
      choice_read s p d h l ∙ ap (λ (y : Read ℕ). then y (λ v at. Value ((d.offset + v) % 2 ^ 32) at)) r.is in
      value_by p (read_choice s p (choice_of d)) w r.at q (x ∙ ap (λ (y : ℕ). Value y r.at) (sym f)) r.place

-- a choice that ended took nothing
pub choice_ended : (s : List ℕ) (p : ℕ) (m : Choice) (at : ℕ) → read_choice s p m ≡ Ended at → at ≡ p
choice_ended s p (Constant v) at e = absurd (let z : ◌≡◌ {A = ℕ} 0 1 = cc in omega arith)
choice_ended s p (Offset o n) at e = go (read_bits s p n) refl
  where
    go : (r : Read ℕ) → read_bits s p n ≡ r → at ≡ p
    go (Value v q) f = absurd (let z : ◌≡◌ {A = ℕ} 0 1 = cc (rw f at e) in omega arith)
    go (Ended q) f = let a : q ≡ at = cc (rw f at e) in sym a ∙ ended_at s p n q f

pub chosen_last : (k : ℕ) (a b c d : Choice) → 3 ≤ k → choice_at k a b c d ≡ d
chosen_last zero a b c d h = absurd (omega arith)
chosen_last (suc zero) a b c d h = absurd (omega arith)
chosen_last (suc (suc zero)) a b c d h = absurd (omega arith)
chosen_last (suc (suc (suc k))) a b c d h = refl

-- A U32.
module _ (s : List ℕ) (p : ℕ) (a b c d : Choice) where
  pub u32_end : (k : ℕ) → got_of p (read_bits s p 2) ≡ got_end k → got_end 0 ≡ got_of p (read_u32 s p a b c d)
  unfolding read_u32
  u32_end k e =
      let r = was_end p (read_bits s p 2) k e in
      let z : r.at ≡ p = ended_at s p 2 r.at r.is in
      let n : r.at - p ≡ 0 = omega arith in
      rw (r.is, n)

  -- the selector k was read, and its choice m
  module _ (k : ℕ) (q : BitPlace) (e : got_of p (read_bits s p 2) ≡ got_value k q) (m : Choice) (f : m ≡ choice_at k a b c d) where
    selected : read_u32 s p a b c d ≡ read_choice s (bits_before q) m
    unfolding read_u32
    selected =
        let r = was_value p (read_bits s p 2) k q e in
        let t : r.at ≡ bits_before q = sym (before_at r.at) ∙ ap bits_before (sym r.place) in
        ap (λ (y : Read ℕ). then y (λ k at. read_choice s at (choice_at k a b c d))) r.is
        ∙ ap (λ (y : ℕ). read_choice s y (choice_at k a b c d)) t
        ∙ ap (λ (y : Choice). read_choice s (bits_before q) y) (sym f)

    pub selected_at : (bits_before q ≡ p + 2) × (bits_before q ≤ 8 * length s)
    selected_at =
        let r = was_value p (read_bits s p 2) k q e in
        let t : r.at ≡ bits_before q = sym (before_at r.at) ∙ ap bits_before (sym r.place) in
        let v = value_at s p 2 k r.at r.is in
        (sym t ∙ v.0, omega (arith, t, v.1))

    pub u32_value : (v : ℕ) (w : BitPlace) → got_of (bits_before q) (read_choice s (bits_before q) m) ≡ got_value v w → got_value v w ≡ got_of p (read_u32 s p a b c d)
    u32_value v w g =
        let y = was_value (bits_before q) (read_choice s (bits_before q) m) v w g in
        value_by p (read_u32 s p a b c d) v y.at w (selected ∙ y.is) y.place

    pub u32_short : (j : ℕ) → got_of (bits_before q) (read_choice s (bits_before q) m) ≡ got_end j → got_end 2 ≡ got_of p (read_u32 s p a b c d)
    u32_short j g =
        let y = was_end (bits_before q) (read_choice s (bits_before q) m) j g in
        let t : y.at ≡ bits_before q = choice_ended s (bits_before q) m y.at y.is in
        let x : read_u32 s p a b c d ≡ Ended y.at = selected ∙ y.is in
        let n : 2 ≡ y.at - p = omega (arith, selected_at.0) in
        ap (λ (i : ℕ). got_end i) n ∙ ap (got_of p) (sym x)
