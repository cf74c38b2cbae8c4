-- A list of thresholds, halfway read.
use Rattle.std.specs.Prelude.{◌≡◌, ℕ, suc, ◌+◌, ◌-◌, ◌*◌, ◌%◌, ◌<◌, ◌≤◌, List, [], ◌∷◌, ◌++◌, length, replicate, slice_set, Ok, Err}
use Rattle.std.proofs.Math.Path.{refl, sym}
use Rattle.std.proofs.Common.{ap, ◌∙◌, append_assoc, append-nil, arith, length-append}
use Rattle.std.proofs.lemmas.List.{set_at}
use Rattle.bits.specs.declared.BitPlace.{BitPlace}
use Rattle.bits.specs.Bits.{Bytes, Read, Value, Ended, read_bits}
use Rattle.bits.specs.Reads.{got_value, got_end}
use Rattle.bits.specs.Reads.{got_of, bits_before, place_at}
use Rattle.bits.specs.laws.Laws.{was_value, was_end, before_at, value_at}
use Rattle.bits.specs.laws.Near.{field_lt}
use Rattle.context_thresholds.specs.Thresholds.{prepend, read_values, read_list, pad}
use Rattle.context_thresholds.specs.laws.Steps.{thresholds_of}

-- values read before the others
abbrev pub prefix : List ℕ → Read (List ℕ) → Read (List ℕ)
prefix vs (Value ws at) = Value (vs ++ ws) at
prefix vs (Ended at) = Ended at

prefix_nil : (r : Read (List ℕ)) → prefix [] r ≡ r
prefix_nil (Value ws at) = refl
prefix_nil (Ended at) = refl

prefix_more : (vs : List ℕ) (v : ℕ) (r : Read (List ℕ)) → prefix vs (prepend v r) ≡ prefix (vs ++ v ∷ []) r
prefix_more vs v (Value ws at) = ap (λ (l : List ℕ). Value l at) (sym (append_assoc vs (v ∷ []) ws))
prefix_more vs v (Ended at) = refl

-- k of n values from bit from on are read, and q is the place behind them
pub record Half (value : ℕ → Read ℕ) (n from : ℕ) (values : List ℕ) (q : BitPlace) (k : ℕ) : Type 0 where
  pub done : List ℕ
  pub count : length done ≡ k
  pub is : values ≡ pad 15 done
  pub at : ℕ
  pub place : q ≡ place_at at
  pub near : at ≤ from + 34 * k
  pub past : from ≤ at
  pub left : prefix done (read_values value (n - k) at) ≡ read_values value n from

-- one place more of a list that is filled from the front
pad_more : (vs : List ℕ) (v k : ℕ) → length vs ≡ k → k < 15 → slice_set (pad 15 vs) k v ≡ pad 15 (vs ++ v ∷ [])
pad_more vs v k e h =
    let m = 15 - length (vs ++ v ∷ []) in
    let a : 15 - length vs ≡ suc m = omega (arith, length-append vs (v ∷ [])) in
    ap (λ (j : ℕ). slice_set (vs ++ replicate j 0) k v) a
    ∙ set_at vs 0 (replicate m 0) v k e
    ∙ sym (append_assoc vs (v ∷ []) (replicate m 0))

listed : (start n : ℕ) (q : BitPlace) (values done : List ℕ) (at : ℕ) → length done ≡ n → q ≡ place_at at → values ≡ pad 15 done
    → Ok (record { count = n; next = q; values = values }) ≡ thresholds_of start (Value done at)
listed start n q values done at c p v = rw (← c, p, v)

module _ (value : ℕ → Read ℕ) (n from : ℕ) where
  more : (j p v at : ℕ) → value p ≡ Value v at → read_values value (suc j) p ≡ prepend v (read_values value j at)
  unfolding read_values
  more j p v at e = rw e

  short : (j p at : ℕ) → value p ≡ Ended at → read_values value (suc j) p ≡ Ended at
  unfolding read_values
  short j p at e = rw e

  none : (p : ℕ) → read_values value 0 p ≡ Value [] p
  unfolding read_values
  none p = refl

  pub half_start : (q : BitPlace) → q ≡ place_at from → Half value n from (replicate 15 0) q 0
  half_start q e =
      let z : n - 0 ≡ n = omega arith in
      record {
        done = [];
        count = refl;
        is = refl;
        at = from;
        place = e;
        near = omega arith;
        past = omega arith;
        left = prefix_nil (read_values value (n - 0) from) ∙ ap (λ (j : ℕ). read_values value j from) z;
      }

  module _ (values : List ℕ) (q : BitPlace) (k : ℕ) (h : Half value n from values q k) (l : k < n) where
    pub half_step : (v at : ℕ) (r : BitPlace) → n ≤ 15 → ((w b : ℕ) → value h.at ≡ Value w b → (b ≤ h.at + 34) × (h.at ≤ b)) → value h.at ≡ Value v at → r ≡ place_at at
        → Half value n from (slice_set values k v) r (k + 1)
    half_step v at r m near e f =
        let a : n - k ≡ suc (n - (k + 1)) = omega arith in
        record {
          done = h.done ++ v ∷ [];
          count = length-append h.done (v ∷ []) ∙ omega (arith, h.count);
          is = ap (λ (s : List ℕ). slice_set s k v) h.is ∙ pad_more h.done v k h.count (omega arith);
          at = at;
          place = f;
          near = omega (arith, h.near, (near v at e).0);
          past = omega (arith, h.past, (near v at e).1);
          left =
              sym (prefix_more h.done v (read_values value (n - (k + 1)) at))
              ∙ ap (prefix h.done) (sym (ap (λ (j : ℕ). read_values value j h.at) a ∙ more (n - (k + 1)) h.at v at e))
              ∙ h.left;
        }

    pub half_short : (start at : ℕ) → value h.at ≡ Ended at → Err (record { taken = at - start }) ≡ thresholds_of start (read_values value n from)
    half_short start at e =
        let a : n - k ≡ suc (n - (k + 1)) = omega arith in
        let r : read_values value n from ≡ Ended at =
        sym h.left ∙ ap (prefix h.done) (ap (λ (j : ℕ). read_values value j h.at) a ∙ short (n - (k + 1)) h.at at e)
        in
        rw r

  pub half_done : (start : ℕ) (values : List ℕ) (q : BitPlace) (k : ℕ) → Half value n from values q k → k ≡ n
      → Ok (record { count = n; next = q; values = values }) ≡ thresholds_of start (read_values value n from)
  half_done start values q k h e =
      let a : n - k ≡ 0 = omega arith in
      let r : read_values value n from ≡ Value h.done h.at =
      sym h.left
      ∙ ap (λ (j : ℕ). prefix h.done (read_values value j h.at)) a
      ∙ ap (prefix h.done) (none h.at)
      ∙ ap (λ (s : List ℕ). Value s h.at) (append-nil h.done)
      in
      let c : length h.done ≡ n = h.count ∙ e in
      listed start n q values h.done h.at c h.place h.is ∙ ap (thresholds_of start) (sym r)

-- The length of a list, then its values.
module _ (s : List ℕ) (value : ℕ → Read ℕ) (p : ℕ) where
  pub list_short : (k : ℕ) → got_of p (read_bits s p 4) ≡ got_end k
      → Err (record { taken = k }) ≡ thresholds_of p (read_list s value p)
  unfolding read_list
  list_short k e = let w = was_end p (read_bits s p 4) k e in rw w.is (ap (λ (x : ℕ). Err (record { taken = x })) w.taken)

  pub list_begins : (n : ℕ) (q : BitPlace) → got_of p (read_bits s p 4) ≡ got_value n q → read_list s value p ≡ read_values value n (bits_before q)
  unfolding read_list
  list_begins n q e =
      let w = was_value p (read_bits s p 4) n q e in
      let t : w.at ≡ bits_before q = sym (ap bits_before w.place ∙ before_at w.at) in
      rw (w.is, t)

  pub list_length : (n : ℕ) (q : BitPlace) → Bytes s → got_of p (read_bits s p 4) ≡ got_value n q → (n ≤ 15) × (q.bit < 8) × (bits_before q ≡ p + 4)
  list_length n q h e =
      let w = was_value p (read_bits s p 4) n q e in
      let t : bits_before q ≡ w.at = ap bits_before w.place ∙ before_at w.at in
      let b : q.bit ≡ w.at % 8 = ap (λ (x : BitPlace). x.bit) w.place in
      (omega (arith, field_lt s h p 4 n w.at w.is), omega (arith, b), t ∙ (value_at s p 4 n w.at w.is).0)
