-- The ways out of the context call.
use Rattle.std.specs.Prelude.{◌≡◌, true, false, List, [], ◌∷◌, ◌++◌, ℕ, ◌+◌, ◌-◌, ◌*◌, ◌≤◌, ◌<◌, T, leb, eqb, length, Result, Ok, Err}
use Rattle.std.proofs.Math.Path.{refl}
use Rattle.std.proofs.Common.{ap, sym, ◌∙◌, arith}
use borrow.Author.Tests.{le-leb, lt-leb, eq-eqb, ne_eqb, leb-true, eqb-true}
use Rattle.refusal.specs.declared.Refusal.TheVariants.{BitsEnd}
use Rattle.refusal.specs.Said.{said_at as said_at, said}
use Rattle.refusal.specs.Answer.{gives, refuses, passed}
use Rattle.refusal.specs.laws.Answer.{pass}
use Rattle.bits.specs.Bits.{Bytes, Read, Value, Ended, then, read_bits}
use Rattle.bits.specs.Reads.{place_at, bits_before}
use Rattle.bits.specs.laws.Laws.{before_at}
use Rattle.bits.specs.laws.Near.{Near}
use Rattle.context_record.specs.Record.{bsize_of}
use Rattle.bytes_below.specs.Below.{bytes_below}
use Rattle.laws.specs.Tables.{every}
use Rattle.bits.specs.declared.End.{End}
use Rattle.refusal.specs.declared.Refusal.{Refusal}
use Rattle.context_thresholds.specs.declared.Thresholds.{Thresholds}
use Rattle.context_thresholds.specs.Thresholds.{lists_of, lf_value, qf_value, read_list, read_lists, pad}
use Rattle.context_thresholds.specs.laws.Steps.{thresholds_of}
use Rattle.context_thresholds.specs.laws.Lists.{list_near}
use Rattle.context_record.specs.Record.{record_of}
use Rattle.context_call.specs.Call.{Outcome, contexts_of, accepted, refused, judged, judged_as, judged_lists, or_ended, no_lists, DEFAULT_MAP, parsed}

-- The tests behind the bits.
module _ (count : ℕ) (map lengths : List ℕ) where
  pub judged_size : 64 < bsize_of lengths → refuses (said_at 12 0 0) ≡ judged count map lengths
  unfolding judged
  judged_size h = rw (lt-leb (bsize_of lengths) 64 h)

  module _ (s : bsize_of lengths ≤ 64) where
    pub judged_length : (length map ≡ 39 * bsize_of lengths → ⊥) → refuses (said_at 1 0 0) ≡ judged count map lengths
    unfolding judged
    judged_length h = rw (le-leb (bsize_of lengths) 64 s, ne_eqb (length map) (39 * bsize_of lengths) h)

    module _ (l : length map ≡ 39 * bsize_of lengths) where
      pub judged_none : count < 1 → refuses (said_at 12 0 0) ≡ judged count map lengths
      unfolding judged
      judged_none h = rw (le-leb (bsize_of lengths) 64 s, eq-eqb (length map) (39 * bsize_of lengths) l, lt-leb 1 count h)

      module _ (m : 1 ≤ count) where
        pub judged_many : 16 < count → refuses (said_at 12 0 0) ≡ judged count map lengths
        unfolding judged
        judged_many h = rw (le-leb (bsize_of lengths) 64 s, eq-eqb (length map) (39 * bsize_of lengths) l, le-leb 1 count m, lt-leb count 16 h)

        module _ (f : count ≤ 16) where
          pub judged_bytes : bytes_below count map ≡ false → refuses (said_at 12 0 0) ≡ judged count map lengths
          unfolding judged
          judged_bytes e = rw (le-leb (bsize_of lengths) 64 s, eq-eqb (length map) (39 * bsize_of lengths) l, le-leb 1 count m, le-leb count 16 f, e)

          pub judged_fit : bytes_below count map ≡ true → passed ≡ judged count map lengths
          unfolding judged
          judged_fit e = rw (le-leb (bsize_of lengths) 64 s, eq-eqb (length map) (39 * bsize_of lengths) l, le-leb 1 count m, le-leb count 16 f, e)

  -- and all have passed
  pub judged_passed : (u : Unit) → judged count map lengths ≡ gives u
      → (bsize_of lengths ≤ 64) × (length map ≡ 39 * bsize_of lengths) × (1 ≤ count) × (count ≤ 16) × (bytes_below count map ≡ true)
  unfolding judged
  judged_passed u e =
      let n = bsize_of lengths in
      let a = pass 12 (leb n 64) _ u e in
      let b = pass 1 (eqb (length map) (39 * n)) _ u a.1 in
      let c = pass 12 (leb 1 count) _ u b.1 in
      let d = pass 12 (leb count 16) _ u c.1 in
      (leb-true n 64 a.0, eqb-true (length map) (39 * n) b.0, leb-true 1 count c.0, leb-true count 16 d.0, (pass 12 (bytes_below count map) passed u d.1).0)

-- a list of the code, or the bits that end in it
abbrev pub list_of : Read (List ℕ) → Result Thresholds Refusal
list_of (Value vs at) = Ok (record { count = length vs; next = place_at at; values = pad 15 vs })
list_of (Ended at) = Err (BitsEnd at)

-- What a list's thresholds say of the reading.
pub record WasList (s : List ℕ) (value : ℕ → Read ℕ) (p : ℕ) (t : Thresholds) : Type 0 where
  pub vs : List ℕ
  pub is : read_list s value p ≡ Value vs (bits_before t.next)
  pub count : length vs ≡ t.count
  pub values : t.values ≡ pad 15 vs
  pub few : t.count ≤ 15
  pub near : bits_before t.next ≤ p + 514

-- What an end of the bits in a list says.
pub record WasShort (s : List ℕ) (value : ℕ → Read ℕ) (p k : ℕ) : Type 0 where
  pub is : read_list s value p ≡ Ended (p + k)
  pub near : k ≤ 516

module _ (s : List ℕ) (h : Bytes s) (value : ℕ → Read ℕ) (near : (p : ℕ) → Near (λ (v : ℕ). Unit) (value p) p 34 2) (p : ℕ) where
  goes : Near (λ (vs : List ℕ). (length vs ≤ 15) × T (every (λ (v : ℕ). true) vs)) (read_list s value p) p 514 516
  goes = list_near value (λ (v : ℕ). true) near s h p

  pub list_was : (t : Thresholds) → list_of (read_list s value p) ≡ Ok t → WasList s value p t
  list_was t f = go (read_list s value p) refl
    where
      go : (r : Read (List ℕ)) → read_list s value p ≡ r → WasList s value p t
      go (Ended at) i = absurd (let z : ◌≡◌ {A = ℕ} 0 1 = cc (rw i at f) in omega arith)
      go (Value vs at) i =
          let g : ◌≡◌ {A = Thresholds} (record { count = length vs; next = place_at at; values = pad 15 vs }) t = cc (rw i at f) in
          let c : at ≡ bits_before t.next = sym (before_at at) ∙ ap (λ (x : Thresholds). bits_before x.next) g in
          let n : length vs ≡ t.count = ap (λ (x : Thresholds). x.count) g in
          let k = goes.value vs at i in
          record {
            vs = vs;
            is = i ∙ ap (λ (x : ℕ). Value vs x) c;
            count = n;
            values = sym (ap (λ (x : Thresholds). x.values) g);
            few = omega (arith, n, k.0.0);
            near = omega (arith, c, k.2);
          }

  pub list_ended : (k : ℕ) → thresholds_of p (read_list s value p) ≡ Err (record { taken = k }) → WasShort s value p k
  list_ended k f = go (read_list s value p) refl
    where
      go : (r : Read (List ℕ)) → read_list s value p ≡ r → WasShort s value p k
      go (Value vs q) i = absurd (let z : ◌≡◌ {A = ℕ} 0 1 = cc (rw i at f) in omega arith)
      go (Ended q) i =
          let g : ◌≡◌ {A = End} (record { taken = q - p }) (record { taken = k }) = cc (rw i at f) in
          let a : q - p ≡ k = ap (λ (x : End). x.taken) g in
          let l = goes.end q i in
          let b : q ≡ p + k = omega (arith, a, l) in
          record { is = i ∙ ap (λ (x : ℕ). Ended x) b; near = omega (arith, a, l) }

-- a refusal of a list says where the bits end
pub short_of : (r : Read (List ℕ)) (why : Refusal) → list_of r ≡ Err why → (at : ℕ) × (r ≡ Ended at) × (BitsEnd at ≡ why)
short_of (Value vs at) why e = absurd (let z : ◌≡◌ {A = ℕ} 0 1 = cc in omega arith)
short_of (Ended at) why e = (at, refl, cc)

-- The four lists one after the other.
module _ (s : List ℕ) (p : ℕ) where
  pub short0 : (at : ℕ) → read_list s (lf_value s) p ≡ Ended at → read_lists s p ≡ Ended at
  unfolding read_lists
  short0 at e = rw e

  module _ (a : List ℕ) (at0 : ℕ) (e0 : read_list s (lf_value s) p ≡ Value a at0) where
    pub short1 : (at : ℕ) → read_list s (lf_value s) at0 ≡ Ended at → read_lists s p ≡ Ended at
    unfolding read_lists
    short1 at e = rw (e0, e)

    module _ (b : List ℕ) (at1 : ℕ) (e1 : read_list s (lf_value s) at0 ≡ Value b at1) where
      pub short2 : (at : ℕ) → read_list s (lf_value s) at1 ≡ Ended at → read_lists s p ≡ Ended at
      unfolding read_lists
      short2 at e = rw (e0, e1, e)

      module _ (c : List ℕ) (at2 : ℕ) (e2 : read_list s (lf_value s) at1 ≡ Value c at2) where
        pub whole : read_lists s p ≡ then (read_list s (qf_value s) at2) (λ d at. Value (lists_of a b c d) at)
        unfolding read_lists
        whole = rw (e0, e1, e2)

        pub short3 : (at : ℕ) → read_list s (qf_value s) at2 ≡ Ended at → read_lists s p ≡ Ended at
        unfolding read_lists
        short3 at e = rw (e0, e1, e2, e)

-- behind the LF lists, which are read into lengths and places: the qf list, then the tests
abbrev pub judged_qf : ℕ → List ℕ → ℕ → ℕ → ℕ → List ℕ → List ℕ → ℕ → Outcome
judged_qf count map n0 n1 n2 lf d at =
    judged_as count map (n0 ∷ n1 ∷ n2 ∷ length d ∷ []) (record_of count (n0 ∷ n1 ∷ n2 ∷ length d ∷ []) lf (pad 15 d) (pad 2496 map)) at

module _ (count : ℕ) (map : List ℕ) where
  pub judged_qf_lem : (d values lf : List ℕ) (n0 n1 n2 n3 at t : ℕ) → length d ≡ n3 → values ≡ pad 15 d → t ≡ at
      → judged_as count map (n0 ∷ n1 ∷ n2 ∷ n3 ∷ []) (record_of count (n0 ∷ n1 ∷ n2 ∷ n3 ∷ []) lf values (pad 2496 map)) t ≡ judged_qf count map n0 n1 n2 lf d at
  judged_qf_lem d values lf n0 n1 n2 n3 at t h e g = rw (← h, e, g)

  -- the arrays of the LF lists make the record of the lists
  pub behind_lf : (a b c v0 v1 v2 lf : List ℕ) (n0 n1 n2 : ℕ) → length a ≡ n0 → length b ≡ n1 → length c ≡ n2
      → v0 ≡ pad 15 a → v1 ≡ pad 15 b → v2 ≡ pad 15 c → lf ≡ v0 ++ (v1 ++ v2)
      → (r : Read (List ℕ)) → or_ended r (judged_qf count map n0 n1 n2 lf) ≡ or_ended (then r (λ d at. Value (lists_of a b c d) at)) (judged_lists count map)
  unfolding contexts_of
  behind_lf a b c v0 v1 v2 lf n0 n1 n2 h0 h1 h2 e0 e1 e2 f (Value d at) = rw (← h0, ← h1, ← h2, f, e0, e1, e2)
  behind_lf a b c v0 v1 v2 lf n0 n1 n2 h0 h1 h2 e0 e1 e2 f (Ended at) = refl

pub or_ended_lem : {A : Type 0} (r : Read A) (k : A → ℕ → Outcome) (at : ℕ) → r ≡ Ended at → refused (said (BitsEnd at)) ≡ or_ended r k
or_ended_lem r k at e = rw e

pub or_judged : {A : Type 0} (r : Read A) (k : A → ℕ → Outcome) (l : A) (at : ℕ) → r ≡ Value l at → k l at ≡ or_ended r k
or_judged r k l at e = rw e

-- The first bit.
module _ (s : List ℕ) (count : ℕ) (map : List ℕ) where
  pub parsed_ended : (at : ℕ) → read_bits s 0 1 ≡ Ended at → refused (said (BitsEnd at)) ≡ parsed s count map
  unfolding parsed
  parsed_ended at e = rw e

  module _ (v at : ℕ) (e : read_bits s 0 1 ≡ Value v at) where
    pub parsed_default : v ≡ 1 → accepted at (contexts_of 15 no_lists DEFAULT_MAP) ≡ parsed s count map
    unfolding parsed
    parsed_default h = rw (e, eq-eqb v 1 h)

    pub parsed_lists : (v ≡ 1 → ⊥) → or_ended (read_lists s at) (judged_lists count map) ≡ parsed s count map
    unfolding parsed
    parsed_lists h = rw (e, ne_eqb v 1 h)
