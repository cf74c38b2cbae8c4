-- How far reads go, and what they give.
use Rattle.std.specs.Prelude.{◌≡◌, ℕ, zero, suc, ◌+◌, ◌/◌, ◌%◌, ◌^◌, ◌<◌, ◌≤◌, List, refl}
use Rattle.std.proofs.Common.{sym, subst, mod-lt, arith, pow_pos}
use Rattle.bits.specs.Bits.{Bytes, Read, Value, Ended, then, Choice, Offset, read_bits, read_choice, choice_at, read_u32}
use Rattle.bits.specs.laws.Numbers.{number}
use Rattle.bits.specs.laws.Laws.{read_whole, value_at, ended_at}

-- What is known of a read behind p bits: what it gives is Fine, and stands behind at most m bits more; it ends behind at most e bits more.
pub record Near {A : Type 0} (Fine : A → Type 0) (r : Read A) (p m e : ℕ) : Type 0 where
  pub value : (v : A) (at : ℕ) → r ≡ Value v at → Fine v × (p ≤ at) × (at ≤ p + m)
  pub end : (at : ℕ) → r ≡ Ended at → (p ≤ at) × (at ≤ p + e)

pub here_near : {A : Type 0} (Fine : A → Type 0) (v : A) (p m e : ℕ) → Fine v → Near Fine (Value v p) p m e
here_near Fine v p m e f =
    record {
      value = λ w at i. let a : v ≡ w = cc in let b : p ≡ at = cc in (subst Fine a f, omega arith, omega arith);
      end = λ at i. absurd (let z : ◌≡◌ {A = ℕ} 0 1 = cc in omega arith);
    }

module _ {A B : Type 0} (Fine : A → Type 0) (Good : B → Type 0) (p m e : ℕ) where
  -- a read, then another one
  pub then_near : (n f m' e' : ℕ) → m + n ≤ m' → e ≤ e' → m + f ≤ e' → (k : A → ℕ → Read B) (r : Read A) → Near Fine r p m e
      → ((v : A) (q : ℕ) → Fine v → Near Good (k v q) q n f) → Near Good (then r k) p m' e'
  then_near n f m' e' a b c k (Value v q) h g =
      let x = h.value v q refl in
      let y = g v q x.0 in
      record {
        value = λ w at i. let z = y.value w at i in (z.0, omega (arith, x.1, z.1), omega (arith, x.2, z.2));
        end = λ at i. let z = y.end at i in (omega (arith, x.1, z.0), omega (arith, x.2, z.1));
      }
  then_near n f m' e' a b c k (Ended q) h g =
      record {
        value = λ w at i. absurd (let z : ◌≡◌ {A = ℕ} 0 1 = cc in omega arith);
        end = λ at i. let t : q ≡ at = cc in let z = h.end q refl in (omega (arith, z.0), omega (arith, z.1));
      }

  -- what was read, changed
  pub map_near : (change : A → B) → ((v : A) → Fine v → Good (change v)) → (r : Read A) → Near Fine r p m e → Near Good (then r (λ v at. Value (change v) at)) p m e
  map_near change up (Value v q) h =
      record {
        value = λ w at i. let a : change v ≡ w = cc in let b : q ≡ at = cc in let x = h.value v q refl in (subst Good a (up v x.0), omega (arith, x.1), omega (arith, x.2));
        end = λ at i. absurd (let z : ◌≡◌ {A = ℕ} 0 1 = cc in omega arith);
      }
  map_near change up (Ended q) h =
      record {
        value = λ w at i. absurd (let z : ◌≡◌ {A = ℕ} 0 1 = cc in omega arith);
        end = λ at i. let t : q ≡ at = cc in let z = h.end q refl in (omega (arith, z.0), omega (arith, z.1));
      }

module _ (s : List ℕ) (h : Bytes s) where
  -- a field is below its power of two
  pub field_lt : (p n v at : ℕ) → read_bits s p n ≡ Value v at → v < 2 ^ n
  field_lt p n v at e =
      let x = number s / 2 ^ p in
      let l = value_at s p n v at e in
      let w : v ≡ x % 2 ^ n = cc (e, read_whole s p n h (omega (arith, l.0, l.1))) in
      subst (λ (y : ℕ). y < 2 ^ n) (sym w) (mod-lt x (pow_pos n))

  pub field_near : (p n m : ℕ) → n ≤ m → Near (λ (v : ℕ). v < 2 ^ n) (read_bits s p n) p m 0
  field_near p n m l =
      record {
        value = λ v at e. let t = value_at s p n v at e in (field_lt p n v at e, omega (arith, t.0), omega (arith, t.0));
        end = λ at e. let t = ended_at s p n at e in (omega arith, omega arith);
      }

  module _ (Fine : ℕ → Type 0) where
    pub offset_near : (o n : ℕ) → n ≤ 32 → ((v : ℕ) → v < 2 ^ n → Fine ((o + v) % 2 ^ 32)) → (p : ℕ) → Near Fine (read_choice s p (Offset o n)) p 32 0
    offset_near o n l f p = map_near (λ (v : ℕ). v < 2 ^ n) Fine p 32 0 (λ (v : ℕ). (o + v) % 2 ^ 32) f (read_bits s p n) (field_near p n 32 l)

    abbrev ChoiceNear : Choice → Type 0
    ChoiceNear m = (p : ℕ) → Near Fine (read_choice s p m) p 32 0

    -- a U32 takes at most 34 bits, and ends behind at most its selector
    pub u32_near : (a b c d : Choice) → ChoiceNear a → ChoiceNear b → ChoiceNear c → ChoiceNear d → (p : ℕ) → Near Fine (read_u32 s p a b c d) p 34 2
    unfolding read_u32
    u32_near a b c d na nb nc nd p =
        then_near (λ (k : ℕ). k < 2 ^ 2) Fine p 2 0 32 0 34 2 (omega arith) (omega arith) (omega arith) (λ k at. read_choice s at (choice_at k a b c d)) (read_bits s p 2)
        (field_near p 2 2 (omega arith)) (λ k q t. go k q)
      where
        go : (k : ℕ) → ChoiceNear (choice_at k a b c d)
        go zero = na
        go (suc zero) = nb
        go (suc (suc zero)) = nc
        go (suc (suc (suc k))) = nd
