-- The situations of the census: the test that computes says what the plain statement says.
use Rattle.std.specs.Prelude.{◌≡◌, refl, Bool, true, false, ◌||◌, List, [], ◌∷◌, ℕ, zero, suc, ◌+◌, ◌^◌, ◌<◌, ◌≤◌, T, eqb, length, get_or}
use Rattle.std.proofs.Common.{ap, sym, ◌∙◌, arith, le-leb, leb-true, eqb-true, eqb→eq}
use Rattle.std.proofs.lemmas.Bool.{false≢true}
use Rattle.std.proofs.Math.Nat.{pow-le-pow_right}
use Rattle.std.specs.Float.Ieee.Bits.{is_true}
use Rattle.laws.specs.Tables.{each}
use Rattle.laws.specs.laws.Tables.{each_at}
use Rattle.laws.specs.laws.Cases.{and-true}
use Rattle.coeff_context.specs.Census.{Situation, PowerOfTwo, InCensus, is_power, speaks_of}

-- the powers of two from 2 ^ e on, n of them
abbrev powers_from : ℕ → ℕ → List ℕ
powers_from zero e = []
powers_from (suc n) e = 2 ^ e ∷ powers_from n (e + 1)

abbrev POWERS : List ℕ
POWERS = powers_from 11 0

-- b, or one of a list
abbrev one_of : Bool → List ℕ → ℕ → Bool
one_of b [] n = b
one_of b (x ∷ xs) n = one_of (b || eqb n x) xs n

powers : T (each (λ (e : ℕ). eqb (get_or POWERS e 0) (2 ^ e)) 11 0)
powers = tt

-- where b is false, an element
found : (xs : List ℕ) (b : Bool) (n : ℕ) → b ≡ false → one_of b xs n ≡ true → (k : ℕ) × (k < length xs) × (n ≡ get_or xs k 0)
found [] b n f e = absurd (false≢true (sym f ∙ e))
found (x ∷ xs) b n f e = go (eqb n x) refl (found xs (b || eqb n x) n)
  where
    go : (c : Bool) → eqb n x ≡ c → (b || eqb n x ≡ false → one_of (b || eqb n x) xs n ≡ true → (k : ℕ) × (k < length xs) × (n ≡ get_or xs k 0)) → (k : ℕ) × (k < suc (length xs)) × (n ≡ get_or (x ∷ xs) k 0)
    go true q ih = (0, omega arith, eqb-true n x q)
    go false q ih = let r = ih (rw (f, q)) e in (suc r.0, omega (arith, r.1), r.2)

pub is_power_lem : (n : ℕ) → is_power n ≡ true → PowerOfTwo n
is_power_lem n e =
    let r = found POWERS false n refl e in
    record {
      exponent = r.0;
      few = omega (arith, r.1);
      power = r.2 ∙ eqb→eq (get_or POWERS r.0 0) (2 ^ r.0) (each_at (λ (e : ℕ). eqb (get_or POWERS e 0) (2 ^ e)) 11 0 powers r.0 (omega arith) r.1);
    }

power_is : (n : ℕ) → PowerOfTwo n → is_power n ≡ true
power_is n p = ap is_power p.power ∙ is_true (is_power (2 ^ p.exponent)) (each_at (λ (e : ℕ). is_power (2 ^ e)) 11 0 tt p.exponent (omega arith) (omega (arith, p.few)))

pub positive : (n : ℕ) → PowerOfTwo n → 1 ≤ n
positive n p = rw p.power (pow-le-pow_right {n = 2} (omega arith) {i = 0} {j = p.exponent} (omega arith))

pub speaks_in : (s : Situation) → speaks_of s ≡ true → InCensus s
unfolding speaks_of
speaks_in s e =
    let c = and-true _ _ e in
    let b = and-true _ _ c.0 in
    let a = and-true _ _ b.0 in
    record {
      power = is_power_lem s.blocks a.0;
      some = leb-true 1 s.count a.1;
      room = leb-true _ _ b.1;
      flag = leb-true s.prev 1 c.1;
    }

pub in_speaks : (s : Situation) → InCensus s → speaks_of s ≡ true
unfolding speaks_of
in_speaks s i = rw (power_is s.blocks i.power, le-leb 1 s.count i.some, le-leb _ _ i.room, le-leb s.prev 1 i.flag)
