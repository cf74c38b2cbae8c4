-- Laws on answers and on chains of checks.
use Rattle.std.specs.Prelude.{◌≡◌, refl, Bool, true, false, ℕ}
use Rattle.std.proofs.Common.{ap, sym, arith}
use Rattle.refusal.specs.declared.Said.{Said}
use Rattle.refusal.specs.Answer.{Answer, gives, refuses, unless, answered_by}

-- a result comes after a test that passed
pub pass : {A : Type 0} (n : ℕ) (b : Bool) (next : Answer A) (a : A) → unless n b next ≡ gives a → (b ≡ true) × (next ≡ gives a)
pass n true next a e = (refl, e)
pass n false next a e = absurd (let z : ◌≡◌ {A = ℕ} 0 1 = cc in omega arith)

-- a refusal's number, 0 for a result
abbrev pub refused_with : {A : Type 0} → Answer A → ℕ
refused_with (gives a) = 0
refused_with (refuses s) = s.number

-- a refusal with another number comes after a test that passed
pub refused_later : {A : Type 0} (n : ℕ) (b : Bool) (next : Answer A) (s : Said) → (s.number ≡ n → ⊥) → unless n b next ≡ refuses s → (b ≡ true) × (next ≡ refuses s)
refused_later n true next s other e = (refl, e)
refused_later n false next s other e = absurd (other (sym (ap refused_with e)))

-- what is made of an answer's ends is made of the answer
pub answered_by_lem : {A O P : Type 0} (f : O → P) (a : Answer A) (refuse : Said → O) (work : A → O)
    → f (answered_by a refuse work) ≡ answered_by a (λ (s : Said). f (refuse s)) (λ (x : A). f (work x))
answered_by_lem f (refuses s) refuse work = refl
answered_by_lem f (gives x) refuse work = refl

-- what no refusal makes was made of a result
pub worked : {A O : Type 0} (a : Answer A) (refuse : Said → O) (work : A → O) (o : O) → ((s : Said) → refuse s ≡ o → ⊥) → answered_by a refuse work ≡ o
    → (x : A) × (a ≡ gives x) × (work x ≡ o)
worked (refuses s) refuse work o never e = absurd (never s e)
worked (gives x) refuse work o never e = (x, refl, e)
