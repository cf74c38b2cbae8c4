-- The border of refusal 24, computed (document 02, No. 8): the last place's symbol is read, logged and added before 24 is told, and 17 and 15
-- come first where they apply.
use Rattle.std.specs.Prelude.{◌≡◌, refl, [], ◌∷◌, ◌++◌, ℕ, replicate}
use Rattle.coded_numbers.specs.Signed.{unpack_signed}
use Rattle.refusal.specs.declared.Refusal.TheVariants.{SymbolsEnd, TooManyZeros, CountRemaining}
use Rattle.coeff_context.specs.Context.{FREQ, NUM_NONZERO, coeff_context}
use Rattle.coeff_walk.specs.Walk.{done, stopped, walk}
use Rattle.coeff_walk.specs.Item.{counted}
use Rattle.coeff_walk.specs.Remaining.{reads_one}

unfoldable computes : ℕ
unfolding counted walk coeff_context FREQ NUM_NONZERO unpack_signed
computes = 0

-- 24 behind the last place's symbol
pub one_remaining : reads_one (1 ∷ replicate 63 0) ≡ stopped CountRemaining 64 (7 ∷ (replicate 63 5 ++ replicate 2 9)) (replicate 64 0)
unfolding computes
one_remaining = refl

-- that symbol was added
pub last_added : reads_one (2 ∷ (replicate 62 0 ++ (2 ∷ []))) ≡ stopped CountRemaining 64 (7 ∷ (replicate 63 5 ++ replicate 2 9)) (replicate 63 0 ++ (1 ∷ []))
unfolding computes
last_added = refl

-- used up by the last place's symbol
pub last_used : reads_one (1 ∷ (replicate 62 0 ++ (2 ∷ []))) ≡ done [] 64 (7 ∷ (replicate 63 5 ++ replicate 2 9)) (replicate 63 0 ++ (1 ∷ []))
unfolding computes
last_used = refl

-- 15 where the last place's symbol is missing
pub last_missing : reads_one (1 ∷ replicate 62 0) ≡ stopped SymbolsEnd 63 (7 ∷ (replicate 62 5 ++ replicate 3 9)) (replicate 64 0)
unfolding computes
last_missing = refl

-- 32 comes to the last place over zeros alone, 33 to 17 before
pub thirty_two : reads_one (32 ∷ replicate 63 0) ≡ stopped CountRemaining 64 (7 ∷ (replicate 63 5 ++ replicate 2 9)) (replicate 64 0)
unfolding computes
thirty_two = refl

pub thirty_three : reads_one (33 ∷ replicate 63 0) ≡ stopped TooManyZeros 32 (7 ∷ (replicate 31 5 ++ replicate 34 9)) (replicate 64 0)
unfolding computes
thirty_three = refl
