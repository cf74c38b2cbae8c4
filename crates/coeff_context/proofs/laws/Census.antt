-- The context census (document 02, No. 9).
use Rattle.std.specs.Prelude.{◌≡◌, refl, Bool, cond, ◌&&◌, List, [], ◌∷◌, ◌↔◌, ℕ, suc, ◌+◌, ◌*◌, ◌-◌, ◌/◌, ◌%◌, ◌<◌, ◌≤◌, T, ltb, eqb, length}
use Rattle.std.proofs.Math.Path.{ap, sym}
use Rattle.std.proofs.Common.{◌∙◌, arith, mul-div_cancel, mul-le-mul, add-mul, ltb→lt, eqb→eq}
use Rattle.std.specs.Float.Ieee.Fits.{and_l, and_r}
use Rattle.laws.specs.Tables.{each}
use Rattle.laws.specs.laws.Tables.{each_at}
use Rattle.coeff_context.specs.Context.{coeff_context, NUM_NONZERO, FREQ}
use Rattle.coeff_context.specs.Census.{Situation, situation, InCensus, non_zero_entry, frequency_entry, SameEntries, context_of, in_one_block}
use Rattle.coeff_context.specs.laws.Contexts.{entries, non_zero_in}
use Rattle.coeff_context.proofs.laws.Contexts.{entries_tell, quotients, context_below}
use Rattle.coeff_context.proofs.laws.Situations.{positive}
use Rattle.coeff_context.specs.laws.Census.{EachNumber}

module _ (s : Situation) (i : InCensus s) where
  pub quotients_small : (s.count - 1) / s.blocks + s.place / s.blocks < 63
  quotients_small = quotients s.blocks (s.count - 1) s.place (omega (arith, i.some, i.room))

  -- both entries are there: no number outside a table is looked at
  pub entries_there : ((s.count - 1) / s.blocks < length NUM_NONZERO) × (s.place / s.blocks < length FREQ)
  unfolding NUM_NONZERO FREQ
  entries_there = (omega (arith, quotients_small), omega (arith, quotients_small))

  -- the number is below 458
  pub below : context_of s < 458
  below = context_below s.blocks (s.count - 1) s.place s.prev (omega (arith, i.some, i.room)) i.flag

-- two situations, also of different block counts, have the same number exactly if they have the same entries and the same flag
module _ (s t : Situation) (i : InCensus s) (j : InCensus t) where
  tells : (s : Situation) → InCensus s → non_zero_in (non_zero_entry s + frequency_entry s) ≡ non_zero_entry s
  tells s i = entries_tell ((s.count - 1) / s.blocks) (s.place / s.blocks) (quotients_small s i)

  same_entries : context_of s ≡ context_of t → SameEntries s t
  unfolding coeff_context
  same_entries e =
      let p : s.prev ≡ t.prev = omega (arith, e, i.flag, j.flag) in
      let q : non_zero_entry s + frequency_entry s ≡ non_zero_entry t + frequency_entry t = omega (arith, e, p) in
      let n : non_zero_entry s ≡ non_zero_entry t = sym (tells s i) ∙ ap non_zero_in q ∙ tells t j in
      record { non_zero = omega (arith, n); frequency = omega (arith, n, q); flag = omega (arith, p) }

  pub same_number : (context_of s ≡ context_of t) ↔ SameEntries s t
  unfolding coeff_context
  same_number = (same_entries, λ h. rw (h.non_zero, h.frequency, h.flag))

-- the first place of a number in a list
abbrev first_of : List ℕ → ℕ → ℕ
first_of [] v = 0
first_of (x ∷ xs) v = cond (eqb x v) 0 (suc (first_of xs v))

-- entries that a sum is made of
abbrev non_zero_at : ℕ → ℕ
non_zero_at k = first_of NUM_NONZERO (non_zero_in k)

abbrev frequency_at : ℕ → ℕ
frequency_at k = first_of FREQ (k - non_zero_in k)

abbrev made : ℕ → Bool
made k = eqb (entries (non_zero_at k) (frequency_at k)) k && ltb (non_zero_at k + frequency_at k) 63

-- one test over the 229 sums
sums : T (each made 229 0)
unfolding NUM_NONZERO FREQ
sums = tt

sub_one : (n : ℕ) → n + 1 - 1 ≡ n
sub_one n = omega arith

-- each number occurs, in varblocks of every block count
pub each_number : EachNumber
unfolding coeff_context
each_number b p k h =
    let j = k / 2 in
    let t = each_at made 229 0 sums j (omega arith) (omega arith) in
    at (non_zero_at j) (frequency_at j)
    (eqb→eq (entries (non_zero_at j) (frequency_at j)) j (and_l (eqb (entries (non_zero_at j) (frequency_at j)) j) (ltb (non_zero_at j + frequency_at j) 63) t))
    (ltb→lt (non_zero_at j + frequency_at j) 63 (and_r (eqb (entries (non_zero_at j) (frequency_at j)) j) (ltb (non_zero_at j + frequency_at j) 63) t))
  where
    at : (a c : ℕ) → entries a c ≡ k / 2 → a + c < 63 → (s : Situation) × InCensus s × (s.blocks ≡ b) × (context_of s ≡ k)
    at a c e l =
        let o = positive b p in
        let m : (a + c) * b ≡ a * b + c * b = add-mul a c b in
        let r : (a + c) * b ≤ 62 * b = mul-le-mul {n₁ = a + c} {m₁ = b} {n₂ = 62} {m₂ = b} (omega (arith, l)) (omega arith) in
        let x : (a * b + 1 - 1) / b ≡ a = ap (λ (n : ℕ). n / b) (sub_one (a * b)) ∙ mul-div_cancel a {n = b} o in
        let y : c * b / b ≡ c = mul-div_cancel c {n = b} o in (
          situation b (a * b + 1) (c * b) (k % 2),
          record { power = p; some = omega arith; room = omega (arith, m, r, o); flag = omega arith },
          refl,
          rw (x, y, e) (omega arith),
        )

-- only the two quotients and the flag count
pub one_block : (s : Situation) → InCensus s → InCensus (in_one_block s) × (context_of (in_one_block s) ≡ context_of s)
unfolding coeff_context
one_block s i =
    let q = quotients_small s i in
    let a = (s.count - 1) / s.blocks in
    let c = s.place / s.blocks in
    let x : (a + 1 - 1) / 1 ≡ a = omega arith in
    let y : c / 1 ≡ c = omega arith in (
      record { power = record { exponent = 0; few = omega arith; power = refl }; some = omega arith; room = omega (arith, q); flag = i.flag },
      rw (x, y),
    )
