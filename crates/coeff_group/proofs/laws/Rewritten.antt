-- Rows of counts, rewritten by what the channels of a varblock have read, and what its reading hands back.
use Rattle.std.specs.Prelude.{◌≡◌, refl, List, [], ◌∷◌, ℕ, zero, suc, ◌+◌, ◌≤◌, ◌<◌, length, get_or, set, Ok, Err}
use Rattle.std.proofs.Common.{sym, subst, ◌∙◌, arith, get_or-set_same, get_or-set_other}
use Rattle.refusal.specs.declared.Refusal.{Refusal}
use Rattle.coeff_walk.proofs.laws.Used.{not_done}
use Rattle.laws.specs.Lists.{fill_from}
use Rattle.coeff_group.specs.declared.plan.Plan.{Plan}
use Rattle.coeff_group.specs.Group.{PerChannel, Reading, going, refused}
use Rattle.coeff_group.specs.laws.Steps.{row_by, Shown}
use Rattle.coeff_group.specs.laws.Plans.{channel_walked}
use Rattle.coeff_group.specs.laws.Rewritten.{three, rewritten, counts_by, no_counts}

module _ (p : Plan) (counts_over : List ℕ) (rows : PerChannel) where
  -- a channel's own row is still as it was when the channel is walked
  pub row_kept : (n : ℕ) → n < 3 → get_or (rewritten p counts_over rows n) (channel_walked n) [] ≡ get_or rows (channel_walked n) []
  row_kept zero h = refl
  row_kept (suc zero) h = refl
  row_kept (suc (suc zero)) h = refl
  row_kept (suc (suc (suc n))) h = absurd (omega arith)

  -- its count joins those of the channels before
  pub row_joins : (n v : ℕ) → n < 3 → length counts_over ≡ 3
      → rewritten p (set counts_over (channel_walked n) v) rows (n + 1) ≡ row_by (rewritten p counts_over rows n) (channel_walked n) p.shape.x p.shape.wide v
  row_joins zero v h e = rw (get_or-set_same counts_over 1 v 0 (omega arith))
  row_joins (suc zero) v h e = rw (get_or-set_same counts_over 0 v 0 (omega arith), get_or-set_other counts_over 0 1 v 0 (λ e. omega arith))
  row_joins (suc (suc zero)) v h e =
      rw (get_or-set_same counts_over 2 v 0 (omega arith), get_or-set_other counts_over 2 0 v 0 (λ e. omega arith), get_or-set_other counts_over 2 1 v 0 (λ e. omega arith))
  row_joins (suc (suc (suc n))) v h e = absurd (omega arith)

-- a number of a row before those that are rewritten, and the first of these
row_before : (row : List ℕ) (x n v j : ℕ) → j < x → get_or (fill_from row x n v) j 0 ≡ get_or row j 0
unfolding fill_from
row_before row x zero v j h = refl
row_before row x (suc n) v j h = row_before (set row x v) (x + 1) n v j (omega arith) ∙ get_or-set_other row x j v 0 (omega arith)

row_first : (row : List ℕ) (x n v : ℕ) → 1 ≤ n → x < length row → get_or (fill_from row x n v) x 0 ≡ v
unfolding fill_from
row_first row x zero v h l = absurd (omega arith)
row_first row x (suc n) v h l = row_before (set row x v) (x + 1) n v x (omega arith) ∙ get_or-set_same row x v 0 l

-- the counts of a reading that was stopped, and of one that was not
module _ (p : Plan) (symbols : List ℕ) (most : ℕ) (log : List ℕ) (G : PerChannel) where
  pub counts_none : (why : Refusal) (rows : PerChannel) (R : Reading) → Shown symbols most (Err why) rows log G R → no_counts ≡ counts_by p.shape.x R
  counts_none why rows (refused why' at log' G') s = refl
  counts_none why rows (going us at log' G' rows') s = absurd (not_done why at s.it.answer)

  module _ (counts_over : List ℕ) (rows : PerChannel) (some : 1 ≤ p.shape.wide) (inside : (c : ℕ) → c < 3 → p.shape.x < length (get_or rows c [])) where
    at_x : (c : ℕ) → c < 3 → get_or (fill_from (get_or rows c []) p.shape.x p.shape.wide (get_or counts_over c 0)) p.shape.x 0 ≡ get_or counts_over c 0
    at_x c h = row_first (get_or rows c []) p.shape.x p.shape.wide (get_or counts_over c 0) some (inside c h)

    listed : (l : List ℕ) → length l ≡ 3 → l ≡ get_or l 0 0 ∷ get_or l 1 0 ∷ get_or l 2 0 ∷ []
    listed (a ∷ b ∷ c ∷ []) e = refl
    listed [] e = absurd (omega arith)
    listed (a ∷ []) e = absurd (omega arith)
    listed (a ∷ b ∷ []) e = absurd (omega arith)
    listed (a ∷ b ∷ c ∷ d ∷ l) e = absurd (omega arith)

    pub counts_read : (at : ℕ) (R : Reading) → length counts_over ≡ 3 → Shown symbols most (Ok at) (rewritten p counts_over rows 3) log G R → counts_over ≡ counts_by p.shape.x R
    counts_read at (refused why at' log' G') e s = absurd (not_done (why at') at (sym s.it.answer))
    counts_read at (going us at' log' G' rows') e s =
        rw (s.it.counts, at_x 0 (omega arith), at_x 1 (omega arith), at_x 2 (omega arith)) (listed counts_over e)

-- three rows as a list of three
pub three_is : (rows : PerChannel) → length rows ≡ 3 → three rows ≡ rows
three_is (a ∷ b ∷ c ∷ []) e = refl
three_is [] e = absurd (omega arith)
three_is (a ∷ []) e = absurd (omega arith)
three_is (a ∷ b ∷ []) e = absurd (omega arith)
three_is (a ∷ b ∷ c ∷ d ∷ l) e = absurd (omega arith)

-- the three rows, rewritten one after the other
pub rows_are : (p : Plan) (counts_over : List ℕ) (rows : PerChannel) → length rows ≡ 3 → (r₀ r₁ r₂ : List ℕ) → r₁ ≡ fill_from (get_or rows 1 []) p.shape.x p.shape.wide (get_or counts_over 1 0)
    → r₀ ≡ fill_from (get_or (set rows 1 r₁) 0 []) p.shape.x p.shape.wide (get_or counts_over 0 0)
    → r₂ ≡ fill_from (get_or (set (set rows 1 r₁) 0 r₀) 2 []) p.shape.x p.shape.wide (get_or counts_over 2 0)
    → set (set (set rows 1 r₁) 0 r₀) 2 r₂ ≡ rewritten p counts_over rows 3
rows_are p counts_over rows f r₀ r₁ r₂ e₁ e₀ e₂ =
    subst (λ (l : PerChannel). r₁ ≡ fill_from (get_or l 1 []) p.shape.x p.shape.wide (get_or counts_over 1 0)
    → r₀ ≡ fill_from (get_or (set l 1 r₁) 0 []) p.shape.x p.shape.wide (get_or counts_over 0 0)
    → r₂ ≡ fill_from (get_or (set (set l 1 r₁) 0 r₀) 2 []) p.shape.x p.shape.wide (get_or counts_over 2 0)
    → set (set (set l 1 r₁) 0 r₀) 2 r₂ ≡ rewritten p counts_over rows 3) (three_is rows f) (λ a b d. rw (d, b, a)) e₁ e₀ e₂
