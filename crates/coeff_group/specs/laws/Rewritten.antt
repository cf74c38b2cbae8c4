-- Rows of counts, rewritten by what the channels of a varblock have read, and what its reading hands back.
use Rattle.std.specs.Prelude.{◌≡◌, List, [], ◌∷◌, ℕ, zero, suc, ◌+◌, ◌*◌, ◌^◌, ◌<◌, length, get_or, Result}
use Rattle.refusal.specs.declared.Refusal.{Refusal}
use Rattle.coeff_walk.specs.laws.Outcome.{AllUseUp}
use Rattle.coeff_walk.specs.Item.{Item}
use Rattle.coeff_group.specs.declared.plan.Plan.{Plan}
use Rattle.coeff_group.specs.Group.{PerChannel, Reading, going, refused}
use Rattle.coeff_group.specs.laws.Steps.{ended, beside, row_by, Shown}
use Rattle.coeff_group.specs.laws.Plans.{channel_walked}

-- three rows
abbrev pub three : PerChannel → PerChannel
three rows = get_or rows 0 [] ∷ get_or rows 1 [] ∷ get_or rows 2 [] ∷ []

-- the rows after the first n channels walked, by the counts of channels 0, 1, 2 over the varblock's blocks
abbrev pub rewritten : Plan → List ℕ → PerChannel → ℕ → PerChannel
rewritten p counts_over rows zero = three rows
rewritten p counts_over rows (suc n) =
    let c = channel_walked n in
    row_by (rewritten p counts_over rows n) c p.shape.x p.shape.wide (get_or counts_over c 0)

-- what the counts of channels 0, 1, 2 come to over a varblock's blocks: what its reading leaves in their rows at its x x; 0 beside a refusal
abbrev pub counts_by : ℕ → Reading → List ℕ
counts_by x (going us at log grids rows) = get_or (get_or rows 0 []) x 0 ∷ get_or (get_or rows 1 []) x 0 ∷ get_or (get_or rows 2 []) x 0 ∷ []
counts_by x (refused why at log grids) = 0 ∷ 0 ∷ 0 ∷ []

-- no counts: what stands for those of a reading that was stopped, which hands none back
abbrev pub no_counts : List ℕ
no_counts = 0 ∷ 0 ∷ 0 ∷ []

-- what the reading R of a varblock with these items, behind `at` symbols, hands back: the symbols read and beside them the counts, or why it was stopped, log and grids; the rows are rewritten by the counts; where it is done, these are used up
pub record VarblockShown (p : Plan) (its : List Item) (symbols : List ℕ) (at : ℕ) (r : Result (ℕ × List ℕ) Refusal) (rows : PerChannel) (log : List ℕ) (G : PerChannel) (R : Reading) : Type 0 where
  pub shown : Shown symbols (at + 192 * 2 ^ p.shape.exponent) (ended r) (rewritten p (beside no_counts r) rows 3) log G R
  pub used : AllUseUp its symbols at (ended r)
  -- of rows that have a number in that x, as rows of 32 do
  pub counted : ((c : ℕ) → c < 3 → p.shape.x < length (get_or rows c [])) → beside no_counts r ≡ counts_by p.shape.x R
