-- The ends of the likeness test.
use Rattle.std.specs.Prelude.{◌≡◌, Bool, ◌⊎◌, ℕ}
use Rattle.layout.specs.Empty.{Empty}
use Rattle.lent_check.specs.laws.Laws.{is_lent_layout}
use Rattle.lent_likeness.specs.Like.{FilteredLayout, filtered}
use Rattle.lent_likeness.specs.declared.Filtered.{Filtered}

-- what is lent
abbrev pub of_filtered : Filtered → FilteredLayout
of_filtered l = filtered l.bw l.bh l.kinds.now l.hf_mul.now l.sigma.now

-- a layout that is lent in full, as the code tests it
abbrev pub is_lent : FilteredLayout → Bool
is_lent L = is_lent_layout L.layout.bw L.layout.bh L.layout.kinds L.layout.hf_mul

-- no blocks in either, or the same sides; what the test says
abbrev pub SidesAlike : (bw bh bw' bh' : ℕ) → Type 0
SidesAlike bw bh bw' bh' = (Empty bw bh × Empty bw' bh') ⊎ ((bw ≡ bw') × (bh ≡ bh'))

-- lent alike: so the sides, and the same lists
pub record LentAlike (L N : FilteredLayout) : Type 0 where
  pub sides : SidesAlike L.layout.bw L.layout.bh N.layout.bw N.layout.bh
  pub kinds : L.layout.kinds ≡ N.layout.kinds
  pub hf_mul : L.layout.hf_mul ≡ N.layout.hf_mul
  pub sigma : L.sigma ≡ N.sigma
