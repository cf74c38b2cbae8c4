-- The code's tables of sizes against the transforms.
use Rattle.std.specs.Prelude.{◌≡◌, ◌&&◌, cond, List, map, ℕ, ◌-◌, ◌≤◌, ◌<◌, leb, get_or}
use borrow.Author.Tests.{le-leb, lt-leb}
use Rattle.laws.specs.laws.Lists.{get_d_map}
use Rattle.dct_select.specs.Transforms.{Row, row, TRANSFORMS, wide, high}
use Rattle.dct_select.specs.declared.Sides.{Sides}
use Rattle.dct_select.specs.LookUp.{sides}

-- the table of transforms by column
unfoldable pub WIDES : List ℕ
WIDES = map (λ (r : Row). r.wide) TRANSFORMS

unfoldable pub HIGHS : List ℕ
HIGHS = map (λ (r : Row). r.high) TRANSFORMS

pub wide_at : (t : ℕ) → get_or WIDES t 0 ≡ wide t
unfolding WIDES wide
wide_at t = get_d_map (λ (r : Row). r.wide) TRANSFORMS t (row 0 0 0)

pub high_at : (t : ℕ) → get_or HIGHS t 0 ≡ high t
unfolding HIGHS high
high_at t = get_d_map (λ (r : Row). r.high) TRANSFORMS t (row 0 0 0)

-- blocks across and down of a corner's varblock from two lent tables, 0 and 0 for any other kind
unfoldable pub size_by : List ℕ → List ℕ → ℕ → Sides
size_by ws hs kind = cond (leb 2 kind && leb kind 28) (sides (get_or ws (kind - 2) 0) (get_or hs (kind - 2) 0)) (sides 0 0)

module _ (ws hs : List ℕ) (kind : ℕ) where
  pub size_small : kind < 2 → size_by ws hs kind ≡ sides 0 0
  unfolding size_by
  size_small h = rw (lt-leb 2 kind h)

  pub size_large : 2 ≤ kind → 28 < kind → size_by ws hs kind ≡ sides 0 0
  unfolding size_by
  size_large h l = rw (le-leb 2 kind h, lt-leb kind 28 l)

  pub size_known : 2 ≤ kind → kind ≤ 28 → size_by ws hs kind ≡ sides (get_or ws (kind - 2) 0) (get_or hs (kind - 2) 0)
  unfolding size_by
  size_known h l = rw (le-leb 2 kind h, le-leb kind 28 l)
