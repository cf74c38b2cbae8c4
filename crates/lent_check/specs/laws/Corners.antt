-- The sides of a corner's varblock, from the tables of sizes.
use Rattle.std.specs.Prelude.{◌≡◌, refl, Bool, true, false, List, ℕ, ◌-◌, ◌≤◌, leb}
use Rattle.std.proofs.Common.{◌∙◌, arith, leb-true, leb-false}
use Rattle.std.proofs.Math.ListN.{get_or-eq_default}
use Rattle.dct_select.specs.LookUp.{sides}
use Rattle.dct_select.specs.Transforms.{row, TRANSFORMS, wide, high}
use Rattle.layout.specs.Kinds.{wide_of, high_of}
use Rattle.lent_sides.specs.laws.Sizes.{WIDES, HIGHS, wide_at, high_at, size_by, size_large, size_known}

-- an unknown transform has no blocks
size_beyond : (t : ℕ) → 27 ≤ t → sides 0 0 ≡ sides (wide t) (high t)
unfolding wide high TRANSFORMS
size_beyond t h = rw (get_or-eq_default TRANSFORMS (row 0 0 0) {n = t} h)

-- from the tables of the transforms a corner has its varblock's sides
pub size_corner : (ws hs : List ℕ) (kind : ℕ) → ws ≡ WIDES → hs ≡ HIGHS → 2 ≤ kind → size_by ws hs kind ≡ sides (wide_of kind) (high_of kind)
size_corner ws hs kind e f h = go (leb kind 28) refl
  where
    go : (b : Bool) → leb kind 28 ≡ b → size_by ws hs kind ≡ sides (wide_of kind) (high_of kind)
    go true t = size_known ws hs kind h (leb-true kind 28 t) ∙ rw (e, f, wide_at (kind - 2), high_at (kind - 2))
    go false t = let l = leb-false kind 28 t in size_large ws hs kind h l ∙ size_beyond (kind - 2) (omega arith)
