-- What the examples of likeness are lent (document 02, No. 12): layouts of one block, by its kind, hf_mul and sigma.
use Rattle.std.specs.Prelude.{List, [], ◌∷◌, ℕ}
use Rattle.lent_likeness.specs.Like.{FilteredLayout, filtered}

abbrev pub one_block : ℕ → ℕ → List ℕ → FilteredLayout
one_block kind hf_mul sigma = filtered 1 1 (kind ∷ []) (hf_mul ∷ []) sigma

-- transforms 0 and 1, kinds 2 and 3
abbrev pub one_dct8 : FilteredLayout
one_dct8 = one_block 2 1 (0 ∷ [])

abbrev pub one_hornuss : FilteredLayout
one_hornuss = one_block 3 1 (0 ∷ [])
