-- What the likeness test of two lent layouts answers (document 01, Layout, "Added by us", and Refused; document 02, No. 12).
use Rattle.std.specs.Prelude.{Bool, ◌&&◌, ◌||◌, ℕ, ◌*◌, eqb, length}
use Rattle.refusal.specs.Answer.{Answer, gives, unless}
use Rattle.layout.specs.Check.{is_layout}
use Rattle.layout.specs.Empty.{is_empty}
use Rattle.lent_sides.specs.Limits.{in_limits, lengths_fit}
use Rattle.lent_lists.specs.Same.{same}
use Rattle.lent_lists.specs.Finite.{all_finite}
use Rattle.lent_likeness.specs.Like.{FilteredLayout}

abbrev pub sided : FilteredLayout → Bool
sided L = in_limits 256 L.layout.bw L.layout.bh

-- every sigma that is lent, whatever the lengths
abbrev pub strengths_finite : FilteredLayout → Bool
strengths_finite L = all_finite L.sigma

abbrev pub all_lengths_fit : FilteredLayout → Bool
all_lengths_fit L =
    lengths_fit L.layout.bw L.layout.bh (length L.layout.kinds) (length L.layout.hf_mul) && eqb (length L.sigma) (L.layout.bh * L.layout.bw)

abbrev pub holds_layout : FilteredLayout → Bool
holds_layout L = is_layout L.layout.bw L.layout.bh L.layout.kinds L.layout.hf_mul

-- no blocks in either (document 02, No. 2), or the same sides
abbrev pub sides_alike : (bw bh bw' bh' : ℕ) → Bool
sides_alike bw bh bw' bh' = (is_empty bw bh && is_empty bw' bh') || (eqb bw bw' && eqb bh bh')

-- so the sides, and the same lists: of two that no check refuses, the same varblocks and sigma bits (Theorems: like-yes, like-no)
unfoldable pub alike : FilteredLayout → FilteredLayout → Bool
alike L N =
    sides_alike L.layout.bw L.layout.bh N.layout.bw N.layout.bh
    && (same L.layout.kinds N.layout.kinds && (same L.layout.hf_mul N.layout.hf_mul && same L.sigma N.sigma))

-- each number is tried over both layouts before the next
unfoldable pub like_of : FilteredLayout → FilteredLayout → Answer Bool
like_of L N =
    unless 2 (sided L && sided N)
    (unless 11 (strengths_finite L && strengths_finite N)
    (unless 1 (all_lengths_fit L && all_lengths_fit N)
    (unless 18 (holds_layout L && holds_layout N) (gives (alike L N)))))
