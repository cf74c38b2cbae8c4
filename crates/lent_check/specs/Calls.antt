-- What the check of a lent layout or group answers (document 01, Layout, "Added by us"; Refused).
use Rattle.std.specs.Prelude.{List, ℕ, length}
use Rattle.refusal.specs.Answer.{Answer, unless, passed}
use Rattle.lent_sides.specs.Limits.{in_limits, lengths_fit}
use Rattle.layout.specs.Check.{is_layout}

-- a lent layout with sides up to a limit: 256 for an LF group's, 32 for a pass group's; 18 lets pass exactly what Layout says (Theorems: checked, checks)
unfoldable pub check_of : ℕ → ℕ → ℕ → List ℕ → List ℕ → Answer Unit
check_of limit bw bh kinds hf_mul =
    unless 2 (in_limits limit bw bh)
    (unless 1 (lengths_fit bw bh (length kinds) (length hf_mul))
    (unless 18 (is_layout bw bh kinds hf_mul) passed))
