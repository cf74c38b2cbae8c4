-- What the check promises (document 01, Refused, 18).
use Rattle.std.specs.Prelude.{◌≡◌, List, ℕ, length}
use Rattle.layout.specs.Valid.{Layout}
use Rattle.layout.specs.Check.{is_layout}
use Rattle.layout.proofs.laws.Theorems.{layout_iff}
use Rattle.refusal.specs.Answer.{gives}
use Rattle.lent_check.specs.Calls.{check_of}
use Rattle.lent_sides.specs.Limits.{in_limits, lengths_fit, Sided}
use Rattle.lent_sides.specs.laws.Limits.{in_limits_lem, limits_in, lengths_fit_lem, fit_lengths}
use Rattle.refusal.specs.laws.Answer.{pass}
use Rattle.lent_check.specs.laws.Laws.{check_fine}

-- The check passes layouts with sides in the limits, and no other lent record.
module _ (limit w h : ℕ) (kinds hf_mul : List ℕ) where
  pub checked : check_of limit w h kinds hf_mul ≡ gives tt → Sided limit w h × Layout w h kinds hf_mul
  unfolding check_of
  checked e =
      let a = pass 2 (in_limits limit w h) _ tt e in
      let b = pass 1 (lengths_fit w h (length kinds) (length hf_mul)) _ tt a.1 in
      let c = pass 18 (is_layout w h kinds hf_mul) (gives tt) tt b.1 in
      let l = lengths_fit_lem w h (length kinds) (length hf_mul) b.0 in
      (in_limits_lem limit w h a.0, (layout_iff w h kinds hf_mul l.0 l.1).0 c.0)

  pub checks : Sided limit w h → Layout w h kinds hf_mul → check_of limit w h kinds hf_mul ≡ gives tt
  checks s ok =
      check_fine limit w h kinds hf_mul (limits_in limit w h s) (fit_lengths w h (length kinds) (length hf_mul) ok.kinds_length ok.hf_mul_length)
      ((layout_iff w h kinds hf_mul ok.kinds_length ok.hf_mul_length).1 ok)
