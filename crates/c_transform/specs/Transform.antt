-- What the exported transform look-up hands out (document 01, Transform and Refused).
use Rattle.std.specs.Prelude.{Bool, ℕ}
use Rattle.refusal.specs.Answer.{Answer, gives, refuses, answered_by}
use Rattle.dct_select.specs.Transforms.{wide, high, order_of, turns}
use Rattle.dct_select.specs.declared.TransformType.{TransformType}
use Rattle.dct_select.specs.LookUp.{number_of}

-- the results: sides in blocks, order number and turn
pub record Results : Type 0 where
  pub wide : ℕ
  pub high : ℕ
  pub order : ℕ
  pub turn : Bool

abbrev pub results : ℕ → ℕ → ℕ → Bool → Results
results w h o t = record { wide = w; high = h; order = o; turn = t }

abbrev pub answered : Answer TransformType → Answer Results
answered a =
    answered_by a refuses (λ (t : TransformType). gives (results (wide (number_of t)) (high (number_of t)) (order_of (number_of t)) (turns (number_of t))))
