-- What the exported layout call hands out (document 01, Layout and filter strength, and Refused).
use Rattle.std.specs.Prelude.{◌≡◌, Bool, true, false, List, ℕ, Float}
use Rattle.refusal.specs.Handed.{Handed, handed}
use Rattle.layout_filter.specs.declared.Filter.{Filter}
use Rattle.layout_filter.specs.declared.Filter.TheVariants.{Off, On}
use Rattle.layout_call.specs.Call.{Outcome}

-- with the filter off the multiplier is not looked at
abbrev pub filter_of : Bool → Float → Filter
filter_of false multiplier = Off
filter_of true multiplier = On multiplier

-- what is handed out, where the number of columns used held kept before, and what the three lists hold then, against the call's outcome
pub record LayoutLeaves (out : Handed ℕ) (kinds hf_mul sigma : List ℕ) (kept : ℕ) (o : Outcome) : Type 0 where
  pub handed_is : out ≡ handed o.answer kept
  pub kinds_are : kinds ≡ o.kinds
  pub hf_mul_is : hf_mul ≡ o.hf_mul
  pub sigma_is : sigma ≡ o.sigma
