-- Filter off: sharpness unread (document 01, Layout and filter strength).
use Rattle.std.specs.Prelude.{◌≡◌, List, length}
use Prim.Native.Nat.{ℕ}
use Rattle.layout_call.specs.Call.{Inputs, layout_of}
use Rattle.layout_accepted.specs.Outcome.{with_sharpness}
use Rattle.layout_filter.specs.declared.Filter.TheVariants.{Off}

module _ (i : Inputs) (s : List ℕ) where
  -- whatever the sharpness numbers are, as many of them: the same answer, the same buffers
  abbrev pub SharpnessUnread : Type 0
  SharpnessUnread =
      i.filter ≡ Off
      → length s ≡ length i.sharpness → (kinds hf_mul sigma : List ℕ) → layout_of (with_sharpness i s) kinds hf_mul sigma ≡ layout_of i kinds hf_mul sigma
