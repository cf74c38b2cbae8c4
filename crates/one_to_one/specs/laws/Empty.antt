-- A group without blocks (document 02, No. 2): its call reads the preset and no symbol, its sequence is the empty one, and no cut call wrote it.
use Rattle.std.specs.Prelude.{◌≡◌, ℕ}
use mathlib.Core.List.{[]}
use Rattle.refusal.specs.Said.{said_at}
use Rattle.refusal.specs.Answer.{answered_by}
use Rattle.layout.specs.Empty.{Empty}
use Rattle.coeff_group.specs.Group.{PerChannel}
use Rattle.coeff_group.specs.Sequence.{the_sequence}
use Rattle.coeff_preset.specs.Preset.{preset_of}
use Rattle.coeff_call.specs.Call.{Lent, before_work, preset_bits, refuse, call}
use Rattle.one_to_one.specs.Filling.{untouched}
use Rattle.one_to_one.specs.Witness.{strip_of}

module _ (L : Lent) (e : Empty L.pass_group.bw L.pass_group.bh) where
  -- the checks before work and the preset decide alone, whatever the symbols
  abbrev pub EmptyCall : Type 0
  EmptyCall = call L ≡ answered_by (before_work L) (refuse L) (λ (u : Unit). answered_by (preset_of L.presets (preset_bits L)) (refuse L) (λ (preset : ℕ). untouched L))

  -- demand 3: the sequence is empty, and no other fills the group's grids
  abbrev pub EmptySequence : Type 0
  EmptySequence = (W : PerChannel) → the_sequence L.pass_group L.grids W ≡ []

abbrev pub StripNoPreset : Type 0
StripNoPreset = call (strip_of 0) ≡ refuse (strip_of 0) (said_at 14 0 0)
