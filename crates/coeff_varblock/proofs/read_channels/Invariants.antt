use mathlib.Core.List.{[], ◌∷◌}
use mathlib.Core.Path.{◌≡◌}
use lib.ListN.{length, drop}
use Rattle.coeff_group.specs.Group.{going, read_items}
use Rattle.coeff_group.specs.laws.Rewritten.{three, rewritten}
use Rattle.coeff_group.specs.laws.Plans.{items_by}
use Rattle.coeff_group.proofs.laws.Channels.{ChannelsDue}
use Rattle.coeff_varblock.proofs.read_channels.Given as goal

abbrev pub invariant-loop-n : goal.invariant-loop-n
invariant-loop-n l =
    (length l.log ≡ length l.initial.log)
    × (length l.counts_over ≡ 3)
    × ChannelsDue l.plan l.group l.clusters l.preset_map l.store l.symbols l.at-2 l.shift (read_items l.shift l.clusters l.preset_map (items_by l.plan l.group l.store) (going (drop l.at-2 l.symbols) l.at-2 l.initial.log (l.initial.g0 ∷ l.initial.g1 ∷ l.initial.g2 ∷ []) (three l.rows))) l.n l.at (rewritten l.plan l.counts_over l.rows l.n) l.log (l.g0 ∷ l.g1 ∷ l.g2 ∷ [])
