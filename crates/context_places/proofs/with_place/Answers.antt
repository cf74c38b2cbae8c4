use borrow.Author.Rules.{rules}
use native.Mathlib.Omega.{arith}
use mathlib.Core.Path.{sym}
use lib.ListN.{length-take}
use lib.Seq.{take_all}
use Rattle.context_places.proofs.with_place.Goals as goal

pub returns-then-map-lt2496 : goal.returns-then-map-lt2496
returns-then-map-lt2496 c = sym (take_all 2496 c.args.map.now (omega arith))

pub slice_bounds-result-end : goal.slice_bounds-result-end
slice_bounds-result-end c = simp length-take (omega arith)
