-- Accepted sequences that are read to their end, and grids that keep the low-frequency cells, correspond one to one (document 02, No. 8).
use Rattle.std.specs.Prelude.{◌≡◌, refl, List, ℕ, length}
use Rattle.std.proofs.Common.{ap, sym, ◌∙◌}
use Rattle.std.proofs.lemmas.List.Edits.{sets}
use Rattle.coeff_group.specs.Group.{PerChannel}
use Rattle.coeff_group.specs.PassGroup.{group_items}
use Rattle.coeff_group.specs.Sequence.{read_cells, the_sequence}
use Rattle.coeff_group.specs.laws.Cells.{adds}
use Rattle.coeff_group.proofs.laws.Cells.{adds_shape, adds_words}
use Rattle.coeff_group.specs.laws.Reads.{joined}
use Rattle.coeff_call.specs.Call.{Lent, Outcome, outcome_of}
use Rattle.one_to_one.specs.Filling.{Fixed, Filling, with_symbols, final_grids}
use Rattle.one_to_one.proofs.laws.OverCall.{start_sized, group_read}
use Rattle.one_to_one.proofs.laws.Demand3.{one_sequence}
use Rattle.one_to_one.proofs.laws.LowCells.{low_kept}
use Rattle.one_to_one.proofs.laws.Ways.{did, outcome_by}
use Rattle.one_to_one.specs.laws.Correspond.{FromSequence, FromGrids}

module _ (L : Lent) (fixed : Fixed L) where
  -- the grids that symbols s end in: the start, with symbols added
  abbrev added : List ℕ → PerChannel
  added s = adds L.shift L.grids (read_cells (group_items L.pass_group)) (joined (did (with_symbols L s) fixed.rest.preset).dss)

  final_is : (s : List ℕ) → final_grids L s ≡ added s
  final_is s =
      let d = did (with_symbols L s) fixed.rest.preset in
      ap (λ (o : Outcome). o.grids) (group_read L fixed s ∙ ap outcome_of (d.is L.log) ∙ outcome_by d.end (length d.clusters) (sets L.log 0 d.clusters) (added s))

  -- whatever is read, the grids keep their sizes and the low-frequency cells, and hold 32-bit numbers
  final_filling : (s : List ℕ) → Filling L (final_grids L s)
  final_filling s =
      let a = adds_shape L.shift L.grids (read_cells (group_items L.pass_group)) (joined (did (with_symbols L s) fixed.rest.preset).dss) in
      let z = start_sized L fixed in
      record {
        sized = rw (final_is s) (record { three = a.count ∙ z.three; cells = λ c h. a.sizes c ∙ z.cells c h });
        words = rw (final_is s) (adds_words L.shift L.grids (read_cells (group_items L.pass_group)) (joined (did (with_symbols L s) fixed.rest.preset).dss) fixed.rest.words);
        low = low_kept (with_symbols L s) fixed.orders;
      }

  -- from a sequence to its grids and back
  pub from_sequence : FromSequence L fixed
  from_sequence s h a =
      let f = final_filling s in
      (f, sym (((one_sequence L fixed (final_grids L s) f).1 s h).0 (record { accepted = a; grids = refl })))

  -- from grids to their sequence and back
  pub from_grids : FromGrids L fixed
  from_grids W f =
      let o = one_sequence L fixed W f in
      let q = (o.1 (the_sequence L.pass_group L.grids W) o.0).1 refl in
      (o.0, q.accepted, q.grids)
