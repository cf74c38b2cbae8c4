-- Laws: The low-frequency cells (document 01, Orders; document 00, demand 3): which they are, that no call changes them, and that all others are
use Rattle.std.specs.Prelude.{◌≡◌, refl, ◌⊎◌, List, [], ℕ, ◌^◌, ◌<◌, length, get_or, set}
use Rattle.std.proofs.Common.{ap, sym, ◌∙◌, inl, inr, arith, length-set, get_or-set_same, get_or-set_other}
use Rattle.std.proofs.Math.Decide.{ℕ_discrete, dec_lt}
use Rattle.std.proofs.lemmas.List.Edits.{sets}
use Rattle.std.proofs.Math.Seq.{set_out}
use Rattle.layout.proofs.laws.Theorems.{layout_iff}
use Rattle.coeff_group.specs.Group.{PerChannel}
use Rattle.coeff_group.specs.PassGroup.{PassGroup, varblocks, items_of}
use Rattle.coeff_call.specs.Call.{Lent, Outcome, outcome_of, call}
use Rattle.coeff_call.specs.laws.CallLaws.{lengths_fit_lem}
use Rattle.one_to_one.specs.Filling.{grid_length, put, ReadAt, LaidOut, Low, LowKept, Fixed, Filling}
use Rattle.coeff_group.specs.laws.Cells.{adds}
use Rattle.coeff_group.proofs.laws.Cells.{set_below, adds_off, put_cell, put_shape}
use Rattle.coeff_group.specs.laws.Reads.{joined}
use Rattle.one_to_one.specs.laws.Items.{Ordered}
use Rattle.one_to_one.proofs.laws.Items.{wrote_ordered, low_or_held, low_not_held}
use Rattle.one_to_one.specs.laws.Ways.{Way, before, work}
use Rattle.one_to_one.proofs.laws.Ways.{way, did, outcome_by}
use Rattle.order_call.specs.Call.{Wrote}
use Rattle.coeff_group.specs.Sequence.{in_cell, read_cells}

-- Whatever is lent, with orders as an accepted order call wrote them: no call, accepted or refused and of whatever shift, changes a
-- low-frequency cell.
module _ (L : Lent) (orders : Wrote L.pass_group.store) where
  by_way : Way L → LowKept L.pass_group L.grids (call L).grids
  by_way (before why t e) c p hc l = ap (λ (o : Outcome). in_cell o.grids c p) (e L.symbols L.log refl)
  by_way (work passed preset e) c p hc l =
      let P = L.pass_group in
      let k = lengths_fit_lem L passed.lengths in
      let lay : LaidOut P = (layout_iff P.bw P.bh P.kinds P.hf_mul k.kinds k.hf_mul).0 passed.layout in
      let d = did L preset in
      let G = adds L.shift L.grids (read_cells (items_of P (varblocks P))) (joined d.dss) in
      ap (λ (o : Outcome). in_cell o.grids c p) (e L.symbols L.log refl ∙ ap outcome_of (d.is L.log) ∙ outcome_by d.end (length d.clusters) (sets L.log 0 d.clusters) G)
      ∙ adds_off L.shift L.grids (read_cells (items_of P (varblocks P))) (joined d.dss) (c, p) (low_not_held P lay (wrote_ordered P orders) c p l)

  pub low_kept : LowKept L.pass_group L.grids (call L).grids
  low_kept = by_way (way L)

module _ (L : Lent) (fixed : Fixed L) where
  abbrev P : PassGroup
  P = L.pass_group

  -- each cell of the group is low-frequency or a place, and never both
  pub low_or_place : (c p : ℕ) → c < 3 → p < grid_length L.pass_group → (Low L.pass_group p × (ReadAt L.pass_group c p → ⊥)) ⊎ (ReadAt L.pass_group c p × (Low L.pass_group p → ⊥))
  low_or_place c p hc h = go (low_or_held P fixed.layout ordered c p hc h)
    where
      ordered : Ordered P
      ordered = wrote_ordered P fixed.orders

      go : Low P p ⊎ ReadAt L.pass_group c p → (Low P p × (ReadAt L.pass_group c p → ⊥)) ⊎ (ReadAt L.pass_group c p × (Low P p → ⊥))
      go (inl l) = inl (l, low_not_held P fixed.layout ordered c p l)
      go (inr i) = inr (i, λ (l : Low P p). low_not_held P fixed.layout ordered c p l i)

  -- any 32-bit number may be asked for in any cell that is not low-frequency
  pub others_free : (W : PerChannel) → Filling L W → (c p v : ℕ) → (Low L.pass_group p → ⊥) → v < 2 ^ 32 → Filling L (put W c p v)
  others_free W f c p v n h = go (dec_lt c (length W))
    where
      g : List ℕ
      g = set (get_or W c []) p v

      words : (d q : ℕ) → Dec (d ≡ c) → c < length W → in_cell (set W c g) d q < 2 ^ 32
      words d q (yes e) l = rw (e, get_or-set_same W c g [] l) (set_below (get_or W c []) p v q (2 ^ 32) h (f.words c q))
      words d q (no m) l = rw (get_or-set_other W c d g [] m) (f.words d q)

      same : (q : ℕ) → Low P q → in_cell W c q ≡ get_or (set (get_or W c []) p v) q 0
      same q l = sym (get_or-set_other (get_or W c []) p q v 0 (λ (e : q ≡ p). n (rw e at l)))

      go : Dec (c < length W) → Filling L (put W c p v)
      go (yes l) =
          let shape = put_shape W c g (length-set (get_or W c []) p v) in
          record {
            sized = record { three = shape.count ∙ f.sized.three; cells = λ d hd. shape.sizes d ∙ f.sized.cells d hd };
            words = λ d q. words d q (ℕ_discrete d c) l;
            low = λ d q hd lq. put_cell W c g d q (λ e. rw e (sym (same q lq))) ∙ f.low d q hd lq;
          }
      go (no m) = rw (set_out W c g (omega arith)) f
