-- Demand 3 (document 00): one symbol sequence and only one, over the coefficient call. Filling has the words of the statements.
use Rattle.std.specs.Prelude.{◌≡◌, refl, ◌↔◌, List, [], ◌∷◌, ℕ}
use Rattle.std.proofs.Common.{arith}
use Rattle.layout.specs.Grid.{block_at}
use Rattle.layout.specs.Listed.{Among, first, later}
use Rattle.layout.specs.laws.Corners.{Apart}
use Rattle.layout.proofs.laws.Corners.{corners_apart}
use Rattle.layout.proofs.laws.Rectangles.{right, bottom, covers}
use Rattle.layout.proofs.laws.Theorems.{disjoint, layout_area}
use Rattle.layout.specs.Varblocks.{Varblock}
use Rattle.coeff_group.specs.Group.{PerChannel, zero_rows}
use Rattle.coeff_group.specs.PassGroup.{varblocks, items_of}
use Rattle.coeff_group.specs.Work.{clusters_of}
use Rattle.coeff_call.specs.Call.{Lent, preset_map}
use Rattle.one_to_one.specs.Filling.{Disjoint, Fixed, Filling, Fills, Fails}
use Rattle.one_to_one.proofs.laws.OneToOne as over_laws
use Rattle.one_to_one.proofs.laws.OneToOne.{sequence_words}
use Rattle.one_to_one.proofs.laws.OverCall.{fillable, same, fills_not, not_fills}
use Rattle.coeff_walk.specs.Sent.{Words}
use Rattle.coeff_group.specs.Sequence.{the_sequence}
use Rattle.one_to_one.specs.laws.Demand3.{Areas}

module _ (L : Lent) (fixed : Fixed L) where
  module _ (W : PerChannel) (filling : Filling L W) where
    -- these 32-bit symbols fill the cells so, and no other symbols do
    pub one_sequence : Words (the_sequence L.pass_group L.grids W) × ((s : List ℕ) → Words s → Fills L s W ↔ (s ≡ the_sequence L.pass_group L.grids W))
    unfolding the_sequence
    one_sequence =
        let P = L.pass_group in
        let items = items_of P (varblocks P) in
        let G = fillable L fixed W filling in (
          sequence_words items L.grids W G.few,
          λ s h.
              let o = over_laws.one_to_one (clusters_of P) (preset_map L fixed.rest.preset) items L.grids W G L.log zero_rows s h in
              let f = same L fixed W filling s in
              ((λ x. o.0 (f.0 x)), (λ x. f.1 (o.1 x))),
        )

    -- every other sequence fails, and that one does not
    pub every_other : (s : List ℕ) → Words s → Fails L s W ↔ (s ≡ the_sequence L.pass_group L.grids W → ⊥)
    every_other s h =
        let o = one_sequence.1 s h in
        ((λ f e. fills_not L s W (o.1 e) f), (λ n. not_fills L s W (λ f. n (o.0 f))))

  none_shared : (vs : List Varblock) → ((v : Varblock) → Among v vs → Among v (varblocks L.pass_group)) → Apart vs → Disjoint vs
  none_shared [] f a = tt
  none_shared (v ∷ vs) f a = (
    (λ u i x y p q.
        let j = f v (first refl) in let k = f u (later i) in
        let b = p.to_x in let c = right fixed.layout v j in let d = p.to_y in let e = bottom fixed.layout v j in
        let o = disjoint L.pass_group.bw L.pass_group.bh L.pass_group.kinds L.pass_group.hf_mul fixed.layout u.x u.y v.x v.y x y (omega arith) (omega arith)
        (covers fixed.layout u k x y q.from_x q.to_x q.from_y q.to_y) (covers fixed.layout v j x y p.from_x p.to_x p.from_y p.to_y) in
        a.0 u i o.0 o.1),
    none_shared vs (λ u j. f u (later j)) a.1,
  )

  -- the varblocks are disjoint
  pub apart : Disjoint (varblocks L.pass_group)
  apart = none_shared (varblocks L.pass_group) (λ v i. i) (corners_apart (block_at L.pass_group.kinds L.pass_group.bw) (block_at L.pass_group.hf_mul L.pass_group.bw) L.pass_group.bw L.pass_group.bh)

  -- their areas sum to the group's blocks
  pub areas : Areas L fixed
  areas = layout_area L.pass_group.bw L.pass_group.bh L.pass_group.kinds L.pass_group.hf_mul fixed.layout
