-- A varblock as it is lent: what fits, and its reading.
use Rattle.std.specs.Prelude.{◌≡◌, Bool, true, false, cond, ◌&&◌, List, ltb, eqb, length, drop, Err}
use Rattle.std.proofs.Math.Path.{refl, ap, sym}
use Rattle.std.proofs.Common.{◌∙◌, arith}
use Prim.Native.Nat.{ℕ, zero, suc, ◌+◌, ◌*◌, ◌-◌, ◌^◌, ◌<◌, ◌≤◌}
use borrow.Author.Tests.{ltb-true, leb-true, eqb-true, lt-ltb, le-leb, eq-eqb}
use Rattle.std.proofs.Math.ListN.{get_or}
use Rattle.std.proofs.Math.Pow.{pow_pos}
use Rattle.laws.specs.laws.Cases.{and-true}
use Rattle.refusal.specs.declared.Refusal.TheVariants.{Length}
use Rattle.order_sizes.specs.BlockSizes.{width_of, height_of}
use Rattle.lent_check.specs.declared.GroupSides.{GroupSides}
use Rattle.order_store.specs.declared.Stretch.{Stretch}
use Rattle.order_store.specs.Store.{PLACES, first_of}
use Rattle.order_store.specs.LookedUp.{stretch_from, stretch_at}
use Rattle.coeff_walk.proofs.laws.Used.{not_done}
use Rattle.coeff_group.specs.declared.plan.Plan.{Plan}
use Rattle.coeff_group.specs.Group.{PerChannel, Reading, going, read_items}
use Rattle.coeff_group.specs.laws.Rewritten.{three, VarblockShown}
use Rattle.coeff_group.proofs.laws.Stored.{stretch_long, lists_are}
use Rattle.coeff_group.specs.laws.Plans.{items_by, Planned}
use Rattle.coeff_group.specs.laws.Lent.{varblock_small, varblock_fits, planned_read, VarblockLimits}

-- a list that is not empty is there
found : (numbers o m : ℕ) → 0 < m → (stretch_at numbers o 0).len ≡ m → (o < 13) × (numbers ≡ 2 * PLACES) × (2 * (width_of o * height_of o) ≡ m)
unfolding stretch_at
found numbers o m h = go (ltb o 13) refl (eqb numbers (2 * PLACES)) refl
  where
    go : (b : Bool) → ltb o 13 ≡ b → (d : Bool) → eqb numbers (2 * PLACES) ≡ d
        → (cond (b && (ltb 0 3 && d)) (stretch_from (first_of (3 * o + 0)) (2 * (width_of o * height_of o))) (stretch_from 0 0)).len ≡ m
        → (o < 13) × (numbers ≡ 2 * PLACES) × (2 * (width_of o * height_of o) ≡ m)
    go true a true b e = (ltb-true o 13 a, eqb-true numbers (2 * PLACES) b, e)
    go true a false b e = absurd (omega arith)
    go false a d b e = absurd (omega arith)

pub small_limits : (p : Plan) (group : GroupSides) (clusters shift : ℕ) → varblock_small p group clusters shift ≡ true → VarblockLimits p group clusters shift
small_limits p group clusters shift e =
    let i = and-true _ _ e in
    let h = and-true _ _ i.0 in
    let g = and-true _ _ h.0 in
    let f = and-true _ _ g.0 in
    let d = and-true _ _ f.0 in
    let c = and-true _ _ d.0 in
    let b = and-true _ _ c.0 in
    let a = and-true _ _ b.0 in
    let z = and-true _ _ a.0 in
    record {
      in_x = ltb-true p.shape.x 32 z.0;
      in_y = ltb-true p.shape.y 32 z.1;
      some = leb-true 1 p.shape.wide a.1;
      exponent = leb-true p.shape.exponent 10 b.1;
      narrow = leb-true group.bw 32 c.1;
      first = ltb-true (get_or p.block_contexts 0 0) clusters d.1;
      second = ltb-true (get_or p.block_contexts 1 0) clusters f.1;
      third = ltb-true (get_or p.block_contexts 2 0) clusters g.1;
      few = leb-true clusters 16 h.1;
      shifts = leb-true shift 3 i.1;
    }

module _ (p : Plan) (group : GroupSides) (clusters : ℕ) (preset_map store : List ℕ) (at shift log : ℕ) where
  pub fits_planned : varblock_fits p group clusters (length preset_map) (stretch_at (length store) p.order 0).len at shift log ≡ true
      → Planned p group clusters preset_map store shift × (at + 192 * 2 ^ p.shape.exponent ≤ log)
  unfolding varblock_fits
  fits_planned e =
      let l = and-true _ _ e in
      let k = and-true _ _ l.1 in
      let j = and-true _ _ k.0 in
      let i = and-true _ _ l.0 in
      let v = small_limits p group clusters shift i.0 in
      let q = leb-true at log i.1 in
      let r = leb-true (192 * 2 ^ p.shape.exponent) (log - at) k.1 in
      let s = found (length store) p.order (128 * 2 ^ p.shape.exponent) (let z = pow_pos p.shape.exponent in omega arith) (eqb-true (stretch_at (length store) p.order 0).len (128 * 2 ^ p.shape.exponent) j.1) in (
        record {
          in_x = v.in_x;
          in_y = v.in_y;
          some = v.some;
          exponent = v.exponent;
          narrow = v.narrow;
          context = each v.first v.second v.third;
          few = v.few;
          entries = eqb-true (length preset_map) (495 * clusters) j.0;
          listed = s.0;
          whole = s.1;
          long = λ c t. stretch_long store s.1 p.order c s.0 t ∙ s.2;
          shifts = v.shifts;
        },
        omega (arith, q, r),
      )
    where
      each : get_or p.block_contexts 0 0 < clusters → get_or p.block_contexts 1 0 < clusters → get_or p.block_contexts 2 0 < clusters → (n : ℕ) → n < 3 → get_or p.block_contexts n 0 < clusters
      each a b c zero h = a
      each a b c (suc zero) h = b
      each a b c (suc (suc zero)) h = c
      each a b c (suc (suc (suc n))) h = absurd (omega arith)

  planned_fits : Planned p group clusters preset_map store shift → at + 192 * 2 ^ p.shape.exponent ≤ log
      → varblock_fits p group clusters (length preset_map) (stretch_at (length store) p.order 0).len at shift log ≡ true
  unfolding varblock_fits
  planned_fits r m =
      let l = lists_are store r.whole p.order r.listed (stretch_at (length store) p.order 0) refl in
      let n : (stretch_at (length store) p.order 0).len ≡ 128 * 2 ^ p.shape.exponent = ap (λ (s : Stretch). s.len) l ∙ sym (stretch_long store r.whole p.order 0 r.listed (omega arith)) ∙ r.long 0 (omega arith) in
      rw (
        lt-ltb p.shape.x 32 r.in_x,
        lt-ltb p.shape.y 32 r.in_y,
        le-leb 1 p.shape.wide r.some,
        le-leb p.shape.exponent 10 r.exponent,
        le-leb group.bw 32 r.narrow,
        lt-ltb (get_or p.block_contexts 0 0) clusters (r.context 0 (omega arith)),
        lt-ltb (get_or p.block_contexts 1 0) clusters (r.context 1 (omega arith)),
        lt-ltb (get_or p.block_contexts 2 0) clusters (r.context 2 (omega arith)),
        le-leb clusters 16 r.few,
        le-leb shift 3 r.shifts,
        le-leb at log (omega arith),
        eq-eqb (length preset_map) (495 * clusters) r.entries,
        eq-eqb (stretch_at (length store) p.order 0).len (128 * 2 ^ p.shape.exponent) n,
        le-leb (192 * 2 ^ p.shape.exponent) (log - at) (omega arith),
      )

-- the outcomes
module _ (p : Plan) (group : GroupSides) (clusters : ℕ) (preset_map store : List ℕ) (rows : PerChannel) (symbols : List ℕ) (at shift : ℕ) (log : List ℕ) (G : PerChannel) where
  abbrev fitting : Bool
  fitting = varblock_fits p group clusters (length preset_map) (stretch_at (length store) p.order 0).len at shift (length log)

  abbrev whole : Reading
  whole = read_items shift clusters preset_map (items_by p group store) (going (drop at symbols) at log G (three rows))

  pub varblock_refused : fitting ≡ false → VarblockShown p (items_by p group store) symbols at (Err Length) rows log G (planned_read p group clusters preset_map store rows symbols at shift log G)
  varblock_refused e = rw e (record { shown = record { it = record { answer = refl; logged = refl; cells = refl } }; used = λ to f. absurd (not_done Length to f); counted = λ long. refl })

  pub varblock_reads : fitting ≡ true → whole ≡ planned_read p group clusters preset_map store rows symbols at shift log G
  varblock_reads e = rw e

  pub varblock_is : Planned p group clusters preset_map store shift → at + 192 * 2 ^ p.shape.exponent ≤ length log
      → planned_read p group clusters preset_map store rows symbols at shift log G ≡ whole
  varblock_is r m = rw (planned_fits p group clusters preset_map store at shift (length log) r m)
