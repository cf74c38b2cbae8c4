-- What is lent for one channel, and its outcomes.
use Rattle.std.specs.Prelude.{◌≡◌, List, ℕ, ◌+◌, ◌*◌, ◌-◌, ◌/◌, ◌^◌, ◌<◌, ◌≤◌, Bool, true, cond, leb, length, get_or, set, take, drop, Result}
use Rattle.std.proofs.Common.{ap, sym, subst, ◌∙◌, arith, length-set, length-drop, drop_of_length-le, drop-cons, length-take-le}
use Rattle.std.proofs.Math.Numerals.{add-one}
use borrow.Author.Tests.{le-leb, lt-leb, eq-eqb}
use Rattle.std.proofs.Math.Pow.{pow_pos}
use Rattle.laws.specs.laws.Lists.{tail_all}
use Rattle.refusal.specs.declared.Refusal.TheVariants.{SymbolsEnd, Count}
use Rattle.refusal.specs.declared.Refusal.{Refusal}
use Rattle.coeff_walk.specs.Walk.{Walked, done, stopped, walk}
use Rattle.order_natural.specs.Places.{paired}
use Rattle.coeff_walk.specs.Places.{cells_of}
use Rattle.coeff_walk.specs.Item.{Item, predicted, count_index, count_cluster, coeff_map_of, counted}
use Rattle.coeff_walk.proofs.laws.Counts.{part_entry}
use Rattle.coeff_walk.specs.laws.Outcome.{WalkShown}
use Rattle.coeff_walk.proofs.laws.Outcome.{walk_used}
use Rattle.coeff_walk.specs.laws.Lent.{lent_fits, places_read}
use Rattle.order_natural.proofs.laws.Flat.{paired_drop}
use Rattle.coeff_walk.specs.declared.spot.Spot.{Spot}
use Rattle.coeff_walk.specs.declared.shape.Shape.{Shape}
use Rattle.coeff_walk.specs.laws.Items.{item_at, ItemReady, spot_of}

-- outcomes by what is read first
module _ (shift clusters : ℕ) (preset_map : List ℕ) (it : Item) (row symbols : List ℕ) (at : ℕ) (log g : List ℕ) where
  abbrev logged : List ℕ
  logged = set log at (count_cluster clusters preset_map it row)

  pub counted_15 : length symbols ≤ at → counted shift clusters preset_map it row (drop at symbols) at log g ≡ stopped SymbolsEnd at log g
  unfolding counted
  counted_15 h = rw (drop_of_length-le symbols h)

  module _ (h : at < length symbols) where
    counted_reads :
        counted shift clusters preset_map it row (drop at symbols) at log g
        ≡ cond (leb (get_or symbols at 0) (63 * it.blocks))
        (walk shift it.blocks (coeff_map_of clusters preset_map it) it.cells 0 (cond (leb (get_or symbols at 0) (4 * it.blocks)) 1 0) (get_or symbols at 0) (drop (at + 1) symbols) (at + 1) logged g)
        (stopped Count (at + 1) logged g)
    unfolding counted
    counted_reads = rw (drop-cons symbols at 0 h, add-one at)

    pub counted_16 : 63 * it.blocks < get_or symbols at 0 → counted shift clusters preset_map it row (drop at symbols) at log g ≡ stopped Count (at + 1) logged g
    counted_16 l = counted_reads ∙ rw (lt-leb (get_or symbols at 0) (63 * it.blocks) l)

    pub counted_none : get_or symbols at 0 ≡ 0 → counted shift clusters preset_map it row (drop at symbols) at log g ≡ done (drop (at + 1) symbols) (at + 1) logged g
    counted_none e =
        let n = get_or symbols at 0 in
        counted_reads ∙ rw (le-leb n (63 * it.blocks) (omega (arith, e)))
        (walk_used shift it.blocks (coeff_map_of clusters preset_map it) it.cells symbols 0 (cond (leb n (4 * it.blocks)) 1 0) n (at + 1) logged g e)

-- one channel of a varblock, as the code takes it apart: low places are left out, the coefficients' entries run from begin to end
module _ (v : Shape) (bw block_context clusters : ℕ) (preset_map list row symbols : List ℕ) (at shift : ℕ) (log g : List ℕ) (low begin end next n : ℕ) (first_prev : Bool) where
  abbrev it : Item
  it = item_at v bw block_context list

  abbrev rest : List ℕ
  rest = take (length list - low) (drop low list)

  abbrev coeff_map : List ℕ
  coeff_map = take (end - begin) (drop begin preset_map)

  module _ (ready : ItemReady v bw block_context clusters (length preset_map) (length list) at shift (length log)) (e : low ≡ 2 * 2 ^ v.exponent)
      (b : begin ≡ block_context * 458 + 37 * clusters) (f : end ≡ begin + 458) (es : next ≡ at + 1) where
    rest_places : cells_of v.turn (8 * bw) (8 * v.x) (8 * v.y) (paired rest) ≡ it.cells
    rest_places =
        let f : paired rest ≡ drop (2 ^ v.exponent) (paired list) = ap paired (tail_all list low) ∙ rw e (paired_drop (2 ^ v.exponent) list) in
        rw f

    rest_length : length rest / 2 ≡ 63 * 2 ^ v.exponent
    rest_length = let h = ready.long in rw (tail_all list low, length-drop low list) (omega arith)

    part_is : coeff_map ≡ coeff_map_of clusters preset_map it
    part_is = let z : end - begin ≡ 458 = omega arith in rw (z, b)

    part_length : length coeff_map ≡ 458
    part_length =
        let l = ready.entries in
        let z : end - begin ≡ 458 = omega arith in
        rw z (length-take-le 458 (drop begin preset_map) (rw (length-drop begin preset_map) (omega (arith, part_entry block_context clusters ready.context))))

    rest_fits : lent_fits (spot_of v bw) (length rest) next (length coeff_map) shift (length log) ≡ true
    unfolding lent_fits
    rest_fits =
        let o = rest_length in
        let p = ready.room in
        let q = pow_pos v.exponent in
        let x = ready.in_x in let y = ready.in_y in let w = ready.narrow in
        rw (
          le-leb (8 * bw) 256 (omega arith),
          le-leb (8 * v.x) 256 (omega arith),
          le-leb (8 * v.y) 256 (omega arith),
          le-leb v.exponent 10 ready.exponent,
          le-leb shift 3 ready.shifts,
          le-leb (length rest / 2) (63 * 2 ^ v.exponent) (omega arith),
          eq-eqb (length coeff_map) 458 part_length,
          le-leb next (length log) (omega arith),
          le-leb (length rest / 2) (length log - next) (omega arith),
        )

    -- behind the count, whose cluster is k, the walk over the rest is the channel's
    pub channel_goes : at < length symbols → n ≡ get_or symbols at 0 → first_prev ≡ leb n (4 * 2 ^ v.exponent)
        → (k : ℕ) → k ≡ get_or preset_map (block_context + count_index (predicted row v.x v.y) * clusters) 0 → (spot : Spot) → spot ≡ spot_of v bw
        → places_read spot rest symbols next n first_prev coeff_map shift (set log at k) g ≡ counted shift clusters preset_map it row (drop at symbols) at log g
    channel_goes h en ef k ek spot ep =
        rw (ep, length-set log at k, rest_fits, rest_places, part_is, ef, es, ek, en) (sym (counted_reads shift clusters preset_map it row symbols at log g h))

pub handed_by : (r : Result ℕ Refusal) (log g : List ℕ) (w v : Walked) → WalkShown r log g w → w ≡ v → WalkShown r log g v
handed_by r log g w v h e = subst (λ (x : Walked). WalkShown r log g x) e h
