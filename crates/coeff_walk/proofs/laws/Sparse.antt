-- The walk that skips zeros in runs, as its loop uses it: where it stands, one turn, and how it ends.
use Rattle.std.specs.Prelude.{◌≡◌, refl, List, ℕ, ◌+◌, ◌*◌, ◌-◌, ◌/◌, ◌^◌, ◌<◌, ◌≤◌, length, get_or, set, take, drop, Ok, Err}
use Rattle.std.proofs.Common.{sym, ◌∙◌, arith, length-set}
use Rattle.coeff_context.specs.Context.{coeff_context, NUM_NONZERO}
use Rattle.coeff_context.proofs.laws.Contexts.{entry_at, context_fits}
use Rattle.coeff_walk.specs.Walk.{Walked, walk, gain}
use Rattle.refusal.specs.declared.Refusal.TheVariants.{SymbolsEnd, CountRemaining}
use Rattle.coeff_walk.specs.declared.spot.Spot.{Spot}
use Rattle.coeff_walk.specs.laws.Outcome.{spot_cells, WalkReady, WalkShown}
use Rattle.coeff_walk.proofs.laws.Outcome.{walk_used, walk_24, walk_15, walk_zero, walk_more, ends}
use Rattle.coeff_walk.proofs.laws.Kept.{length_gain}
use Rattle.coeff_walk.proofs.laws.PlaceLaws.{places_count}
use Rattle.coeff_walk.specs.laws.Runs.{Zeros, ZerosReady}
use Rattle.coeff_walk.proofs.laws.Runs.{entries_lent, entries_room}
use Rattle.coeff_walk.specs.laws.Sparse.{Sparse, Turn}

module _ {spot : Spot} {list symbols : List ℕ} {at : ℕ} {coeff_map : List ℕ} {shift : ℕ} {log₀ grid₀ : List ℕ} where
  pub sparse_start : {count first_prev : ℕ} → WalkReady spot list at count first_prev (length coeff_map) shift (length log₀) → count ≤ 32 * 2 ^ spot.exponent
      → (stop : ℕ) → stop ≤ length list / 2 → stop ≤ length symbols - at → (stop < length list / 2 → stop ≡ length symbols - at)
      → Sparse spot list symbols at coeff_map shift log₀ grid₀ (walk shift (2 ^ spot.exponent) coeff_map (spot_cells spot list) 0 first_prev count (drop at symbols) at log₀ grid₀) stop log₀ grid₀ count first_prev 0
  sparse_start r d stop p q l =
      let z : at + 0 ≡ at = omega arith in
      record { below = omega arith; due = d; flagged = r.flagged; log_long = refl; grid_long = refl; places = p; lent = q; last = l; same = rw z }

  module _ {whole : Walked} {stop : ℕ} {log grid : List ℕ} {left prev k : ℕ} (s : Sparse spot list symbols at coeff_map shift log₀ grid₀ whole stop log grid left prev k) where
    pub sparse_used : left ≡ 0 → WalkShown (Ok (at + k)) log grid whole
    sparse_used e = ends _ _ _ (walk_used shift (2 ^ spot.exponent) coeff_map (spot_cells spot list) symbols k prev left (at + k) log grid e) s.same

    pub sparse_24 : length list / 2 ≤ k → (left ≡ 0 → ⊥) → WalkShown (Err (CountRemaining (at + k))) log grid whole
    sparse_24 h n =
        ends _ _ _ (walk_24 shift (2 ^ spot.exponent) coeff_map (spot_cells spot list) symbols k prev left (at + k) log grid (omega (arith, h, places_count spot.turn spot.width spot.x spot.y list)) (omega (arith, n))) s.same

    module _ {count first_prev : ℕ} (r : WalkReady spot list at count first_prev (length coeff_map) shift (length log₀)) where
      pub sparse_15 : stop ≤ k → k < length list / 2 → (left ≡ 0 → ⊥) → WalkShown (Err (SymbolsEnd (at + k))) log grid whole
      sparse_15 e h n =
          let b = s.below in
          let d = s.due in
          let f = r.fits in
          let l = s.last (omega (arith, h, b)) in
          ends _ _ _ (walk_15 shift (2 ^ spot.exponent) coeff_map (spot_cells spot list) symbols k prev left (at + k) log grid (omega (arith, h, places_count spot.turn spot.width spot.x spot.y list)) (omega (arith, n)) (context_fits (2 ^ spot.exponent) (left - 1) k prev (omega (arith, d, n)) (omega (arith, h, f)) s.flagged) (omega (arith, l, e))) s.same

      pub turn : k < stop → (left ≡ 0 → ⊥) → Turn spot list symbols at (length coeff_map) (length log) left prev k
      turn h n =
          let d = s.due in
          let p = s.places in
          let q = s.lent in
          let f = r.fits in
          let b : left - 1 < 32 * 2 ^ spot.exponent = omega (arith, d, n) in
          let g : k < 63 * 2 ^ spot.exponent = omega (arith, h, p, f) in
          record {
            due = omega (arith, n);
            counted = b;
            counts = omega (arith, b);
            placed = omega (arith, h, p);
            place = omega (arith, h, p, places_count spot.turn spot.width spot.x spot.y list);
            few = g;
            symbol = omega (arith, h, q);
            room = omega (arith, h, p, r.room, s.log_long);
            context = context_fits (2 ^ spot.exponent) (left - 1) k prev b g s.flagged;
            entry = omega (arith, entry_at (2 ^ spot.exponent) (left - 1) b, r.entries);
          }

      module _ (t : Turn spot list symbols at (length coeff_map) (length log) left prev k) {context : ℕ} (e : context ≡ coeff_context (2 ^ spot.exponent) (left - 1) k prev) where
        -- the zeros behind a zero
        pub zeros_ready : {x : ℕ} → x ≡ 2 * get_or NUM_NONZERO ((left - 1) / 2 ^ spot.exponent) 0 → k < stop
            → ZerosReady spot.exponent (length symbols) at (k + 1) stop (length (take (length coeff_map - x) (drop x coeff_map))) (length (set log (at + k) (get_or coeff_map context 0)))
        zeros_ready {x} i h =
            record {
              small = r.exponent;
              begins = omega (arith, h);
              places = omega (arith, s.places, r.fits);
              lent = omega (arith, h, s.lent);
              room = omega (arith, s.places, r.room, s.log_long, length-set log (at + k) (get_or coeff_map context 0));
              enough = entries_room spot.exponent coeff_map left x i t.counted r.entries;
            }

        pub zero_again : {x next : ℕ} {log' : List ℕ} → x ≡ 2 * get_or NUM_NONZERO ((left - 1) / 2 ^ spot.exponent) 0 → get_or symbols (at + k) 0 ≡ 0
            → Zeros spot.exponent (take (length coeff_map - x) (drop x coeff_map)) symbols at (k + 1) stop (set log (at + k) (get_or coeff_map context 0)) next log'
            → Sparse spot list symbols at coeff_map shift log₀ grid₀ whole stop log' grid left 0 next
        zero_again {x} {next} {log'} i u z =
            let a : at + (k + 1) ≡ at + k + 1 = omega arith in
            record {
              below = z.upper;
              due = s.due;
              flagged = omega arith;
              log_long = z.long ∙ length-set log (at + k) (get_or coeff_map context 0) ∙ s.log_long;
              grid_long = s.grid_long;
              places = s.places;
              lent = s.lent;
              last = s.last;
              same = rw (a, e) at (z.skipped shift coeff_map (spot_cells spot list) left grid t.due s.due (entries_lent spot.exponent coeff_map left x i) (omega (arith, s.places, places_count spot.turn spot.width spot.x spot.y list)))
                  ∙ sym (walk_zero shift (2 ^ spot.exponent) coeff_map (spot_cells spot list) symbols k prev left (at + k) log grid t.place t.due t.context t.symbol u) ∙ s.same;
            }

        pub more_again : {grid' : List ℕ} → k < stop → (get_or symbols (at + k) 0 ≡ 0 → ⊥) → grid' ≡ gain shift grid (get_or (spot_cells spot list) k 0) (get_or symbols (at + k) 0)
            → Sparse spot list symbols at coeff_map shift log₀ grid₀ whole stop (set log (at + k) (get_or coeff_map context 0)) grid' (left - 1) 1 (k + 1)
        more_again {grid'} h u g =
            let a : at + (k + 1) ≡ at + k + 1 = omega arith in
            record {
              below = omega (arith, h);
              due = omega (arith, t.counted);
              flagged = omega arith;
              log_long = length-set log (at + k) (get_or coeff_map context 0) ∙ s.log_long;
              grid_long = rw g (length_gain shift grid (get_or (spot_cells spot list) k 0) (get_or symbols (at + k) 0) ∙ s.grid_long);
              places = s.places;
              lent = s.lent;
              last = s.last;
              same = rw (a, e, g) (sym (walk_more shift (2 ^ spot.exponent) coeff_map (spot_cells spot list) symbols k prev left (at + k) log grid t.place t.due t.context t.symbol u) ∙ s.same);
            }
