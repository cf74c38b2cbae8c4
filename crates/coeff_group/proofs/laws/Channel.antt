-- One channel of a varblock, as the code takes it.
use Rattle.std.specs.Prelude.{◌≡◌, refl, List, [], ◌∷◌, ℕ, suc, ◌+◌, ◌*◌, ◌^◌, ◌-◌, ◌<◌, ◌≤◌, length, get_or, set, drop, Result, Ok, Err}
use Rattle.std.proofs.Common.{ap, sym, subst, ◌∙◌, arith, length-drop, drop-cons, drop-drop, pow_pos}
use Rattle.std.proofs.Math.Decide.{dec_lt, dec_le}
use Rattle.refusal.specs.declared.Refusal.{Refusal}
use Rattle.refusal.specs.declared.Refusal.TheVariants.{SymbolsEnd, Count}
use Rattle.lent_check.specs.declared.GroupSides.{GroupSides}
use Rattle.coeff_walk.specs.Walk.{Walked, done, stopped}
use Rattle.coeff_walk.specs.laws.Outcome.{answer_of, log_of, grid_after, AllUseUp}
use Rattle.coeff_walk.specs.Item.{Item, new_row, count_over, count_cluster, counted}
use Rattle.coeff_walk.specs.UsedUp.{Long}
use Rattle.coeff_walk.specs.declared.shape.Shape.{Shape}
use Rattle.order_natural.specs.Places.{paired}
use Rattle.order_natural.proofs.laws.Flat.{length_paired}
use Rattle.coeff_walk.proofs.laws.PlaceLaws.{length_places}
use Rattle.coeff_walk.specs.laws.Items.{item_at, ItemReady}
use Rattle.coeff_walk.proofs.laws.Items.{counted_15, counted_16}
use Rattle.coeff_walk.proofs.laws.Used.{not_done}
use Rattle.coeff_walk.specs.laws.Kept.{KeptBy}
use Rattle.coeff_walk.proofs.laws.Kept.{counted_kept}
use Rattle.coeff_group.specs.Group.{PerChannel, Reading, going, after, read_item}
use Rattle.coeff_group.specs.laws.Steps.{InGrid, row_by, Shown}
use Rattle.coeff_group.specs.laws.Plans.{in_channel, item_by, channel_walked, Planned}
use Rattle.coeff_group.specs.declared.plan.Plan.{Plan}
use Rattle.order_store.specs.Store.{stretch}
use Rattle.coeff_group.specs.laws.Channel.{ChannelShown}

-- the channel's number decides nothing in its reading
counted_in : (shift clusters : ℕ) (preset_map : List ℕ) (c : ℕ) (it : Item) (row us : List ℕ) (at : ℕ) (log g : List ℕ)
    → counted shift clusters preset_map (in_channel c it) row us at log g ≡ counted shift clusters preset_map it row us at log g
unfolding counted
counted_in shift clusters preset_map c it row [] at log g = refl
counted_in shift clusters preset_map c it row (n ∷ us) at log g = refl

-- nor in what it promises
used_in : (c : ℕ) (it : Item) (symbols : List ℕ) (at : ℕ) (r : Result ℕ Refusal) → AllUseUp (it ∷ []) symbols at r → AllUseUp (in_channel c it ∷ []) symbols at r
used_in c it symbols at r h to e = let q = h to e in record { dss = q.dss; long = same q.dss q.long; are = q.are }
  where
    same : (dss : List (List ℕ)) → Long (it ∷ []) dss → Long (in_channel c it ∷ []) dss
    same [] l = l
    same (ds ∷ []) l = l
    same (ds ∷ es ∷ dss) l = l

module _ (shift clusters : ℕ) (preset_map : List ℕ) (c : ℕ) (it : Item) (row symbols : List ℕ) (at : ℕ) (log : List ℕ) (G : PerChannel) (r : Result ℕ Refusal) (log₁ : List ℕ) (G₁ : PerChannel)
    (got : InGrid c G r log₁ G₁ (λ g. counted shift clusters preset_map it row (drop at symbols) at log g)) where
  abbrev w : Walked
  w = counted shift clusters preset_map it row (drop at symbols) at log (get_or G c [])

  -- the walk ended: the count was read
  read_count : (next : ℕ) → r ≡ Ok next → (at < length symbols) × (get_or symbols at 0 ≤ 63 * it.blocks)
  read_count next e = first (dec_lt at (length symbols))
    where
      never : (why : ℕ → Refusal) (at' : ℕ) (log' g : List ℕ) → w ≡ stopped why at' log' g → ⊥
      never why at' log' g q = not_done (why at') next (sym (got.answer ∙ ap answer_of q) ∙ e)

      small : at < length symbols → Dec (get_or symbols at 0 ≤ 63 * it.blocks) → (at < length symbols) × (get_or symbols at 0 ≤ 63 * it.blocks)
      small h (yes k) = (h, k)
      small h (no k) =
          absurd (never Count (at + 1) (set log at (count_cluster clusters preset_map it row)) (get_or G c [])
          (counted_16 shift clusters preset_map it row symbols at log (get_or G c []) h (omega arith)))

      first : Dec (at < length symbols) → (at < length symbols) × (get_or symbols at 0 ≤ 63 * it.blocks)
      first (yes h) = small h (dec_le (get_or symbols at 0) (63 * it.blocks))
      first (no h) = absurd (never SymbolsEnd at log (get_or G c []) (counted_15 shift clusters preset_map it row symbols at log (get_or G c []) (omega arith)))

  module _ (most : ℕ) (R : PerChannel) (same : get_or R c [] ≡ row) where
    abbrev stepped : Reading
    stepped = read_item shift clusters preset_map (in_channel c it) (going (drop at symbols) at log G R)

    stepped_is : stepped ≡ after c G (set R c (new_row (in_channel c it) row (drop at symbols))) w
    unfolding read_item
    stepped_is = rw (same, counted_in shift clusters preset_map c it row (drop at symbols) at log (get_or G c []))

    -- the walk stopped
    item_stops : (why : Refusal) → r ≡ Err why → (rows₁ : PerChannel) → Shown symbols most r rows₁ log₁ G₁ stepped
    item_stops why₁ e rows₁ = rw stepped_is (go w refl)
      where
        go : (x : Walked) → w ≡ x → Shown symbols most r rows₁ log₁ G₁ (after c G (set R c (new_row (in_channel c it) row (drop at symbols))) x)
        go (done us at' log' g) q = absurd (not_done why₁ at' (sym e ∙ got.answer ∙ ap answer_of q))
        go (stopped why at' log' g) q = record {
          it = record {
            answer = got.answer ∙ ap answer_of q;
            logged = sym (got.logged ∙ ap log_of q);
            cells = sym (got.cells ∙ ap (λ (x : Walked). set G c (grid_after x)) q);
          };
        }

    -- the walk ended: the row is rewritten
    item_goes : (next : ℕ) → r ≡ Ok next → suc (length it.cells) ≤ most - at → at ≤ most
        → Shown symbols most r (row_by R c it.x it.wide (count_over (get_or symbols at 0) it.blocks)) log₁ G₁ stepped
    item_goes next e room start = rw stepped_is (go w refl (counted_kept shift clusters preset_map it row (drop at symbols) at log (get_or G c [])))
      where
        rows_are : set R c (new_row (in_channel c it) row (drop at symbols)) ≡ row_by R c it.x it.wide (count_over (get_or symbols at 0) it.blocks)
        rows_are = rw (drop-cons symbols at 0 (read_count next e).0, same)

        go : (x : Walked) → w ≡ x → KeptBy (suc (length it.cells)) (drop at symbols) at log (get_or G c []) x
            → Shown symbols most r (row_by R c it.x it.wide (count_over (get_or symbols at 0) it.blocks)) log₁ G₁ (after c G (set R c (new_row (in_channel c it) row (drop at symbols))) x)
        go (stopped why at' log' g) q k = absurd (not_done (why at') next (sym (got.answer ∙ ap answer_of q) ∙ e))
        go (done us at' log' g) q k =
            let m = k.most in let f = k.read in
            record {
              it = record {
                answer = got.answer ∙ ap answer_of q;
                rest = k.rest ∙ drop-drop k.k at symbols ∙ ap (λ (j : ℕ). drop j symbols) (sym f);
                few = omega arith;
                counts = rows_are;
                logged = sym (got.logged ∙ ap log_of q);
                cells = sym (got.cells ∙ ap (λ (x : Walked). set G c (grid_after x)) q);
              };
            }

-- an item has 63 places for each block
item_size : (v : Shape) (bw context : ℕ) (order : List ℕ) → length order ≡ 128 * 2 ^ v.exponent → length (item_at v bw context order).cells ≡ 63 * 2 ^ v.exponent
item_size v bw context order h =
    let e = length_paired order in
    length_places v.turn (8 * bw) (8 * v.x) (8 * v.y) (drop (2 ^ v.exponent) (paired order)) ∙ length-drop (2 ^ v.exponent) (paired order) ∙ omega arith

-- channel c, walked n-th, by its list of the order
module _ (p : Plan) (group : GroupSides) (clusters : ℕ) (preset_map store symbols : List ℕ) (shift : ℕ) (planned : Planned p group clusters preset_map store shift) (n at : ℕ) (rows : PerChannel) (log : List ℕ) (G : PerChannel)
    (hn : n < 3) (room : at + 64 * 2 ^ p.shape.exponent ≤ length log) (c : ℕ) (below : c < 3) (ec : c ≡ channel_walked n) (order : List ℕ) (eo : order ≡ stretch store p.order c) where
  abbrev K : ℕ
  K = 2 ^ p.shape.exponent

  long : length order ≡ 128 * K
  long = rw eo (planned.long c below)

  -- what the channel's walk is asked
  pub channel_asks : (c < 3) × ItemReady p.shape group.bw (get_or p.block_contexts n 0) clusters (length preset_map) (length order) at shift (length log)
  channel_asks = (
    below,
    record {
      in_x = planned.in_x;
      in_y = planned.in_y;
      exponent = planned.exponent;
      narrow = planned.narrow;
      context = planned.context n hn;
      few = planned.few;
      entries = planned.entries;
      long = long;
      shifts = planned.shifts;
      room = room;
    },
  )

  abbrev it : Item
  it = item_at p.shape group.bw (get_or p.block_contexts n 0) order

  same_item : in_channel c it ≡ item_by p group store n (channel_walked n)
  same_item = rw (eo, ec)

  module _ (r : Result ℕ Refusal) (log₁ : List ℕ) (G₁ : PerChannel) (got : InGrid c G r log₁ G₁ (λ g. counted shift clusters preset_map it (get_or rows c []) (drop at symbols) at log g)) where
    pub channel_count : (next : ℕ) → r ≡ Ok next → (at < length symbols) × (get_or symbols at 0 ≤ 63 * K)
    channel_count = read_count shift clusters preset_map c it (get_or rows c []) symbols at log G r log₁ G₁ got

    module _ (R : PerChannel) (same : get_or R (channel_walked n) [] ≡ get_or rows (channel_walked n) []) where
      here : get_or R c [] ≡ get_or rows c []
      here = rw ec same

    -- the reading stopped in this channel
    pub channel_stops : AllUseUp (it ∷ []) symbols at r → (why : Refusal) → r ≡ Err why → ChannelShown p group clusters preset_map store symbols at shift rows log G n (Err why) log₁ G₁
    channel_stops used why e = record {
      shown = λ R same. subst (λ (i : Item). Shown symbols (at + 64 * K) (Err why) (row_by R (channel_walked n) p.shape.x p.shape.wide 0) log₁ G₁ (read_item shift clusters preset_map i (going (drop at symbols) at log G R))) same_item
          (rw (← e) (item_stops shift clusters preset_map c it (get_or rows c []) symbols at log G r log₁ G₁ got (at + 64 * K) R (here R same) why e (row_by R (channel_walked n) p.shape.x p.shape.wide 0)));
      used = rw (← e, ← same_item) (used_in c it symbols at r used);
    }

    -- the channel was read
    pub channel_goes : AllUseUp (it ∷ []) symbols at r → (next : ℕ) → r ≡ Ok next → (count : ℕ) → count ≡ count_over (get_or symbols at 0) K → ChannelShown p group clusters preset_map store symbols at shift rows log G n (Ok (next, count)) log₁ G₁
    channel_goes used next e count ev =
        let l = item_size p.shape group.bw (get_or p.block_contexts n 0) order long in
        record {
          shown = λ R same. subst (λ (i : Item). Shown symbols (at + 64 * K) (Ok next) (row_by R (channel_walked n) p.shape.x p.shape.wide count) log₁ G₁ (read_item shift clusters preset_map i (going (drop at symbols) at log G R))) same_item
              (rw (← e, ev, ← ec) (item_goes shift clusters preset_map c it (get_or rows c []) symbols at log G r log₁ G₁ got (at + 64 * K) R (here R same) next e (omega (arith, pow_pos p.shape.exponent)) (omega arith)));
          used = rw (← e, ← same_item) (used_in c it symbols at r used);
        }
