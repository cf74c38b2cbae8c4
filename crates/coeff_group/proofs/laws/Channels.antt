-- The channels of a varblock in turn.
use Rattle.std.specs.Prelude.{◌≡◌, ℕ, zero, suc, ◌+◌, ◌*◌, ◌^◌, ◌-◌, ◌<◌, ◌≤◌, length, set, drop, Ok, Err}
use Rattle.std.proofs.Math.Path.{refl, ap, subst}
use Rattle.std.proofs.Common.{sym, ◌∙◌, arith}
use mathlib.Core.List.{List, ◌∷◌}
use Rattle.lent_check.specs.declared.GroupSides.{GroupSides}
use Rattle.refusal.specs.declared.Refusal.{Refusal}
use Rattle.coeff_walk.proofs.laws.Used.{not_done, ended_at}
use Rattle.coeff_walk.specs.Item.{Item}
use Rattle.coeff_group.specs.Group.{PerChannel, Reading, going, refused, read_item, read_items}
use Rattle.coeff_group.proofs.laws.GroupLaws.{read_refused}
use Rattle.coeff_group.specs.laws.Steps.{row_by, Shown}
use Rattle.coeff_group.specs.laws.Plans.{item_by, items_by, channel_walked}
use Rattle.coeff_group.specs.laws.Rewritten.{three, rewritten}
use Rattle.coeff_group.proofs.laws.Rewritten.{row_kept, row_joins}
use Rattle.coeff_group.specs.laws.Channel.{ChannelShown}
use Rattle.coeff_group.specs.declared.plan.Plan.{Plan}

module _ (symbols : List ℕ) where
  -- what is known of a reading that goes on
  pub record On (most at : ℕ) (rows : PerChannel) (log : List ℕ) (G : PerChannel) (R : Reading) : Type 0 where
    pub is : R ≡ going (drop at symbols) at log G rows
    pub few : at ≤ most

  pub shown_on : (most at : ℕ) (rows : PerChannel) (log : List ℕ) (G : PerChannel) (R : Reading) → Shown symbols most (Ok at) rows log G R → On most at rows log G R
  shown_on most at rows log G (going us at' log' G' rows') s =
      let q : at ≡ at' = ended_at at at' (sym s.it.answer) in
      record {
        is = rw (q, s.it.rest, s.it.counts, s.it.logged, s.it.cells);
        few = rw q s.it.few;
      }
  shown_on most at rows log G (refused why at' log' G') s = absurd (not_done (why at') at (sym s.it.answer))

  -- of one that stopped no rows are told
  pub shown_stopped : (most : ℕ) (why : Refusal) (rows rows₁ : PerChannel) (log : List ℕ) (G : PerChannel) (R : Reading) → Shown symbols most (Err why) rows log G R → Shown symbols most (Err why) rows₁ log G R
  shown_stopped most why rows rows₁ log G (going us at log' G' rows') s = absurd (not_done why at s.it.answer)
  shown_stopped most why rows rows₁ log G (refused why' at log' G') s = record { it = s.it }

  -- a reading that stopped stays so
  shown_stop : (shift clusters : ℕ) (preset_map : List ℕ) (its : List Item) (most more : ℕ) (why : Refusal) (rows rows₁ : PerChannel) (log : List ℕ) (G : PerChannel) (R : Reading)
      → Shown symbols most (Err why) rows log G R → Shown symbols more (Err why) rows₁ log G (read_items shift clusters preset_map its R)
  shown_stop shift clusters preset_map its most more why rows rows₁ log G (going us at log' G' rows') s = absurd (not_done why at s.it.answer)
  shown_stop shift clusters preset_map its most more why rows rows₁ log G (refused why' at log' G') s = rw (read_refused shift clusters preset_map its why' at log' G') (record { it = s.it })

module _ (p : Plan) (group : GroupSides) (clusters : ℕ) (preset_map store symbols : List ℕ) (at₀ shift : ℕ) (whole : Reading) where
  abbrev K : ℕ
  K = 2 ^ p.shape.exponent

  abbrev items : List Item
  items = items_by p group store

  -- what is still due: the channels from the n-th walked on, from where the reading stands, give the whole
  pub record ChannelsDue (n at : ℕ) (rows : PerChannel) (log : List ℕ) (G : PerChannel) : Type 0 where
    pub due : read_items shift clusters preset_map (drop n items) (going (drop at symbols) at log G rows) ≡ whole
    pub few : at + 64 * K * (3 - n) ≤ at₀ + 192 * K

  next_item : (n : ℕ) → n < 3 → drop n items ≡ item_by p group store n (channel_walked n) ∷ drop (n + 1) items
  next_item zero h = refl
  next_item (suc zero) h = refl
  next_item (suc (suc zero)) h = refl
  next_item (suc (suc (suc n))) h = absurd (omega arith)

  next_room : (n k : ℕ) → n < 3 → 64 * k * (3 - n) ≡ 64 * k + 64 * k * (3 - (n + 1))
  next_room zero k h = omega arith
  next_room (suc zero) k h = omega arith
  next_room (suc (suc zero)) k h = omega arith
  next_room (suc (suc (suc n))) k h = absurd (omega arith)

  -- all that is left is nothing
  pub channels_end : (n at : ℕ) (counts : List ℕ) (rows₀ : PerChannel) (log : List ℕ) (G : PerChannel) → ChannelsDue n at (rewritten p counts rows₀ n) log G → n ≡ 3
      → Shown symbols (at₀ + 192 * K) (Ok at) (rewritten p counts rows₀ 3) log G whole
  unfolding read_items
  channels_end n at counts rows₀ log G d e =
      let l = subst (λ (k : ℕ). ChannelsDue k at (rewritten p counts rows₀ k) log G) e d in
      let m = l.few in
      subst (Shown symbols (at₀ + 192 * K) (Ok at) (rewritten p counts rows₀ 3) log G) l.due (record { it = record { answer = refl; rest = refl; few = omega arith; counts = refl; logged = refl; cells = refl } })

  module _ (n at : ℕ) (counts : List ℕ) (rows₀ : PerChannel) (log : List ℕ) (G : PerChannel) (d : ChannelsDue n at (rewritten p counts rows₀ n) log G) (hn : n < 3) where
    -- the log has room for one more
    pub channels_room : (room : ℕ) → at₀ + 192 * K ≤ room → at + 64 * K ≤ room
    channels_room room h = let m = d.few in omega (arith, next_room n K hn)

    -- the rows as the definition has them by now; the code's are rewritten behind the varblock
    abbrev rows : PerChannel
    rows = rewritten p counts rows₀ n

    abbrev before : Reading
    before = going (drop at symbols) at log G rows

    abbrev stepped : Reading
    stepped = read_item shift clusters preset_map (item_by p group store n (channel_walked n)) before

    due_now : read_items shift clusters preset_map (drop (n + 1) items) stepped ≡ whole
    unfolding read_items
    due_now = ap (λ (l : List Item). read_items shift clusters preset_map l before) (sym (next_item n hn)) ∙ d.due

    -- the reading stopped in this channel
    pub channels_stop : (why : Refusal) (log₁ : List ℕ) (G₁ : PerChannel) → ChannelShown p group clusters preset_map store symbols at shift rows₀ log G n (Err why) log₁ G₁ → (most : ℕ) (rows₁ : PerChannel) → Shown symbols most (Err why) rows₁ log₁ G₁ whole
    channels_stop why log₁ G₁ t most rows₁ =
        subst (Shown symbols most (Err why) rows₁ log₁ G₁) due_now
        (shown_stop symbols shift clusters preset_map (drop (n + 1) items) (at + 64 * K) most why (row_by rows (channel_walked n) p.shape.x p.shape.wide 0) rows₁ log₁ G₁ stepped (t.shown rows (row_kept p counts rows₀ n hn)))

    -- the channel was read, and its count stands among the counts
    pub channels_go : (at₁ count : ℕ) (log₁ : List ℕ) (G₁ : PerChannel) → ChannelShown p group clusters preset_map store symbols at shift rows₀ log G n (Ok (at₁, count)) log₁ G₁
        → (c : ℕ) (counts₁ : List ℕ) → length counts ≡ 3 → c ≡ channel_walked n → counts₁ ≡ set counts c count
        → ChannelsDue (n + 1) at₁ (rewritten p counts₁ rows₀ (n + 1)) log₁ G₁
    channels_go at₁ count log₁ G₁ t c counts₁ three ec er =
        let j : rewritten p counts₁ rows₀ (n + 1) ≡ row_by rows (channel_walked n) p.shape.x p.shape.wide count = rw (er, ec) (row_joins p counts rows₀ n count hn three) in
        let o = shown_on symbols (at + 64 * K) at₁ (row_by rows (channel_walked n) p.shape.x p.shape.wide count) log₁ G₁ stepped (t.shown rows (row_kept p counts rows₀ n hn)) in
        let m = d.few in
        let f = o.few in
        let s = next_room n K hn in
        rw j (record {
          due = ap (read_items shift clusters preset_map (drop (n + 1) items)) (sym o.is) ∙ due_now;
          few = omega arith;
        })

-- before the first channel
pub channels_start : (p : Plan) (group : GroupSides) (clusters : ℕ) (preset_map store symbols : List ℕ) (at₀ shift : ℕ) (rows : PerChannel) (log : List ℕ) (G : PerChannel)
    → ChannelsDue p group clusters preset_map store symbols at₀ shift (read_items shift clusters preset_map (items_by p group store) (going (drop at₀ symbols) at₀ log G (three rows))) 0 at₀ (three rows) log G
channels_start p group clusters preset_map store symbols at₀ shift rows log G = record { due = refl; few = omega arith }
