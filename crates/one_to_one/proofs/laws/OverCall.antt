-- From the coefficient call to the reading of the group's items, and from what fills to what fails.
use Rattle.std.specs.Prelude.{◌≡◌, refl, true, ◌↔◌, List, [], ℕ, ◌<◌, ◌≤◌, length, get_or}
use Rattle.std.proofs.Common.{ap, sym, ◌∙◌, arith, le-leb}
use Rattle.std.proofs.Math.Nat.{mul-mul-mul_comm}
use Rattle.std.proofs.Math.Decide.{ℕ_discrete, dec_lt}
use Rattle.std.proofs.Math.ListN.{get_or-eq_default}
use Rattle.layout.proofs.laws.Theorems.{layout_check}
use Rattle.order_call.proofs.laws.Wrote.{wrote_fits}
use Rattle.coeff_walk.specs.Item.{Item}
use Rattle.refusal.specs.Answer.{Answer, gives, refuses}
use Rattle.coeff_group.specs.Group.{PerChannel, Reading, going, zero_rows}
use Rattle.coeff_group.proofs.laws.GroupLaws.{group_items_lem}
use Rattle.coeff_group.specs.PassGroup.{PassGroup, varblocks, items_of}
use Rattle.coeff_group.specs.Work.{clusters_of}
use Rattle.coeff_checks.specs.Checks.{parameters_fit}
use Rattle.coeff_call.specs.Call.{Lent, Outcome, preset_map, reading, outcome_of, call}
use Rattle.coeff_call.specs.laws.CallLaws.{checks_pass, grids_fit, call_reads}
use Rattle.one_to_one.specs.Filling.{Sized, Fixed, Filling, with_symbols, Fills, Fails, symbols_read, refused, unread, other_grids}
use Rattle.coeff_group.specs.laws.Cells.{Shape}
use Rattle.one_to_one.specs.laws.Items.{Ordered}
use Rattle.one_to_one.proofs.laws.Items.{wrote_ordered, item_size, cells_apart, cells_fit, place_or_same}
use Rattle.one_to_one.specs.laws.OneToOne as over
use Rattle.one_to_one.proofs.laws.SymbolsRead.{never_more}

pub shapes : (P : PassGroup) (G W : PerChannel) → Sized P G → Sized P W → Shape W G
shapes P G W g w = record { count = w.three ∙ sym g.three; sizes = λ (c : ℕ). at c (dec_lt c 3) }
  where
    at : (c : ℕ) → Dec (c < 3) → length (get_or W c []) ≡ length (get_or G c [])
    at c (yes h) = w.cells c h ∙ sym (g.cells c h)
    at c (no n) =
        let a : length W ≡ 3 = w.three in
        let b : length G ≡ 3 = g.three in
        rw (get_or-eq_default W [] {n = c} (omega arith), get_or-eq_default G [] {n = c} (omega arith))

module _ (L : Lent) (fixed : Fixed L) where
  abbrev P : PassGroup
  P = L.pass_group

  abbrev items : List Item
  items = items_of L.pass_group (varblocks L.pass_group)

  pub start_sized : Sized L.pass_group L.grids
  start_sized = record {
    three = fixed.rest.three;
    cells = λ c h. grids_fit L fixed.rest.lengths c h ∙ sym (mul-mul-mul_comm 8 P.bh 8 P.bw);
  }

  -- the call reads the group
  pub group_read : (s : List ℕ) → call (with_symbols L s) ≡ outcome_of (reading (with_symbols L s) fixed.rest.preset)
  group_read s =
      call_reads (with_symbols L s) (checks_pass (with_symbols L s) (record {
        sides = fixed.sides;
        parameters = parameters L.shift L.presets (omega (arith, fixed.rest.shift)) fixed.rest.few;
        contexts = fixed.contexts;
        lengths = fixed.rest.lengths;
        layout = layout_check P.bw P.bh P.kinds P.hf_mul fixed.layout;
        places = wrote_fits P.store fixed.orders;
      })) fixed.rest.preset fixed.rest.bits_read fixed.rest.read_whole fixed.rest.below
    where
      parameters : (shift presets : ℕ) → shift ≤ 3 → presets ≤ 256 → parameters_fit shift presets ≡ true
      parameters shift presets a b = rw (le-leb shift 3 a, le-leb presets 256 b)

  module _ (W : PerChannel) (filling : Filling L W) where
    pub fillable : over.Fillable items L.grids W
    fillable = record {
      few = λ it i. let z = item_size P fixed.layout ordered it i in let a = z.0 in let b = z.1 in omega arith;
      sized = λ it i. (item_size P fixed.layout ordered it i).1;
      distinct = cells_apart P fixed.layout ordered;
      fit = cells_fit P fixed.layout ordered L.grids start_sized fixed.rest.words;
      wanted = filling.words;
      shape = shapes P L.grids W start_sized filling.sized;
      kept = place_or_same P fixed.layout ordered L.grids W start_sized filling.sized filling.low;
    }
      where
        ordered : Ordered P
        ordered = wrote_ordered P fixed.orders

    abbrev pub reading_of : List ℕ → Reading
    reading_of s = over.reading (clusters_of P) (preset_map L fixed.rest.preset) items s L.log L.grids zero_rows

    same_reading : (s : List ℕ) → reading (with_symbols L s) fixed.rest.preset ≡ reading_of s
    unfolding reading
    same_reading s =
        let z : L.shift ≡ 0 = omega (arith, fixed.rest.shift) in
        rw z (group_items_lem 0 (clusters_of P) (preset_map L fixed.rest.preset) P (varblocks P) (going s 0 L.log L.grids zero_rows))

    -- what the call does is what the reading does
    pub same : (s : List ℕ) → Fills L s W ↔ over.Filled (reading_of s) s W
    same s = (to, from)
      where
        e : call (with_symbols L s) ≡ outcome_of (reading_of s)
        e = group_read s ∙ ap outcome_of (same_reading s)

        to : Fills L s W → over.Filled (reading_of s) s W
        to f = record {
          accepted = sym (ap (λ (o : Outcome). o.answer) e) ∙ f.accepted;
          grids = sym (ap (λ (o : Outcome). o.grids) e) ∙ f.grids;
        }

        from : over.Filled (reading_of s) s W → Fills L s W
        from f = record {
          accepted = ap (λ (o : Outcome). o.answer) e ∙ f.accepted;
          grids = ap (λ (o : Outcome). o.grids) e ∙ f.grids;
        }

-- no sequence fails that fills
pub fills_not : (L : Lent) (s : List ℕ) (W : PerChannel) → Fills L s W → Fails L s W → ⊥
fills_not L s W f (refused why e) = let a = f.accepted in let z : ◌≡◌ {A = ℕ} 0 1 = cc in omega arith
fills_not L s W f (unread n h e) = let a : gives n ≡ gives (length s) = sym e ∙ f.accepted in let b : n ≡ length s = cc in omega arith
fills_not L s W f (other_grids n) = n f.grids

-- a sequence that does not fill fails
pub not_fills : (L : Lent) (s : List ℕ) (W : PerChannel) → (Fills L s W → ⊥) → Fails L s W
not_fills L s W n = by_answer (call (with_symbols L s)).answer refl
  where
    by_count : (m : ℕ) → (call (with_symbols L s)).answer ≡ gives m → m ≤ length s → Dec (m ≡ length s) → Fails L s W
    by_count m a h (yes e) = other_grids (λ g. n (record { accepted = a ∙ ap gives e; grids = g }))
    by_count m a h (no e) = unread m (omega (arith, e)) a

    by_answer : (r : Answer ℕ) → (call (with_symbols L s)).answer ≡ r → Fails L s W
    by_answer (refuses why) a = refused why a
    by_answer (gives m) a =
        let k : symbols_read (call (with_symbols L s)).answer ≤ length s = never_more (with_symbols L s) in
        let e : symbols_read (call (with_symbols L s)).answer ≡ m = ap symbols_read a in
        by_count m a (omega arith) (ℕ_discrete m (length s))
