-- What a coefficient call tells of its counts: an accepted one has used every count up; where 24 is told, the last place of a channel was passed with
-- count remaining (document 02, No. 8), and where 17 is told, more coefficients of a channel are due than places remain (document 02, No. 9).
use Rattle.std.specs.Prelude.{◌≡◌, true, List, ℕ, ◌*◌, ◌-◌, length, take}
use Rattle.std.proofs.Math.Path.{refl, subst}
use Rattle.std.proofs.Common.{ap, sym, ◌∙◌, true≢false, take_at}
use mathlib.Core.List.Memᴰ
use mathlib.Core.List.Memᴰ.{head as here}
use native.Mathlib.Omega.{arith}
use Rattle.refusal.specs.declared.Refusal.{Refusal}
use Rattle.refusal.specs.declared.Refusal.TheVariants.{SymbolsEnd, Count, TooManyZeros, CountRemaining}
use Rattle.refusal.specs.declared.Said.{Said}
use Rattle.refusal.specs.Said.{said}
use Rattle.refusal.specs.Answer.{gives, refuses}
use Rattle.layout.proofs.laws.Rectangles.{known}
use Rattle.layout.proofs.laws.Theorems.{layout_iff}
use Rattle.std.specs.Prelude.{Ok}
use Rattle.coeff_walk.specs.Item.{Item}
use Rattle.coeff_walk.specs.UsedUp.{CountsUsed, StoppedAmong}
use Rattle.coeff_walk.specs.laws.Walks.{ReadOf, symbols_end, count, too_many_zeros, count_remaining}
use Rattle.coeff_group.specs.Group.{Reading, going, refused}
use Rattle.coeff_group.specs.PassGroup.{varblocks, item_of, group_items}
use Rattle.coeff_group.specs.Work.{clusters_of}
use Rattle.coeff_group.specs.laws.Cells.{In}
use Rattle.coeff_group.specs.laws.Due.{walk_of}
use Rattle.coeff_group.proofs.laws.Symbols.{places_many}
use Rattle.coeff_group.proofs.laws.Used.{group_uses}
use Rattle.coeff_group.specs.laws.Reads.{Sized, End, ends, stops, Tells}
use Rattle.coeff_call.specs.Call.{Lent, Outcome, Passed, preset_map, reading, outcome_of, call}
use Rattle.coeff_call.specs.laws.CallLaws.{lengths_fit_lem}
use Rattle.one_to_one.specs.Filling.{tells_read, StoppedAt}
use Rattle.one_to_one.proofs.laws.Items.{each_item, of_varblock}
use Rattle.one_to_one.specs.laws.Ways.{Way, before, work, answer_by}
use Rattle.one_to_one.proofs.laws.Ways.{way, same_said, no_answer, did, outcome_by}
use Rattle.one_to_one.specs.laws.CountsUsed.{P, StopAt, CountsUsedLaw, RemainsAt, CountRemainsLaw, DueAt, MoreDueLaw}

module _ (L : Lent) where
  read_to : (R : Reading) (n : ℕ) → (outcome_of R).answer ≡ gives n → walk_of R ≡ Ok n
  read_to (going us at log grids rows) n e = let z : at ≡ n = cc in ap Ok z
  read_to (refused why at log grids) n e = absurd (let z : ◌≡◌ {A = ℕ} 0 1 = cc in omega arith)

  used_by : Way L → (n : ℕ) → (call L).answer ≡ gives n → CountsUsed (group_items L.pass_group) (take n L.symbols)
  unfolding reading
  used_by (before s t e) n a = absurd (no_answer s n (sym (ap (λ (o : Outcome). o.answer) (e L.symbols L.log refl)) ∙ a))
  used_by (work passed preset e) n a =
      let z : n - 0 ≡ n = omega arith in
      subst (λ (m : ℕ). CountsUsed (group_items L.pass_group) (take m L.symbols)) z
      (group_uses L.shift (clusters_of L.pass_group) (preset_map L preset) L.pass_group L.symbols L.log L.grids (walk_of (reading L preset)) refl n
      (read_to (reading L preset) n (sym (ap (λ (o : Outcome). o.answer) (e L.symbols L.log refl)) ∙ a)))

  -- the symbols that an accepted call read are those of the group's channels, every count used up
  pub counts_used : CountsUsedLaw L
  counts_used = used_by (way L)

  -- a channel's places are 63 for each block, whatever the store holds
  sized : Passed L → Sized (group_items (P L))
  sized passed =
      let l = lengths_fit_lem L passed.lengths in
      let lay = (layout_iff (P L).bw (P L).bh (P L).kinds (P L).hf_mul l.kinds l.hf_mul).0 passed.layout in
      each_item (P L) (λ (it : Item). length it.cells ≡ 63 * it.blocks) (varblocks (P L)) (λ v i n c hn hc. unfold item_of in places_many (P L) l.store v (known lay v i) c hc)

  -- where the answer is a refusal that tells the symbols read
  record Stopped (s : Said) : Type 0 where
    checks : Passed L
    at : ℕ
    why : ℕ → Refusal
    tells : said (why at) ≡ s
    stop : (StopAt L) at why

  stopped_by : Way L → (s : Said) → tells_read s.number ≡ true → (call L).answer ≡ refuses s → Stopped s
  stopped_by (before r t e) s h a =
      let q = same_said r s (sym (ap (λ (o : Outcome). o.answer) (e L.symbols L.log refl)) ∙ a) in
      absurd (true≢false (sym h ∙ sym (ap (λ (r : Said). tells_read r.number) q) ∙ t))
  stopped_by (work passed preset e) s h a =
      let d = did L preset in
      let b : (call L).answer ≡ answer_by d.end (length d.clusters) =
      ap (λ (o : Outcome). o.answer) (e L.symbols L.log refl ∙ ap outcome_of (d.is L.log) ∙ outcome_by d.end (length d.clusters) _ _) in
      go (length d.clusters) d.dss d.end d.tells (sym b ∙ a)
    where
      go : (k : ℕ) (dss : List (List ℕ)) (end : End) → Tells (group_items (P L)) L.symbols k dss end → answer_by end k ≡ refuses s → Stopped s
      go k dss (ends us rows) t b = absurd (no_answer s k (sym b))
      go k dss (stops why) t b = record { checks = passed; at = k; why = why; tells = same_said (said (why k)) s b; stop = t }

  pub at_channel : {Q : Item → List ℕ → Type 0} (s : List ℕ) → StoppedAmong Q (group_items (P L)) s → StoppedAt Q (P L) s
  at_channel s m =
      let r = of_varblock (P L) (varblocks (P L)) m.it (subst (In m.it) (sym m.parts) (Memᴰ.append_right m.before (here refl))) in
      record { among = m; at = record { of = r.0; there = r.1; channel = r.2 } }

  -- the symbols that were read are the first k of those lent
  first_read : {Q : List ℕ → Type 0} (at k : ℕ) → at ≡ k → ReadOf Q L.symbols at → Q (take k L.symbols)
  first_read {Q} at k e r = subst Q (sym (ap (take k) r.are ∙ take_at r.s r.vs k (omega (arith, r.long, e)))) r.told

  -- no other refusal has its number
  number_is : (of why : ℕ → Refusal) (at : ℕ) (s : Said) → why ≡ of → said (why at) ≡ s → s.number ≡ (said (of at)).number
  number_is of why at s w e = sym (ap (λ (r : Said). r.number) e) ∙ ap (λ (f : ℕ → Refusal). (said (f at)).number) w

  module _ (k : ℕ) where
    remains_at : RemainsAt L k
    remains_at at why e (symbols_end w h) = absurd (omega (arith, number_is SymbolsEnd why at _ w e))
    remains_at at why e (count w h) = absurd (omega (arith, number_is Count why at _ w e))
    remains_at at why e (too_many_zeros w h) = absurd (omega (arith, number_is TooManyZeros why at _ w e))
    remains_at at why e (count_remaining w h) = first_read at k (ap (λ (s : Said). s.x) (rw w at e)) h

    due_at : DueAt L k
    due_at at why e z (symbols_end w h) = absurd (omega (arith, number_is SymbolsEnd why at _ w e))
    due_at at why e z (count w h) = absurd (omega (arith, number_is Count why at _ w e))
    due_at at why e z (too_many_zeros w h) = first_read at k (ap (λ (s : Said). s.x) (rw w at e)) h z
    due_at at why e z (count_remaining w h) = absurd (omega (arith, number_is CountRemaining why at _ w e))

    -- 24 with k symbols read: earlier channels of the group have used their counts up, then the last place of one was passed with count remaining
    pub count_remains : CountRemainsLaw L k
    count_remains a = let r = stopped_by (way L) _ refl a in at_channel (take k L.symbols) (remains_at r.at r.why r.tells r.stop)

    -- 17 with k symbols read: earlier channels have used their counts up, then more coefficients of one are due than places remain
    pub more_due : MoreDueLaw L k
    more_due a = let r = stopped_by (way L) _ refl a in at_channel (take k L.symbols) (due_at r.at r.why r.tells (sized r.checks) r.stop)
