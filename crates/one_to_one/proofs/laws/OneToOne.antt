-- One sequence and only one (mission, demand 3), over items.
use Rattle.std.specs.Prelude.{◌≡◌, ◌↔◌, ◌⊎◌, ℕ, zero, suc, ◌+◌, ◌^◌, ◌<◌, length, take, drop}
use Rattle.std.proofs.Math.Path.{refl, ap₂, sym}
use Rattle.std.proofs.Common.{ap, ◌∙◌, inl, inr, arith, length-append, take_at, drop_at}
use mathlib.Core.List.Memᴰ.{head as here}
use mathlib.Core.List.Memᴰ.{tail as there}
use mathlib.Core.List.{List, [], ◌∷◌, ◌++◌, map, append-nil, map-append, map-map}
use Rattle.std.proofs.lemmas.List.{length-map}
use Rattle.std.proofs.lemmas.List.Edits.{sets}
use Rattle.laws.specs.laws.Lists.{no_elements}
use Rattle.coded_numbers.proofs.laws.Signed.{symbol_lt}
use Rattle.coded_numbers.specs.Signed.{symbol}
use Rattle.coeff_walk.specs.Walk.{less}
use Rattle.coeff_walk.specs.Item.{Item}
use Rattle.refusal.specs.Answer.{gives}
use Rattle.coeff_group.specs.Group.{PerChannel, Reading, going, refused}
use Rattle.coeff_call.specs.Call.{outcome_of}
use Rattle.coeff_walk.proofs.laws.Walks.{non_zeros_le}
use Rattle.coeff_group.specs.laws.Cells.{adds, change, In}
use Rattle.coeff_group.proofs.laws.Cells.{same_shape, adds_shape, adds_off, only_symbols, symbols_turn}
use Rattle.coeff_group.specs.laws.Reads as run
use Rattle.coeff_group.proofs.laws.Reads as run_laws
use Rattle.coeff_group.specs.laws.Reads.{joined}
use Rattle.coeff_group.proofs.laws.Reads.{words_both}
use Rattle.coeff_walk.specs.UsedUp.{Long}
use Rattle.coeff_group.specs.Sequence.{in_cell, changes, GridCell, read_cells}
use Rattle.coeff_walk.specs.Sent.{Words, non_zeros, up_to, sent}
use Rattle.one_to_one.specs.laws.OneToOne.{Filled, Fillable, reading}

-- symbols item by item, and cell by cell
module _ (G W : PerChannel) where
  changes_long : (its : List Item) → Long its (map (changes G W) its)
  changes_long [] = tt
  changes_long (it ∷ its) = (length-map it.cells _, changes_long its)

  changes_joined : (its : List Item) → joined (map (changes G W) its) ≡ map (change G W) (read_cells its)
  unfolding read_cells
  changes_joined [] = refl
  changes_joined (it ∷ its) =
      ap₂ (λ (a b : List ℕ). a ++ b) (sym (map-map (change G W) (λ (p : ℕ). (it.channel, p)) it.cells)) (changes_joined its)
      ∙ sym (map-append (change G W) (map (λ (p : ℕ). (it.channel, p)) it.cells) (read_cells its))

joined_only : (its : List Item) (dss ess : List (List ℕ)) → Long its dss → Long its ess → joined dss ≡ joined ess → dss ≡ ess
joined_only [] [] [] a b e = refl
joined_only [] [] (es ∷ ess) a b e = absurd b
joined_only [] (ds ∷ dss) ess a b e = absurd a
joined_only (it ∷ its) [] ess a b e = absurd a
joined_only (it ∷ its) (ds ∷ dss) [] a b e = absurd b
joined_only (it ∷ its) (ds ∷ dss) (es ∷ ess) a b e =
    let n = length it.cells in
    ap₂ (λ (l : List ℕ) (ls : List (List ℕ)). l ∷ ls)
    (sym (take_at ds (joined dss) n a.0) ∙ ap (take n) e ∙ take_at es (joined ess) n b.0)
    (joined_only its dss ess a.1 b.1 (sym (drop_at ds (joined dss) n a.0) ∙ ap (drop n) e ∙ drop_at es (joined ess) n b.0))

long_joined : (its : List Item) (dss : List (List ℕ)) → Long its dss → length (joined dss) ≡ length (read_cells its)
unfolding read_cells
long_joined [] [] l = refl
long_joined [] (ds ∷ dss) l = absurd l
long_joined (it ∷ its) [] l = absurd l
long_joined (it ∷ its) (ds ∷ dss) l =
    let ms = map {B = GridCell} (λ (p : ℕ). (it.channel, p)) it.cells in
    let e : length ms ≡ length it.cells = length-map it.cells (λ (p : ℕ). (it.channel, p)) in
    omega (arith, length-append ds (joined dss), length-append ms (read_cells its), long_joined its dss l.1, l.0)

-- the sequence is one of 32-bit symbols
map_words : (f : ℕ → ℕ) → ((p : ℕ) → f p < 2 ^ 32) → (ps : List ℕ) → Words (map f ps)
map_words f h [] = tt
map_words f h (p ∷ ps) = (h p, map_words f h ps)

up_to_words : (n : ℕ) (ds : List ℕ) → Words ds → Words (up_to n ds)
unfolding up_to
up_to_words n [] w = tt
up_to_words zero (d ∷ ds) w = tt
up_to_words (suc n) (d ∷ ds) w = (w.0, up_to_words (less d n) ds w.1)

pub sequence_words : (its : List Item) (G W : PerChannel) → ((it : Item) → In it its → length it.cells < 2 ^ 32) → Words (sent (map (changes G W) its))
unfolding sent
sequence_words [] G W f = tt
sequence_words (it ∷ its) G W f =
    let ds = changes G W it in
    let w = map_words (λ (p : ℕ). symbol (in_cell W it.channel p) (in_cell G it.channel p)) (λ p. symbol_lt (in_cell W it.channel p) (in_cell G it.channel p)) it.cells in
    (omega (arith, non_zeros_le ds, length-map it.cells (λ (p : ℕ). symbol (in_cell W it.channel p) (in_cell G it.channel p)), f it (here refl)), words_both (up_to (non_zeros ds) ds) (sent (map (changes G W) its)) (up_to_words (non_zeros ds) ds w) (sequence_words its G W (λ t i. f t (there i))))

module _ (clusters : ℕ) (preset_map : List ℕ) (its : List Item) (G W : PerChannel) (fillable : Fillable its G W) (log : List ℕ) (rows : PerChannel) where
  abbrev dss : List (List ℕ)
  dss = map (changes G W) its

  reached : adds 0 G (read_cells its) (joined dss) ≡ W
  reached =
      let a = adds_shape 0 G (read_cells its) (joined dss) in
      same_shape (adds 0 G (read_cells its) (joined dss)) W (record { count = a.count ∙ sym fillable.shape.count; sizes = λ c. a.sizes c ∙ sym (fillable.shape.sizes c) }) (λ c p. go c p (fillable.kept c p))
    where
      go : (c p : ℕ) → In (c, p) (read_cells its) ⊎ ((In (c, p) (read_cells its) → ⊥) × (in_cell W c p ≡ in_cell G c p)) → in_cell (adds 0 G (read_cells its) (joined dss)) c p ≡ in_cell W c p
      go c p (inl i) = rw (changes_joined G W its) (symbols_turn G W (read_cells its) fillable.distinct fillable.fit (λ x j. fillable.wanted x.0 x.1) (c, p) i)
      go c p (inr n) = adds_off 0 G (read_cells its) (joined dss) (c, p) n.0 ∙ sym n.1

  -- a reading to the last symbol reads as many as there are
  to_last : (s : List ℕ) (at : ℕ) (log' : List ℕ) (F rows' : PerChannel) → reading clusters preset_map its s log G rows ≡ going [] at log' F rows' → at ≡ length s
  to_last s at log' F rows' e = let q = run_laws.reads clusters preset_map its s rows in go (length q.clusters) (sets log 0 q.clusters) (adds 0 G (read_cells its) (joined q.dss)) q.dss q.end (q.is 0 0 log G) q.tells
    where
      go : (k : ℕ) (l : List ℕ) (H : PerChannel) (ess : List (List ℕ)) (e₁ : run.End) → reading clusters preset_map its s log G rows ≡ run.read_by e₁ (0 + k) l H → run.Tells its s k ess e₁ → at ≡ length s
      go k l H ess (run.ends us rows₁) f t =
          let g : going [] at log' F rows' ≡ going us (0 + k) l H rows₁ = sym e ∙ f in
          let a : at ≡ 0 + k = cc in let b : ◌≡◌ {A = List ℕ} [] us = cc in
          omega (arith, t.read, ap length b)
      go k l H ess (run.stops why) f t =
          let g : going [] at log' F rows' ≡ refused why (0 + k) l H = sym e ∙ f in
          let z : ◌≡◌ {A = ℕ} 0 1 = cc in absurd (omega arith)

  pub exists : Filled (reading clusters preset_map its (sent dss) log G rows) (sent dss) W
  exists =
      let r = run_laws.read_sent clusters preset_map its dss (changes_long G W its) fillable.sized 0 0 log G rows in
      record {
        accepted = ap (λ (x : Reading). (outcome_of x).answer) r.is ∙ ap gives (to_last (sent dss) r.at' r.log' (adds 0 G (read_cells its) (joined dss)) r.rows' r.is);
        grids = ap (λ (x : Reading). (outcome_of x).grids) r.is ∙ reached;
      }

  pub unique : (s : List ℕ) → Words s → Filled (reading clusters preset_map its s log G rows) s W → s ≡ sent dss
  unique s h f = let q = run_laws.reads clusters preset_map its s rows in go (length q.clusters) (sets log 0 q.clusters) q.dss q.end q.all (q.is 0 0 log G) q.tells
    where
      go : (k : ℕ) (l : List ℕ) (ess : List (List ℕ)) (e : run.End) → Long its ess → reading clusters preset_map its s log G rows ≡ run.read_by e (0 + k) l (adds 0 G (read_cells its) (joined ess))
          → run.Tells its s k ess e → s ≡ sent dss
      go k l ess (run.ends us rows₁) long e t =
          let a : gives (0 + k) ≡ gives (length s) = sym (ap (λ (x : Reading). (outcome_of x).answer) e) ∙ f.accepted in
          let b : 0 + k ≡ length s = cc in
          let g : adds 0 G (read_cells its) (joined ess) ≡ W = sym (ap (λ (x : Reading). (outcome_of x).grids) e) ∙ f.grids in
          let d : ess ≡ dss =
          joined_only its ess dss long (changes_long G W its)
          (only_symbols G (read_cells its) (joined ess) fillable.distinct fillable.fit (t.words h) (long_joined its ess long)
          ∙ ap (λ (X : PerChannel). map (change G X) (read_cells its)) g ∙ sym (changes_joined G W its)) in
          t.rest ∙ rw (no_elements us (omega (arith, t.read)), d) (append-nil (sent dss))
      go k l ess (run.stops why) long e t =
          let a = sym (ap (λ (x : Reading). (outcome_of x).answer) e) ∙ f.accepted in
          let z : ◌≡◌ {A = ℕ} 0 1 = cc in absurd (omega arith)

  pub one_to_one : (s : List ℕ) → Words s → Filled (reading clusters preset_map its s log G rows) s W ↔ (s ≡ sent dss)
  one_to_one s h = (unique s h, λ (e : s ≡ sent dss). rw e exists)
