-- What the reading of a group reads, logs and adds, whatever the shift and whatever log and grids held: its items' walks, one behind the other.
use Rattle.std.specs.Prelude.{◌≡◌, Bool, true, false, cond, ℕ, suc, ◌+◌, ◌*◌, ◌≤◌, leb, length, get_or}
use Rattle.std.proofs.Math.Path.{refl, ap, sym}
use Rattle.std.proofs.Common.{ap₂, ◌∙◌, add-one, le-leb, leb-true, length-append}
use mathlib.Core.List.Memᴰ.{head as here}
use mathlib.Core.List.Memᴰ.{tail as there}
use mathlib.Core.List.{List, [], ◌∷◌, ◌++◌, map, append_assoc}
use native.Mathlib.Omega.{arith}
use Rattle.std.proofs.Math.ListN.{set}
use Rattle.std.proofs.lemmas.List.{length-map, set-get_or}
use Rattle.std.proofs.lemmas.List.Edits.{sets}
use Rattle.laws.specs.laws.Lists.{sets_append}
use Rattle.refusal.specs.declared.Refusal.{Refusal}
use Rattle.refusal.specs.declared.Refusal.TheVariants.{SymbolsEnd, Count}
use Rattle.coeff_walk.specs.Walk.{Walked, stopped, walk}
use Rattle.coeff_walk.proofs.laws.Counts.{few_le}
use Rattle.coeff_walk.specs.Item.{Item, counted, new_row, coeff_map_of, count_cluster}
use Rattle.coeff_group.specs.Group.{PerChannel, Reading, going, refused, after, read_item, read_items}
use Rattle.coeff_group.proofs.laws.GroupLaws.{read_refused}
use Rattle.coeff_group.specs.laws.Symbols.{symbols_in}
use Rattle.coeff_walk.specs.Sent.{Words, non_zeros, up_to, sent}
use Rattle.coeff_group.specs.Sequence.{read_cells}
use Rattle.coeff_walk.specs.UsedUp.{Long, StoppedAmong}
use Rattle.coeff_walk.proofs.laws.Used.{more_due, count_remains}
use Rattle.coeff_walk.specs.laws.Walks as walks
use Rattle.coeff_walk.proofs.laws.Walks as walks_laws
use Rattle.coeff_walk.specs.laws.Walks.{gains, none}
use Rattle.coeff_walk.proofs.laws.Walks.{none_long, gains_none, run, non_zeros_le, walk_sent}
use Rattle.coeff_group.specs.laws.Cells.{In, adds}
use Rattle.coeff_group.proofs.laws.Cells.{adds_in, adds_both}
use Rattle.coeff_group.specs.laws.Reads.{joined, Sized, End, read_by, longer, Tells, Reads, stops, ends}

-- no symbol at any place
abbrev nones : List Item → List (List ℕ)
nones its = map (λ (it : Item). none it.cells) its

nones_long : (its : List Item) → Long its (nones its)
nones_long [] = tt
nones_long (it ∷ its) = (none_long it.cells, nones_long its)

pub words_both : (us vs : List ℕ) → Words us → Words vs → Words (us ++ vs)
words_both [] vs a b = b
words_both (u ∷ us) vs a b = (a.0, words_both us vs a.1 b)

-- one item's cells, then the others'
cells_step : (s : ℕ) (it : Item) (its : List Item) (G : PerChannel) (ds es : List ℕ) → length ds ≡ length it.cells
    → adds s (set G it.channel (gains s (get_or G it.channel []) it.cells ds)) (read_cells its) es ≡ adds s G (read_cells (it ∷ its)) (ds ++ es)
unfolding read_cells
cells_step s it its G ds es e =
    ap (λ (H : PerChannel). adds s H (read_cells its) es) (adds_in s G it.channel it.cells ds)
    ∙ sym (adds_both s G (map (λ (p : ℕ). (it.channel, p)) it.cells) (read_cells its) ds es (e ∙ sym (length-map it.cells (λ (p : ℕ). (it.channel, p)))))

adds_nones : (s : ℕ) (its : List Item) (G : PerChannel) → adds s G (read_cells its) (joined (nones its)) ≡ G
unfolding read_cells
adds_nones s [] G = refl
adds_nones s (it ∷ its) G =
    sym (unfold read_cells in cells_step s it its G (none it.cells) (joined (nones its)) (none_long it.cells))
    ∙ adds_nones s its (set G it.channel (gains s (get_or G it.channel []) it.cells (none it.cells)))
    ∙ rw (gains_none s (get_or G it.channel []) it.cells) (set-get_or G it.channel [])

-- refused before the first place
refused_here : (its : List Item) (us : List ℕ) (ks : List ℕ) (why : ℕ → Refusal) (F : ℕ → ℕ → List ℕ → PerChannel → Reading) (F' : List ℕ → ℕ → ℕ → List ℕ → PerChannel → Reading)
    → ((s at : ℕ) (log : List ℕ) (G : PerChannel) → F s at log G ≡ refused why (at + length ks) (sets log at ks) G) → length ks ≤ symbols_in its → Tells its us (length ks) [] (stops why) → Reads its us F F'
refused_here its us ks why F F' e f t = record {
  clusters = ks;
  dss = nones its;
  end = stops why;
  is = λ s at log G. e s at log G ∙ ap (refused why (at + length ks) (sets log at ks)) (sym (adds_nones s its G));
  further = λ h vs s at log G. absurd h;
  all = nones_long its;
  few = f;
  tells = t;
}

-- one item is read: it is the last, or others come behind it
module _ {Q : Item → List ℕ → Type 0} (it : Item) (its : List Item) where
  at_first : (s : List ℕ) → Q it s → StoppedAmong Q (it ∷ its) s
  unfolding sent
  at_first s q = record { before = []; it = it; behind = its; parts = refl; earlier = []; last = s; used = record { dss = []; long = tt; are = refl }; holds = q; are = refl }

  behind_first : (ds : List ℕ) → length ds ≡ length it.cells → (s : List ℕ) → StoppedAmong Q its s → StoppedAmong Q (it ∷ its) ((non_zeros ds ∷ up_to (non_zeros ds) ds) ++ s)
  unfolding sent
  behind_first ds long s m =
      let xs = non_zeros ds ∷ up_to (non_zeros ds) ds in
      record {
        before = it ∷ m.before;
        it = m.it;
        behind = m.behind;
        parts = ap (λ (l : List Item). it ∷ l) m.parts;
        earlier = xs ++ m.earlier;
        last = m.last;
        used = record { dss = ds ∷ m.used.dss; long = (long, m.used.long); are = ap (λ (l : List ℕ). xs ++ l) m.used.are };
        holds = m.holds;
        are = ap (λ (l : List ℕ). xs ++ l) m.are ∙ sym (append_assoc xs m.earlier m.last);
      }

tells_on : (it : Item) (its : List Item) (n m k : ℕ) (us ds us₁ : List ℕ) (dss : List (List ℕ)) (e : End) → length ds ≡ length it.cells
    → walks.Taken n us m ds us₁ → Tells its us₁ k dss e → Tells (it ∷ its) (n ∷ us) (suc (m + k)) (ds ∷ dss) e
unfolding sent
tells_on it its n m k us ds us₁ dss (ends us' rows) long w t =
    let a = w.read in let b = t.read in
    record {
      read = omega arith;
      rest = ap₂ (λ (i : ℕ) (l : List ℕ). i ∷ l) w.due (w.rest ∙ rw (w.due, t.rest) (sym (append_assoc (up_to (non_zeros ds) ds) (sent dss) us')));
      words = λ h. let q = w.words h.1 in words_both ds (joined dss) q.0 (t.words q.1);
    }
tells_on it its n m k us ds us₁ dss (stops why) long w t =
    let xs = non_zeros ds ∷ up_to (non_zeros ds) ds in
    let e : us ≡ up_to (non_zeros ds) ds ++ us₁ = w.rest ∙ ap (λ (j : ℕ). up_to j ds ++ us₁) w.due in
    walks_laws.stop_later xs us₁ (n ∷ us) k (suc (m + k)) why (ap₂ (λ (i : ℕ) (l : List ℕ). i ∷ l) w.due e)
    (omega (arith, w.read, ap length e, length-append (up_to (non_zeros ds) ds) us₁))
    (λ s q z. behind_first it its ds long s (q (λ (u : Item) (j : In u its). z u (there j)))) (λ s. behind_first it its ds long s) t

module _ (clusters : ℕ) (preset_map : List ℕ) where
  abbrev Claim : List Item → Type 0
  Claim its = (us : List ℕ) (rows : PerChannel)
      → Reads its us (λ s at log G. read_items s clusters preset_map its (going us at log G rows)) (λ vs s at log G. read_items s clusters preset_map its (going (us ++ vs) at log G rows))

  module _ (it : Item) (its : List Item) (ih : Claim its) (n : ℕ) (us : List ℕ) (rows : PerChannel) where
    abbrev c : ℕ
    c = it.channel

    abbrev k : ℕ
    k = count_cluster clusters preset_map it (get_or rows c [])

    abbrev rows₁ : PerChannel
    rows₁ = set rows c (new_row it (get_or rows c []) (n ∷ us))

    abbrev first_prev : ℕ
    first_prev = cond (leb n (4 * it.blocks)) 1 0

    abbrev W : List ℕ → ℕ → ℕ → List ℕ → List ℕ → Walked
    W vs s at log g = walk s it.blocks (coeff_map_of clusters preset_map it) it.cells 0 first_prev n vs at log g

    abbrev on : (b : Bool) → List ℕ → ℕ → ℕ → List ℕ → PerChannel → Reading
    on b vs s at log G = read_items s clusters preset_map its (after c G rows₁ (cond b (W vs s (at + 1) (set log at k) (get_or G c [])) (stopped Count (at + 1) (set log at k) (get_or G c []))))

    module _ (ks ds : List ℕ) (long : length ds ≡ length it.cells) where
      grids : ℕ → PerChannel → PerChannel
      grids s G = set G c (gains s (get_or G c []) it.cells ds)

      both : (s at : ℕ) (log : List ℕ) (G : PerChannel) (e : End) (ls es : List ℕ)
          → read_by e (at + 1 + length ks + length ls) (sets (sets (set log at k) (at + 1) ks) (at + 1 + length ks) ls) (adds s (set G c (gains s (get_or G c []) it.cells ds)) (read_cells its) es)
          ≡ read_by e (at + suc (length (ks ++ ls))) (sets (set log at k) (suc at) (ks ++ ls)) (adds s G (read_cells (it ∷ its)) (ds ++ es))
      both s at log G e ls es =
          let z : at + 1 + length ks + length ls ≡ at + suc (length (ks ++ ls)) = omega (arith, length-append ks ls) in
          rw (z, add-one at, cells_step s it its G ds es long, sets_append ks ls (set log at k) (suc at))

      by_end : (e : walks.End) → ((s at : ℕ) (log g : List ℕ) → W us s at log g ≡ walks.walked_by e (at + length ks) (sets log at ks) (gains s g it.cells ds))
          → (walks.Goes e → (vs : List ℕ) (s at : ℕ) (log g : List ℕ) → W (us ++ vs) s at log g ≡ walks.walked_by (walks.longer vs e) (at + length ks) (sets log at ks) (gains s g it.cells ds))
          → length ks ≤ length it.cells → n ≤ 63 * it.blocks → walks.Tells it.blocks 0 first_prev n it.cells us (length ks) ds e → Reads (it ∷ its) (n ∷ us) (on true us) (λ vs. on true (us ++ vs))
      by_end (walks.stops why) is further few most t = record {
        clusters = k ∷ ks;
        dss = ds ∷ nones its;
        end = stops why;
        is = λ s at log G.
            let z : at + 1 + length ks ≡ at + suc (length ks) = omega arith in
            ap (λ (w : Walked). read_items s clusters preset_map its (after c G rows₁ w)) (is s (at + 1) (set log at k) (get_or G c []))
            ∙ read_refused s clusters preset_map its why (at + 1 + length ks) (sets (set log at k) (at + 1) ks) (set G c (gains s (get_or G c []) it.cells ds))
            ∙ rw (z, add-one at) (ap (refused why (at + suc (length ks)) (sets (set log at k) (suc at) ks))
            (sym (adds_nones s its (set G c (gains s (get_or G c []) it.cells ds))) ∙ cells_step s it its G ds (joined (nones its)) long));
        further = λ h vs s at log G. absurd h;
        all = (long, nones_long its);
        few = omega arith;
        tells = walks_laws.stop_later (n ∷ []) us (n ∷ us) (length ks) (suc (length ks)) why refl (omega arith)
            (λ s q z. at_first it its (n ∷ s) (more_due it n most first_prev (few_le n (4 * it.blocks)) (z it (here refl)) s q)) (λ s q. at_first it its (n ∷ s) (count_remains it n most s q)) t;
      }
      by_end (walks.ends us₁) is further few most t =
          let q = ih us₁ rows₁ in
          let m = q.few in
          record {
            clusters = k ∷ (ks ++ q.clusters);
            dss = ds ∷ q.dss;
            end = q.end;
            is = λ s at log G.
                ap (λ (w : Walked). read_items s clusters preset_map its (after c G rows₁ w)) (is s (at + 1) (set log at k) (get_or G c []))
                ∙ q.is s (at + 1 + length ks) (sets (set log at k) (at + 1) ks) (set G c (gains s (get_or G c []) it.cells ds)) ∙ both s at log G q.end q.clusters (joined q.dss);
            further = λ h vs s at log G.
                ap (λ (w : Walked). read_items s clusters preset_map its (after c G rows₁ w)) (further tt vs s (at + 1) (set log at k) (get_or G c []))
                ∙ q.further h vs s (at + 1 + length ks) (sets (set log at k) (at + 1) ks) (set G c (gains s (get_or G c []) it.cells ds)) ∙ both s at log G (longer vs q.end) q.clusters (joined q.dss);
            all = (long, q.all);
            few = omega (arith, length-append ks q.clusters);
            tells = rw (length-append ks q.clusters) (tells_on it its n (length ks) (length q.clusters) us ds us₁ q.dss q.end long t q.tells);
          }

    by_count : (b : Bool) → leb n (63 * it.blocks) ≡ b → Reads (it ∷ its) (n ∷ us) (on b us) (λ vs. on b (us ++ vs))
    by_count true e =
        let r = run it.blocks (coeff_map_of clusters preset_map it) it.cells 0 first_prev n us in
        by_end r.clusters r.ds r.all r.end r.is r.further r.few (leb-true n (63 * it.blocks) e) r.tells
    by_count false e =
        refused_here (it ∷ its) (n ∷ us) (k ∷ []) Count _ _
        (λ s at log G. read_refused s clusters preset_map its Count (at + 1) (set log at k) (set G c (get_or G c [])) ∙ ap (refused Count (at + 1) (set log at k)) (set-get_or G c [])) (omega arith)
        (walks.count refl (omega arith))

  next : (it : Item) (its : List Item) → Claim its → Claim (it ∷ its)
  unfolding read_items read_item counted
  next it its ih [] rows =
      refused_here (it ∷ its) [] [] SymbolsEnd _ _
      (λ s at log G. let z : at + 0 ≡ at = omega arith in
      read_refused s clusters preset_map its SymbolsEnd at log (set G it.channel (get_or G it.channel [])) ∙ rw z (ap (refused SymbolsEnd at log) (set-get_or G it.channel []))) (omega arith) (walks.symbols_end refl refl)
  next it its ih (n ∷ us) rows = by_count it its ih n us rows (leb n (63 * it.blocks)) refl

  pub reads : (its : List Item) → Claim its
  unfolding read_items read_cells sent
  reads [] us rows =
      record {
        clusters = [];
        dss = [];
        end = ends us rows;
        is = λ s at log G. let z : at + 0 ≡ at = omega arith in rw z;
        further = λ h vs s at log G. let z : at + 0 ≡ at = omega arith in rw z;
        all = tt;
        few = omega arith;
        tells = record { read = omega arith; rest = refl; words = λ h. tt };
      }
  reads (it ∷ its) us rows = next it its (reads its) us rows

  -- Symbols that are sent are read.
  pub record Sent (its : List Item) (dss : List (List ℕ)) (s at : ℕ) (log : List ℕ) (G rows : PerChannel) : Type 0 where
    pub at' : ℕ
    pub log' : List ℕ
    pub rows' : PerChannel
    pub is : read_items s clusters preset_map its (going (sent dss) at log G rows) ≡ going [] at' log' (adds s G (read_cells its) (joined dss)) rows'

  pub read_sent : (its : List Item) (dss : List (List ℕ)) → Long its dss → Sized its → (s at : ℕ) (log : List ℕ) (G rows : PerChannel) → Sent its dss s at log G rows
  unfolding read_items read_item counted sent
  read_sent [] [] l z s at log G rows = record { at' = at; log' = log; rows' = rows; is = refl }
  read_sent [] (ds ∷ dss) l z s at log G rows = absurd l
  read_sent (it ∷ its) [] l z s at log G rows = absurd l
  read_sent (it ∷ its) (ds ∷ dss) l z s at log G rows =
      let c = it.channel in
      let n = non_zeros ds in
      let a = l.0 in let b = z it (here refl) in
      let w = walk_sent s it.blocks (coeff_map_of clusters preset_map it) it.cells ds 0 (cond (leb n (4 * it.blocks)) 1 0) n (sent dss) (at + 1)
      (set log at (count_cluster clusters preset_map it (get_or rows c []))) (get_or G c []) a refl (omega arith) (few_le n (4 * it.blocks)) in
      let H = set G c (gains s (get_or G c []) it.cells ds) in
      let r = read_sent its dss l.1 (λ t i. z t (there i)) s w.at' w.log' H (set rows c (new_row it (get_or rows c []) (n ∷ []))) in
      record {
        at' = r.at';
        log' = r.log';
        rows' = r.rows';
        is = rw (le-leb n (63 * it.blocks) (omega (arith, non_zeros_le ds)), w.is) (r.is ∙ ap (λ (X : PerChannel). going [] r.at' r.log' X r.rows') (cells_step s it its G ds (joined dss) a));
      }
