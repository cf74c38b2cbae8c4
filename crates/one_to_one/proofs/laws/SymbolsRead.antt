-- How many symbols a coefficient call reads, and what it logs (document 01, Coefficients: "the number of symbols read, never above
-- 192 × blocks, and one logged cluster for each of them"). Of every input, refused ones too.
use Rattle.std.specs.Prelude.{◌≡◌, refl, false, List, [], ◌++◌, ℕ, ◌+◌, ◌*◌, ◌≤◌, length, drop}
use Rattle.std.proofs.Common.{ap, sym, ◌∙◌, true≢false, arith, length-drop, length-append, drop_at}
use Rattle.std.proofs.lemmas.List.Edits.{sets, sets-eq}
use Rattle.refusal.specs.declared.Refusal.TheVariants.{SymbolsEnd, Count, TooManyZeros, CountRemaining}
use Rattle.refusal.specs.declared.Said.{Said}
use Rattle.refusal.specs.Said.{said}
use Rattle.refusal.specs.Said as refusals
use Rattle.layout.proofs.laws.Theorems.{layout_iff}
use Rattle.refusal.specs.Answer.{Answer, refuses}
use Rattle.coeff_group.specs.PassGroup.{varblocks, items_of}
use Rattle.coeff_checks.specs.Checks.{blocks}
use Rattle.coeff_call.specs.Call.{Lent, Outcome, reading, outcome_of, refuse, call, Passed}
use Rattle.coeff_call.specs.laws.CallLaws.{lengths_fit_lem}
use Rattle.coeff_group.proofs.laws.Symbols.{most_symbols}
use Rattle.one_to_one.specs.Filling.{relent, with_log, tells_read, symbols_read}
use Rattle.coeff_walk.specs.Item.{Item}
use Rattle.coeff_walk.specs.laws.Walks.{symbols_end, count, too_many_zeros, count_remaining}
use Rattle.coeff_walk.proofs.laws.Walks.{read_le}
use Rattle.coeff_group.specs.laws.Cells.{adds}
use Rattle.coeff_group.specs.laws.Reads.{End, ends, stops, Tells, joined}
use Rattle.one_to_one.specs.laws.Ways.{Way, before, work, answer_by}
use Rattle.one_to_one.proofs.laws.Ways.{way, same_said, did, outcome_by}
use Rattle.coeff_group.specs.Sequence.{read_cells}
use Rattle.one_to_one.specs.laws.SymbolsRead.{Tied, NeverAbove}

number_of : (a b : Said) → ◌≡◌ {A = Answer ℕ} (refuses a) (refuses b) → a.number ≡ b.number
number_of a b e = ap (λ (s : Said). s.number) (same_said a b e)

by_refusal : (L : Lent) (s : Said) → tells_read s.number ≡ false
    → ((symbols log : List ℕ) → length log ≡ length L.log → call (relent L symbols log) ≡ refuse (relent L symbols log) s) → Tied L
by_refusal L s t e =
    let c : call L ≡ refuse L s = e L.symbols L.log refl in
    record {
      clusters = [];
      each = sym (ap (λ (o : Outcome). symbols_read o.answer) c ∙ rw t);
      most = omega arith;
      there = omega arith;
      room = omega arith;
      none = λ m f. absurd (not_15 (number_of s (refusals.said_at 15 m 0) (sym (ap (λ (o : Outcome). o.answer) c) ∙ f)));
      logs = λ log l. e L.symbols log l ∙ ap (λ (o : Outcome). record { answer = o.answer; log = log; grids = o.grids }) (sym c);
    }
  where
    not_15 : s.number ≡ 15 → ⊥
    not_15 x = true≢false (sym (ap tells_read x) ∙ t)

-- what the end of a reading tells
module _ (its : List Item) (us : List ℕ) (k : ℕ) (dss : List (List ℕ)) where
  told_by : (e : End) → Tells its us k dss e → symbols_read (answer_by e k) ≡ k
  told_by (ends us' rows) t = refl
  told_by (stops why) (symbols_end w e) = rw w
  told_by (stops why) (count w h) = rw w
  told_by (stops why) (too_many_zeros w r) = rw w
  told_by (stops why) (count_remaining w r) = rw w

  there_by : (e : End) → Tells its us k dss e → k ≤ length us
  there_by (ends us' rows) t = omega (arith, t.read)
  there_by (stops why) (symbols_end w e) = omega arith
  there_by (stops why) (count w h) = h
  there_by (stops why) (too_many_zeros w r) = read_le us k r
  there_by (stops why) (count_remaining w r) = read_le us k r

  last_by : (e : End) → Tells its us k dss e → (n : ℕ) → answer_by e k ≡ refuses (refusals.said_at 15 n 0) → n ≡ length us
  last_by (ends us' rows) t n e = absurd (let z : ◌≡◌ {A = ℕ} 0 1 = cc in omega arith)
  last_by (stops why) (symbols_end w f) n e =
      let a : said (why k) ≡ refusals.said_at 15 n 0 = cc in
      let b : said (SymbolsEnd k) ≡ refusals.said_at 15 n 0 = rw w at a in
      let c : k ≡ n = ap (λ (s : Said). s.x) b in
      omega arith
  last_by (stops why) (count w h) n e =
      let a : refuses (said (Count k)) ≡ refuses (refusals.said_at 15 n 0) = rw w at e in
      let z : ◌≡◌ {A = ℕ} 16 15 = number_of (said (Count k)) (refusals.said_at 15 n 0) a in
      absurd (omega arith)
  last_by (stops why) (too_many_zeros w r) n e =
      let a : refuses (said (TooManyZeros k)) ≡ refuses (refusals.said_at 15 n 0) = rw w at e in
      let z : ◌≡◌ {A = ℕ} 17 15 = number_of (said (TooManyZeros k)) (refusals.said_at 15 n 0) a in
      absurd (omega arith)
  last_by (stops why) (count_remaining w r) n e =
      let a : refuses (said (CountRemaining k)) ≡ refuses (refusals.said_at 15 n 0) = rw w at e in
      let z : ◌≡◌ {A = ℕ} 24 15 = number_of (said (CountRemaining k)) (refusals.said_at 15 n 0) a in
      absurd (omega arith)

by_reading : (L : Lent) → Passed L → (preset : ℕ) → ((symbols log : List ℕ) → length log ≡ length L.log → call (relent L symbols log) ≡ outcome_of (reading (relent L symbols log) preset)) → Tied L
by_reading L passed preset e =
    let P = L.pass_group in
    let l = lengths_fit_lem L passed.lengths in
    let d = did L preset in
    let ks = d.clusters in
    let G = adds L.shift L.grids (read_cells (items_of P (varblocks P))) (joined d.dss) in
    let most : length ks ≤ 192 * blocks P =
    omega (arith, d.few, most_symbols P l.store ((layout_iff P.bw P.bh P.kinds P.hf_mul l.kinds l.hf_mul).0 passed.layout)) in
    let room : length ks ≤ length L.log = omega (arith, l.room) in
    let start : (log : List ℕ) → length log ≡ length L.log → call (with_log L log) ≡ record { answer = answer_by d.end (length ks); log = sets log 0 ks; grids = G } =
    λ log k. e L.symbols log k ∙ ap outcome_of (d.is log) ∙ outcome_by d.end (length ks) (sets log 0 ks) G in
    let a : (call L).answer ≡ answer_by d.end (length ks) = ap (λ (o : Outcome). o.answer) (start L.log refl) in
    let g : (call L).grids ≡ G = ap (λ (o : Outcome). o.grids) (start L.log refl) in
    record {
      clusters = ks;
      each = sym (ap symbols_read a ∙ told_by (items_of P (varblocks P)) L.symbols (length ks) d.dss d.end d.tells);
      most = most;
      there = there_by (items_of P (varblocks P)) L.symbols (length ks) d.dss d.end d.tells;
      room = room;
      none = λ k f. last_by (items_of P (varblocks P)) L.symbols (length ks) d.dss d.end d.tells k (sym a ∙ f);
      logs = λ log k. start log k ∙ rw (← a, ← g) (ap (λ (m : List ℕ). record { answer = (call L).answer; log = m; grids = (call L).grids }) (front log ks (omega arith)));
    }
  where
    front : (log ks : List ℕ) → length ks ≤ length log → sets log 0 ks ≡ ks ++ drop (length ks) log
    front log ks h = let z : 0 + length ks ≡ length ks = omega arith in sets-eq ks log 0 (omega arith) ∙ rw z

module _ (L : Lent) where
  by_way : Way L → Tied L
  by_way (before s t e) = by_refusal L s t e
  by_way (work passed preset e) = by_reading L passed preset e

  pub tied : Tied L
  tied = by_way (way L)

  -- the number of symbols read is never above 192 × blocks
  pub never_above : NeverAbove L
  never_above = let t = tied in let e = t.each in let m = t.most in omega arith

  -- nor above the symbols that there are
  pub never_more : symbols_read (call L).answer ≤ length L.symbols
  never_more = let t = tied in let e = t.each in let m = t.there in omega arith

  -- "symbols end" is said only with no symbol unread
  pub symbols_ended : (k : ℕ) → (call L).answer ≡ refuses (refusals.said_at 15 k 0) → k ≡ length L.symbols
  symbols_ended k e = tied.none k e

  -- the log is as long as before
  pub log_length : length (call L).log ≡ length L.log
  log_length =
      let t = tied in
      let m = t.room in
      let e : (call L).log ≡ t.clusters ++ drop (length t.clusters) L.log = ap (λ (o : Outcome). o.log) (t.logs L.log refl) in
      ap length e ∙ length-append t.clusters (drop (length t.clusters) L.log) ∙ omega (arith, length-drop (length t.clusters) L.log)

  -- log bytes behind the symbols read keep their contents
  pub later_kept : drop (symbols_read (call L).answer) (call L).log ≡ drop (symbols_read (call L).answer) L.log
  later_kept =
      let t = tied in
      rw (← t.each) (ap (λ (o : Outcome). drop (length t.clusters) o.log) (t.logs L.log refl) ∙ drop_at t.clusters (drop (length t.clusters) L.log) (length t.clusters) refl)

  -- one logged cluster for each symbol read: they are the log's first bytes, and what the log held before decides none of them, nor answer and grids
  pub one_each : (clusters : List ℕ) × (length clusters ≡ symbols_read (call L).answer)
      × ((log : List ℕ) → length log ≡ length L.log
      → call (with_log L log) ≡ record { answer = (call L).answer; log = clusters ++ drop (symbols_read (call L).answer) log; grids = (call L).grids })
  one_each = let t = tied in (t.clusters, t.each, λ log k. t.logs log k ∙ ap (λ (m : ℕ). record { answer = (call L).answer; log = t.clusters ++ drop m log; grids = (call L).grids }) t.each)
