-- The loop over the 39 lists.
use Rattle.std.specs.Prelude.{◌≡◌, refl, Bool, true, false, get_or, replicate, Result, Ok, Err, is_err}
use Rattle.std.proofs.Math.Path.{ap, ap₂, sym, fun_ext}
use Rattle.std.proofs.Common.{◌∙◌, not-suc-le-zero, le_of_suc-le-suc, add-one, drop_of_length-le, drop-cons, take_all}
use mathlib.Core.List.{List, [], ◌∷◌, ◌++◌, append_assoc, append-nil}
use Prim.Native.Nat.{ℕ, zero, suc, ◌+◌, ◌*◌, ◌-◌, ◌/◌, ◌%◌, ◌<◌, ◌≤◌}
use native.Mathlib.Omega.{arith}
use Rattle.std.proofs.Math.ListN.{length, take, drop, length-append, length-drop}
use Rattle.std.proofs.Math.Seq.{drop-drop, take_at, drop_at, length-take-le}
use Rattle.refusal.specs.declared.Refusal.{Refusal}
use Rattle.order_sizes.specs.declared.OrderSize.{OrderSize}
use Rattle.order_sizes.specs.BlockSizes.{BLOCK_SIZES, width_of, height_of}
use Rattle.order_sizes.specs.laws.BlockSizes.{block_size}
use Rattle.order_natural.specs.Places.{Place, flat}
use Rattle.order_natural.specs.Natural.{natural}
use Rattle.order_natural.proofs.laws.Sizes.{size_of}
use Rattle.order_natural.proofs.laws.Turns.{flat_length, natural_numbers}
use Rattle.order_natural.proofs.laws.Listing.{listing_length}
use Rattle.order_natural.specs.laws.Filling.{SizeKnown}
use Rattle.order_natural.proofs.laws.Filling.{size_known}
use Rattle.order_store.specs.Store.{stored, PLACES, first_of}
use Rattle.order_store.specs.laws.Offsets.{first_start, first_step, first_most, first_end, sizes_13, third, places_by}
use Rattle.order_naturals.specs.Naturals.{naturals}
use Rattle.order_naturals.specs.laws.Naturals.{whole_long}
use Rattle.order_call.specs.Orders.{FromSymbols, Given, Refused, and_then, Entry, entry, entry_list, lists, plan, is_used, orders, one_list, Stops}
use Rattle.order_call.specs.Call.{leaves, outcome_of}
use Rattle.order_call.specs.laws.Read.{Holds, OneGiven, EntryGiven}
use Rattle.order_call.proofs.laws.Read.{one_gives, holds_map, entry_gives}
use Rattle.order_call.proofs.laws.Accepted.{plan_at, plan_length, given}
use Rattle.order_call.specs.laws.Lists.{Listed}
use Rattle.order_call.specs.laws.Progress.{onward, Progress, list_of, AfterList, AllLists, with_next}

stored_append : (ls ms : List (List Place)) → stored (ls ++ ms) ≡ stored ls ++ stored ms
stored_append [] ms = refl
stored_append (l ∷ ls) ms = ap (λ (r : List ℕ). flat l ++ r) (stored_append ls ms) ∙ sym (append_assoc (flat l) (stored ls) (stored ms))

abbrev give : List (List Place) → List ℕ → ℕ → FromSymbols (List (List Place))
give ls us at = Given ls us at

then_more : (l : List Place) (r : FromSymbols (List (List Place))) (k : List (List Place) → List ℕ → ℕ → FromSymbols (List (List Place))) → and_then (and_then r (λ ls. Given (l ∷ ls))) k ≡ and_then r (λ ls. k (l ∷ ls))
then_more l (Given ls us at) k = refl
then_more l (Refused why) k = refl

module _ (e : Entry) (es : List Entry) (done : List (List Place)) (us : List ℕ) (at : ℕ) where
  onward_step : (l : List Place) (vs : List ℕ) (m : ℕ) → entry_list e.used e.width e.height us at ≡ Given l vs m → onward (e ∷ es) done us at ≡ onward es (done ++ (l ∷ [])) vs m
  unfolding onward
  onward_step l vs m g =
      rw g
      (then_more l (lists es vs m) (λ ls. Given (done ++ ls))
      ∙ ap (λ (k : List (List Place) → List ℕ → ℕ → FromSymbols (List (List Place))). and_then (lists es vs m) k)
      (fun_ext (λ ls. ap give (sym (append_assoc done (l ∷ []) ls)))))

  onward_stop : (why : Refusal) → entry_list e.used e.width e.height us at ≡ Refused why → onward (e ∷ es) done us at ≡ Refused why
  unfolding onward
  onward_stop why g = rw g

onward_start : (used : ℕ) (us : List ℕ) → onward (plan used 0 BLOCK_SIZES) [] us 0 ≡ orders used us
unfolding onward orders
onward_start used us = go (lists (plan used 0 BLOCK_SIZES) us 0)
  where
    go : (r : FromSymbols (List (List Place))) → and_then r (λ ls. Given ls) ≡ r
    go (Given ls us at) = refl
    go (Refused why) = refl

onward_end : (done : List (List Place)) (us : List ℕ) (at : ℕ) → onward [] done us at ≡ Given done us at
unfolding onward
onward_end done us at = ap (λ (ls : List (List Place)). give ls us at) (append-nil done)

entry_at : (used i : ℕ) → i < 39 → drop i (plan used 0 BLOCK_SIZES) ≡ entry (is_used used (i / 3)) (get_or BLOCK_SIZES (i / 3) (0, 0)) ∷ drop (i + 1) (plan used 0 BLOCK_SIZES)
entry_at used i h =
    let d : Entry = entry false (0, 0) in
    let n = plan_length used 0 BLOCK_SIZES in
    let e : get_or (plan used 0 BLOCK_SIZES) i d ≡ entry (is_used used (i / 3)) (get_or BLOCK_SIZES (i / 3) (0, 0)) =
    ap (λ (j : ℕ). get_or (plan used 0 BLOCK_SIZES) j d) (sym (third i)) ∙ plan_at used BLOCK_SIZES (i / 3) (i % 3) d (omega (arith, sizes_13)) (omega arith) in
    drop-cons (plan used 0 BLOCK_SIZES) i d (omega (arith, sizes_13))
    ∙ ap₂ (λ (a : Entry) (j : ℕ). a ∷ drop j (plan used 0 BLOCK_SIZES)) e (sym (add-one i))

-- the natural orders still there
naturals_length : (ss : List Place) → length (naturals ss) ≡ 3 * length ss
naturals_length [] = refl
naturals_length (s ∷ ss) = let r = naturals_length ss in omega arith

naturals_at : (ss : List Place) (k c : ℕ) → k < length ss → c < 3 → get_or (naturals ss) (3 * k + c) [] ≡ natural (get_or ss k (0, 0)).0 (get_or ss k (0, 0)).1
naturals_at [] k c h l = absurd (not-suc-le-zero h)
naturals_at (s ∷ ss) zero zero h l = refl
naturals_at (s ∷ ss) zero (suc zero) h l = refl
naturals_at (s ∷ ss) zero (suc (suc zero)) h l = refl
naturals_at (s ∷ ss) zero (suc (suc (suc c))) h l = absurd (omega arith)
naturals_at (s ∷ ss) (suc k) c h l =
    let i : 3 * suc k + c ≡ suc (suc (suc (3 * k + c))) = omega arith in
    rw i (naturals_at ss k c (le_of_suc-le-suc h) l)

natural_at : (i : ℕ) → i < 39 → drop i (naturals BLOCK_SIZES) ≡ natural (width_of (i / 3)) (height_of (i / 3)) ∷ drop (i + 1) (naturals BLOCK_SIZES)
unfolding width_of height_of
natural_at i h =
    let e : get_or (naturals BLOCK_SIZES) i [] ≡ natural (width_of (i / 3)) (height_of (i / 3)) =
    ap (λ (j : ℕ). get_or (naturals BLOCK_SIZES) j []) (sym (third i)) ∙ naturals_at BLOCK_SIZES (i / 3) (i % 3) (omega (arith, sizes_13)) (omega arith) in
    drop-cons (naturals BLOCK_SIZES) i [] (omega (arith, naturals_length BLOCK_SIZES, sizes_13))
    ∙ ap₂ (λ (a : List Place) (j : ℕ). a ∷ drop j (naturals BLOCK_SIZES)) e (sym (add-one i))

pub progress_start : (used : ℕ) (symbols store : List ℕ) → store ≡ stored (naturals BLOCK_SIZES) → Progress used symbols store 0 0
progress_start used symbols store e =
    record {
      done = [];
      fewer = omega arith;
      within = omega arith;
      size = ap length e ∙ whole_long;
      behind = rw first_start;
      ahead = rw first_start e;
      due = onward_start used symbols;
    }

-- what a list leaves of the symbols
abbrev Rest : List ℕ → ℕ → List Place → List ℕ → ℕ → Type 0
Rest us at l vs m = (at ≤ m) × (m ≤ at + length us) × (vs ≡ drop (m - at) us)

list_rest : (used : Bool) (width height : ℕ) (us : List ℕ) (at : ℕ) → Holds (Rest us at) (Stops at (at + length us)) (entry_list used width height us at)
list_rest true width height us at = holds_map (OneGiven width height us at) (Rest us at) (Stops at (at + length us)) (one_list width height us at) of_one (one_gives width height us at)
  where
    of_one : (l : List Place) (vs : List ℕ) (m : ℕ) → OneGiven width height us at l vs m → Rest us at l vs m
    of_one l vs m g =
        let s = g.symbols in
        let n : m - at ≡ suc (length g.chose) = omega (arith, g.read) in
        let k : length us ≡ suc (length g.chose + length vs) = ap length s ∙ ap suc (length-append g.chose vs) in
        (omega (arith, g.read), omega (arith, g.read), rw (n, s) (sym (drop_at g.chose vs (length g.chose) refl)))
list_rest false width height us at = let z : at - at ≡ 0 = omega arith in (omega arith, omega arith, rw z)

-- what an answer says of the reading
given_of : (r : FromSymbols (List Place)) (n : ℕ) (f : List ℕ) → Listed r (Ok n) f → (l : List Place) × (vs : List ℕ) × (r ≡ Given l vs n) × (f ≡ flat l)
given_of (Given l vs m) n f o = let e : n ≡ m = cc o.0 in (l, vs, rw e, o.1)
given_of (Refused why) n f o = absurd (let z : ◌≡◌ {A = ℕ} 0 1 = cc in omega arith)

refused_of : (r : FromSymbols (List Place)) (why : Refusal) (f : List ℕ) → Listed r (Err why) f → r ≡ Refused why
refused_of (Given l vs m) why f o = absurd (let z : ◌≡◌ {A = ℕ} 0 1 = cc in omega arith)
refused_of (Refused w) why f o = let e : why ≡ w = cc in rw e

-- the orders are given
pub all_read : (used : ℕ) (symbols store : List ℕ) (t : Result ℕ Refusal) → AllLists used symbols store t → is_err t ≡ false → leaves t store ≡ outcome_of (orders used symbols)
all_read used symbols store (Ok n) a r = a
all_read used symbols store (Err why) a r = absurd (let z : ◌≡◌ {A = ℕ} 0 1 = cc in omega arith)

-- or refused, and the store is zero
pub all_refused : (used : ℕ) (symbols store zeros : List ℕ) (n : ℕ) (t : Result ℕ Refusal) → AllLists used symbols store t → is_err t ≡ true → zeros ≡ replicate n 0 → n ≡ 787968 → leaves t zeros ≡ outcome_of (orders used symbols)
all_refused used symbols store zeros n (Ok k) a r z m = absurd (let x : ◌≡◌ {A = ℕ} 0 1 = cc in omega arith)
all_refused used symbols store zeros n (Err why) a r z m = let m' : n ≡ 2 * PLACES = m ∙ sym places_by in rw (a, z, m')

-- a list in the code's numbers
module _ (used : ℕ) (symbols store : List ℕ) (i at : ℕ) (p : Progress used symbols store i at) (h : i < 39) (s : OrderSize) (e : s ≡ block_size (i / 3)) (first : ℕ) (b : first ≡ first_of i) where
  pub record ListAt : Type 0 where
    pub next : first + 2 * (s.width * s.height) ≡ first_of (i + 1)
    pub room : first + 2 * (s.width * s.height) ≤ 787968
    pub size : SizeKnown s
    pub part : take (first + 2 * (s.width * s.height) - first) (drop first store) ≡ flat (natural s.width s.height)

  pub list_at : ListAt
  list_at =
      let w = width_of (i / 3) in
      let v = height_of (i / 3) in
      let n : first + 2 * (s.width * s.height) ≡ first_of (i + 1) = rw (e, b) (sym (first_step i h)) in
      let z : first + 2 * (w * v) - first ≡ 2 * (w * v) = omega arith in
      let q : take (2 * (w * v)) (drop (first_of i) store) ≡ flat (natural w v) =
      ap (take (2 * (w * v))) (p.ahead ∙ ap stored (natural_at i h)) ∙ take_at (flat (natural w v)) (stored (drop (i + 1) (naturals BLOCK_SIZES))) (2 * (w * v)) (natural_numbers w v (size_of (i / 3) (omega arith))) in
      record {
        next = n;
        room = omega (arith, first_most (i + 1) (omega arith));
        size = size_known (i / 3) s e (omega arith);
        part = rw (e, z, b) q;
      }

  due_now : onward (entry (is_used used (i / 3)) (get_or BLOCK_SIZES (i / 3) (0, 0)) ∷ drop (i + 1) (plan used 0 BLOCK_SIZES)) p.done (drop at symbols) at ≡ orders used symbols
  due_now = rw (entry_at used i h) at p.due

  -- list i as the code reads it
  abbrev Reads : Result ℕ Refusal → List ℕ → Type 0
  Reads t part = Listed (entry_list (is_used used (i / 3)) s.width s.height (drop at symbols) at) t part

  progress_stop : (why : Refusal) (part : List ℕ) → Reads (Err why) part → orders used symbols ≡ Refused why
  unfolding width_of height_of
  progress_stop why part o =
      let o' : Listed (list_of used symbols i at) (Err why) part = rw e at o in
      sym due_now ∙ onward_stop (entry (is_used used (i / 3)) (get_or BLOCK_SIZES (i / 3) (0, 0))) (drop (i + 1) (plan used 0 BLOCK_SIZES)) p.done (drop at symbols) at why
      (refused_of (list_of used symbols i at) why part o')

  progress_turn : (n : ℕ) (part next : List ℕ) → Reads (Ok n) part
      → next ≡ take first store ++ (part ++ drop (first + 2 * (s.width * s.height) - first) (drop first store)) → Progress used symbols next (i + 1) n
  unfolding width_of height_of
  progress_turn n part next o w =
      let k = i / 3 in
      let m = 2 * (width_of k * height_of k) in
      let us = drop at symbols in
      let o' : Listed (list_of used symbols i at) (Ok n) part = rw e at o in
      let (l, vs, g, f) = given_of (list_of used symbols i at) n part o' in
      let rest = given (Rest us at) (Stops at (at + length us)) (list_of used symbols i at) l vs n g (list_rest (is_used used k) (width_of k) (height_of k) us at) in
      let all = given (EntryGiven (is_used used k) (width_of k) (height_of k) at (at + length us)) (Stops at (at + length us)) (list_of used symbols i at) l vs n g (entry_gives (is_used used k) (width_of k) (height_of k) (size_of k (omega arith)) us at) in
      let lp : length part ≡ m = ap length f ∙ flat_length l ∙ ap (λ (j : ℕ). 2 * j) (listing_length (width_of k) (height_of k) l all.0.order.cells) in
      let ls = length-drop at symbols in
      let y : at + (n - at) ≡ n = omega (arith, rest.0) in
      let v : vs ≡ drop n symbols = rest.2 ∙ drop-drop (n - at) at symbols ∙ ap (λ (j : ℕ). drop j symbols) y in
      let s₁ = first_step i h in
      let m₁ = first_most i p.fewer in
      let m₂ = first_most (i + 1) (omega arith) in
      let z : first + m - first ≡ m = omega arith in
      let a = take (first_of i) store in
      let d = drop m (drop (first_of i) store) in
      let w' : next ≡ (a ++ part) ++ d = w ∙ rw (e, z, b) (sym (append_assoc a part d)) in
      let la : length a ≡ first_of i = length-take-le (first_of i) store (omega (arith, p.size)) in
      let lb : length (a ++ part) ≡ first_of (i + 1) = length-append a part ∙ omega arith in
      let nl : length (flat (natural (width_of k) (height_of k))) ≡ m = natural_numbers (width_of k) (height_of k) (size_of k (omega arith)) in
      let q : d ≡ stored (drop (i + 1) (naturals BLOCK_SIZES)) =
      ap (drop m) (p.ahead ∙ ap stored (natural_at i h)) ∙ drop_at (flat (natural (width_of k) (height_of k))) (stored (drop (i + 1) (naturals BLOCK_SIZES))) m nl in
      record {
        done = p.done ++ (l ∷ []);
        fewer = omega arith;
        within = omega (arith, rest.1, p.within);
        size = ap length w' ∙ length-append (a ++ part) d ∙ omega (arith, length-drop m (drop (first_of i) store), length-drop (first_of i) store, p.size);
        behind = ap (take (first_of (i + 1))) w' ∙ take_at (a ++ part) d (first_of (i + 1)) lb
            ∙ ap₂ (λ (x y : List ℕ). x ++ y) p.behind (f ∙ sym (append-nil (flat l))) ∙ sym (stored_append p.done (l ∷ []));
        ahead = ap (drop (first_of (i + 1))) w' ∙ drop_at (a ++ part) d (first_of (i + 1)) lb ∙ q;
        due = rw (← v) (sym (onward_step (entry (is_used used k) (get_or BLOCK_SIZES k (0, 0))) (drop (i + 1) (plan used 0 BLOCK_SIZES)) p.done us at l vs n g) ∙ due_now);
      }

  -- list i is read
  pub list_read : (u : Bool) (n : ℕ) (part next : List ℕ) → u ≡ is_used used (i / 3) → Listed (entry_list u s.width s.height (drop at symbols) at) (Ok n) part
      → next ≡ take first store ++ (part ++ drop (first + 2 * (s.width * s.height) - first) (drop first store)) → AfterList used symbols next i (Ok (n, first + 2 * (s.width * s.height)))
  list_read u n part next eu o w = (progress_turn n part next (rw eu at o) w, list_at.next)

  -- or refused
  pub list_refused : (u : Bool) (why : Refusal) (part next : List ℕ) → u ≡ is_used used (i / 3) → Listed (entry_list u s.width s.height (drop at symbols) at) (Err why) part
      → AfterList used symbols next i (Err why)
  list_refused u why part next eu o = progress_stop why part (rw eu at o)

  -- either
  pub after_list : (u : Bool) (t : Result ℕ Refusal) (part next : List ℕ) → u ≡ is_used used (i / 3) → Listed (entry_list u s.width s.height (drop at symbols) at) t part
      → next ≡ take first store ++ (part ++ drop (first + 2 * (s.width * s.height) - first) (drop first store)) → AfterList used symbols next i (with_next t (first + 2 * (s.width * s.height)))
  after_list u (Ok n) part next eu o w = list_read u n part next eu o w
  after_list u (Err why) part next eu o w = list_refused u why part next eu o

module _ (used : ℕ) (symbols store : List ℕ) (i : ℕ) where
  pub after_read : (n e : ℕ) → AfterList used symbols store i (Ok (n, e)) → Progress used symbols store (i + 1) n × (e ≡ first_of (i + 1))
  after_read n e a = a

  -- a refusal and a store of zeros
  pub after_refused : (why : Refusal) (zeros : List ℕ) (n : ℕ) → AfterList used symbols store i (Err why) → zeros ≡ replicate n 0 → n ≡ 787968 → leaves (Err why) zeros ≡ outcome_of (orders used symbols)
  after_refused why zeros n a z m = all_refused used symbols store zeros n (Err why) a refl z m

pub progress_end : (used : ℕ) (symbols store : List ℕ) (i at : ℕ) → Progress used symbols store i at → 39 ≤ i → leaves (Ok at) store ≡ outcome_of (orders used symbols)
progress_end used symbols store i at p h =
    let j : i ≡ 39 = omega (arith, p.fewer) in
    let z : drop i (plan used 0 BLOCK_SIZES) ≡ [] = let k : length (plan used 0 BLOCK_SIZES) ≤ i = omega (arith, plan_length used 0 BLOCK_SIZES, sizes_13) in drop_of_length-le (plan used 0 BLOCK_SIZES) k in
    let e : orders used symbols ≡ Given p.done (drop at symbols) at = sym p.due ∙ rw z (onward_end p.done (drop at symbols) at) in
    let s : store ≡ stored p.done = sym (take_all (first_of 39) store (omega (arith, p.size, first_end))) ∙ ap (λ (k : ℕ). take (first_of k) store) (sym j) ∙ p.behind in
    rw (e, ← s)
