-- The columns of an accepted layout call (document 01, Layout and filter strength): a free block takes the next column, surplus columns
-- decide nothing.
use Rattle.std.specs.Prelude.{◌≡◌, Bool, false, ◌&&◌, ◌⊎◌, leb, length, get_or, take}
use Rattle.std.proofs.Math.Path.{refl, ap}
use Rattle.std.proofs.Common.{sym, ◌∙◌, inr, arith, length-take, take-suc, get_or-take, length-take-le}
use Rattle.std.proofs.Math.Bool.{true, cond}
use Rattle.std.proofs.Math.Logic.{inl}
use mathlib.Core.List.{List, [], ◌∷◌, ◌++◌, map}
use Prim.Native.Nat.{ℕ, zero, suc, ◌+◌, ◌*◌, ◌-◌, ◌≤◌, ◌<◌, min}
use Rattle.std.proofs.Math.Dec.{eqb}
use Rattle.std.proofs.lemmas.List.{length-map}
use borrow.Author.Tests.{le-leb, lt-leb, lt-ltb, eqb-false, eq-eqb}
use Rattle.laws.specs.laws.Cases.{eq_or_ne, le_or_lt}
use Rattle.dct_select.specs.Transforms.{wide, high}
use Rattle.layout.proofs.laws.RowByRow.{beside}
use Rattle.layout.specs.Grid.{block_at}
use Rattle.layout.specs.Valid.{Cells}
use Rattle.layout.specs.RowByRow.{Before}
use Rattle.layout.specs.laws.Order.{Here, From}
use Rattle.layout.proofs.laws.Order.{from_start}
use Rattle.layout.specs.Varblocks.{Varblock, add_varblock, corners_row, corners_from, varblocks_of}
use Rattle.layout_column.specs.Columns.{hf_mul_of}
use Rattle.layout_placing.specs.Reading.{Job, Placed, Placing, Going, Stopped, next_type, next_hf_mul, column, visit, start, reading}
use Rattle.refusal.specs.Answer.{gives}
use Rattle.layout_call.specs.Call.{outcome_of, Inputs, job_of, all_lengths_fit, layout_of}
use Rattle.layout_sizes.proofs.laws.Counts.{counts}
use Rattle.layout_accepted.specs.laws.Puts.{Column, Spot, corner, body, beyond}
use Rattle.layout_accepted.proofs.laws.Puts.{spot, column_put}
use Rattle.layout_accepted.specs.Refused.{Sofar}
use Rattle.layout_accepted.proofs.laws.Accepted.{passing, placing, turned, blank, begun, along}
use Rattle.layout_accepted.specs.Outcome.{bh_of, bw_of, varblocks_left, with_columns}
use Rattle.layout_accepted.proofs.laws.Theorems.{works, Read, accepted_read}
use Rattle.layout_accepted.specs.laws.Columns.{AcceptedSurplus, AcceptedMuls}

-- One corner more, behind all others.
add_append : (b : Bool) (v : Varblock) (l m : List Varblock) → add_varblock b v (l ++ m) ≡ add_varblock b v l ++ m
add_append true v l m = refl
add_append false v l m = refl

module _ (K M : Cells) where
  row_append : (n a b : ℕ) (l m : List Varblock) → corners_row K M n a b (l ++ m) ≡ corners_row K M n a b l ++ m
  unfolding corners_row
  row_append zero a b l m = refl
  row_append (suc n) a b l m =
      ap (add_varblock (leb 2 (K a b)) (record { x = a; y = b; type = K a b - 2; hf_mul = M a b })) (row_append n (a + 1) b l m)
      ∙ add_append (leb 2 (K a b)) (record { x = a; y = b; type = K a b - 2; hf_mul = M a b }) (corners_row K M n (a + 1) b l) m

-- no corner from (x, y) on
module _ (bw bh x y : ℕ) (K M : Cells) (none : (a b : ℕ) → a < bw → b < bh → From x y a b → K a b < 2) where
  onwards : (a b : ℕ) → From x y a b → From x y (a + 1) b
  onwards a b (inl h) = inl h
  onwards a b (inr h) = inr (h.0, omega arith)

  row_none : (n a b : ℕ) (l : List Varblock) → a + n ≤ bw → b < bh → From x y a b → corners_row K M n a b l ≡ l
  unfolding corners_row
  row_none zero a b l i j f = refl
  row_none (suc n) a b l i j f = rw (lt-leb 2 (K a b) (none a b (omega arith) j f)) (row_none n (a + 1) b l (omega arith) j (onwards a b f))

  rows_none : (n b : ℕ) → b + n ≤ bh → From x y 0 b → corners_from K M bw n b ≡ []
  unfolding corners_from
  rows_none zero b j f = refl
  rows_none (suc n) b j f = row_none bw 0 b (corners_from K M bw n (b + 1)) (omega arith) (omega arith) f ∙ rows_none n (b + 1) (omega arith) (below f)
    where
      below : From x y 0 b → From x y 0 (b + 1)
      below (inl h) = inl (omega arith)
      below (inr h) = inl (omega arith)

module _ (bw bh x y : ℕ) (hx : x < bw) (hy : y < bh) (K M K' M' : Cells)
    (none : (a b : ℕ) → a < bw → b < bh → From x y a b → K a b < 2)
    (new : 2 ≤ K' x y)
    (same : (a b : ℕ) → a < bw → b < bh → (Here x y a b → ⊥) → (l : List Varblock)
    → add_varblock (leb 2 (K' a b)) (record { x = a; y = b; type = K' a b - 2; hf_mul = M' a b }) l ≡ add_varblock (leb 2 (K a b)) (record { x = a; y = b; type = K a b - 2; hf_mul = M a b }) l) where
  abbrev one : Varblock
  one = record { x = x; y = y; type = K' x y - 2; hf_mul = M' x y }

  row_same : (n a b : ℕ) (l : List Varblock) → a + n ≤ bw → b < bh → (b ≡ y → x < a) → corners_row K' M' n a b l ≡ corners_row K M n a b l
  unfolding corners_row
  row_same zero a b l i j f = refl
  row_same (suc n) a b l i j f =
      same a b (omega arith) j (λ h. let z = f h.1 in let w = h.0 in omega arith) (corners_row K' M' n (a + 1) b l)
      ∙ ap (add_varblock (leb 2 (K a b)) (record { x = a; y = b; type = K a b - 2; hf_mul = M a b })) (row_same n (a + 1) b l (omega arith) j (λ e. let z = f e in omega arith))

  rows_same : (n b : ℕ) → b + n ≤ bh → y < b → corners_from K' M' bw n b ≡ corners_from K M bw n b
  unfolding corners_from
  rows_same zero b j f = refl
  rows_same (suc n) b j f =
      row_same bw 0 b (corners_from K' M' bw n (b + 1)) (omega arith) (omega arith) (λ e. absurd (omega arith))
      ∙ ap (corners_row K M bw 0 b) (rows_same n (b + 1) (omega arith) (omega arith))

  row_new : (n a : ℕ) → a ≤ x → x < a + n → a + n ≤ bw → corners_row K' M' n a y [] ≡ corners_row K M n a y [] ++ (one ∷ [])
  unfolding corners_row
  row_new zero a f g i = absurd (omega arith)
  row_new (suc n) a f g i = go (eq_or_ne a x) (λ p q. row_new n (a + 1) p q (omega arith))
    where
      go : (a ≡ x) ⊎ (a ≡ x → ⊥) → (a + 1 ≤ x → x < a + 1 + n → corners_row K' M' n (a + 1) y [] ≡ corners_row K M n (a + 1) y [] ++ (one ∷ []))
          → add_varblock (leb 2 (K' a y)) (record { x = a; y = y; type = K' a y - 2; hf_mul = M' a y }) (corners_row K' M' n (a + 1) y [])
          ≡ add_varblock (leb 2 (K a y)) (record { x = a; y = y; type = K a y - 2; hf_mul = M a y }) (corners_row K M n (a + 1) y []) ++ (one ∷ [])
      go (inl e) ih =
          let s = row_same n (x + 1) y [] (omega arith) hy (λ e. omega arith) ∙ row_none bw bh x y K M none n (x + 1) y [] (omega arith) hy (inr (refl, omega arith)) in
          let r = row_none bw bh x y K M none n (x + 1) y [] (omega arith) hy (inr (refl, omega arith)) in
          rw (e, le-leb 2 (K' x y) new, lt-leb 2 (K x y) (none x y hx hy (inr (refl, omega arith))), s, r)
      go (inr d) ih =
          same a y (omega arith) hy (λ h. d h.0) (corners_row K' M' n (a + 1) y [])
          ∙ ap (add_varblock (leb 2 (K a y)) (record { x = a; y = y; type = K a y - 2; hf_mul = M a y })) (ih (omega arith) (omega arith))
          ∙ add_append (leb 2 (K a y)) (record { x = a; y = y; type = K a y - 2; hf_mul = M a y }) (corners_row K M n (a + 1) y []) (one ∷ [])

  rows_new : (n b : ℕ) → b ≤ y → y < b + n → b + n ≤ bh → corners_from K' M' bw n b ≡ corners_from K M bw n b ++ (one ∷ [])
  unfolding corners_from
  rows_new zero b f g j = absurd (omega arith)
  rows_new (suc n) b f g j = go (eq_or_ne b y) (λ p q. rows_new n (b + 1) p q (omega arith))
    where
      go : (b ≡ y) ⊎ (b ≡ y → ⊥) → (b + 1 ≤ y → y < b + 1 + n → corners_from K' M' bw n (b + 1) ≡ corners_from K M bw n (b + 1) ++ (one ∷ []))
          → corners_row K' M' bw 0 b (corners_from K' M' bw n (b + 1)) ≡ corners_row K M bw 0 b (corners_from K M bw n (b + 1)) ++ (one ∷ [])
      go (inl e) ih =
          let r = rows_none bw bh x y K M none n (y + 1) (omega arith) (inl (omega arith)) in
          let s = rows_same n (y + 1) (omega arith) (omega arith) ∙ r in
          rw (e, s, r) (row_new bw 0 (omega arith) (omega arith) (omega arith))
      go (inr d) ih =
          row_same bw 0 b (corners_from K' M' bw n (b + 1)) (omega arith) (omega arith) (λ e. absurd (d e))
          ∙ ap (corners_row K M bw 0 b) (ih (omega arith) (omega arith))
          ∙ row_append K M bw 0 b (corners_from K M bw n (b + 1)) (one ∷ [])

map_last : {A : Type 0} (f : A → ℕ) (l : List A) (v : A) → map f (l ++ (v ∷ [])) ≡ map f l ++ (f v ∷ [])
map_last f [] v = refl
map_last f (u ∷ l) v = ap (λ (k : List ℕ). f u ∷ k) (map_last f l v)

-- A column placed.
module _ (J : Job) (pairs : length J.muls ≡ length J.types) where
  abbrev pub varblocks : Placed → List Varblock
  varblocks p = varblocks_of J.bw J.bh p.kinds p.hf_mul

  -- the varblocks are those of the columns used so far
  pub record InTurn (p : Placed) : Type 0 where
    pub enough : p.used ≤ length J.types
    pub types_are : map (λ (v : Varblock). v.type) (varblocks p) ≡ take p.used J.types
    pub muls_are : map (λ (v : Varblock). v.hf_mul) (varblocks p) ≡ map hf_mul_of (take p.used J.muls)

  begin : InTurn (start J)
  begin = record { enough = omega arith; types_are = ap (map (λ (v : Varblock). v.type)) nothing; muls_are = ap (map (λ (v : Varblock). v.hf_mul)) nothing }
    where
      nothing : varblocks (start J) ≡ []
      nothing = rows_none J.bw J.bh 0 0 (block_at (start J).kinds J.bw) (block_at (start J).hf_mul J.bw) (λ a b i j f. let z = blank J a b i j in omega arith) J.bh 0 (omega arith) (from_start 0 0)

  module _ (x y : ℕ) (p q : Placed) (hx : x < J.bw) (hy : y < J.bh) (more : p.used < length J.types) (o : Sofar J x y p) where
    abbrev type : ℕ
    type = next_type J p

    abbrev hf_mul : ℕ
    hf_mul = next_hf_mul J p

    module _ (c : Column J x y p q type hf_mul) (r : InTurn p) where
      no_corner : (a b : ℕ) → a < J.bw → b < J.bh → From x y a b → block_at p.kinds J.bw a b < 2
      no_corner a b i j f = go (le_or_lt 2 (block_at p.kinds J.bw a b))
        where
          not : Before a b x y → From x y a b → ⊥
          not (inl g) (inl h) = omega arith
          not (inl g) (inr h) = omega arith
          not (inr g) (inl h) = omega arith
          not (inr g) (inr h) = omega arith

          go : (2 ≤ block_at p.kinds J.bw a b) ⊎ (block_at p.kinds J.bw a b < 2) → block_at p.kinds J.bw a b < 2
          go (inl k) = absurd (not (o.behind a b i j k) f)
          go (inr k) = k

      alike : (a b : ℕ) → a < J.bw → b < J.bh → (Here x y a b → ⊥) → (l : List Varblock)
          → add_varblock (leb 2 (block_at q.kinds J.bw a b)) (record { x = a; y = b; type = block_at q.kinds J.bw a b - 2; hf_mul = block_at q.hf_mul J.bw a b }) l
          ≡ add_varblock (leb 2 (block_at p.kinds J.bw a b)) (record { x = a; y = b; type = block_at p.kinds J.bw a b - 2; hf_mul = block_at p.hf_mul J.bw a b }) l
      alike a b i j n l = go (spot x y (wide type) (high type) a b)
        where
          go : Spot x y (wide type) (high type) a b
              → add_varblock (leb 2 (block_at q.kinds J.bw a b)) (record { x = a; y = b; type = block_at q.kinds J.bw a b - 2; hf_mul = block_at q.hf_mul J.bw a b }) l
              ≡ add_varblock (leb 2 (block_at p.kinds J.bw a b)) (record { x = a; y = b; type = block_at p.kinds J.bw a b - 2; hf_mul = block_at p.hf_mul J.bw a b }) l
          go (corner m) = absurd (n m)
          go (body m k) =
              let u : block_at q.kinds J.bw a b < 2 = let z = c.puts.in_body a b m k in omega arith in
              let w : block_at p.kinds J.bw a b < 2 = let z = c.free a b k in omega arith in
              rw (lt-leb 2 (block_at q.kinds J.bw a b) u, lt-leb 2 (block_at p.kinds J.bw a b) w)
          go (beyond m) = rw (c.puts.elsewhere a b i m, c.puts.hf_mul_other a b i n)

      grown : varblocks q ≡ varblocks p ++ (record { x = x; y = y; type = block_at q.kinds J.bw x y - 2; hf_mul = block_at q.hf_mul J.bw x y } ∷ [])
      grown =
          rows_new J.bw J.bh x y hx hy (block_at p.kinds J.bw) (block_at p.hf_mul J.bw) (block_at q.kinds J.bw) (block_at q.hf_mul J.bw) no_corner (let z = c.puts.at_corner in omega arith) alike J.bh 0
          (omega arith) (omega arith) (omega arith)

      next : q.used ≡ suc p.used
      next = let z = c.used_is in omega arith

      placed_in_turn : InTurn q
      placed_in_turn = record {
        enough = let z = c.used_is in omega arith;
        types_are =
            ap (map (λ (v : Varblock). v.type)) grown ∙ map_last (λ (v : Varblock). v.type) (varblocks p) _
            ∙ ap (λ (n : ℕ). map (λ (v : Varblock). v.type) (varblocks p) ++ (n ∷ [])) type_is ∙ ap (λ (l : List ℕ). l ++ (type ∷ [])) r.types_are
            ∙ sym (ap (λ (n : ℕ). take n J.types) next ∙ take-suc J.types p.used 0 more);
        muls_are =
            ap (map (λ (v : Varblock). v.hf_mul)) grown ∙ map_last (λ (v : Varblock). v.hf_mul) (varblocks p) _
            ∙ ap (λ (n : ℕ). map (λ (v : Varblock). v.hf_mul) (varblocks p) ++ (n ∷ [])) c.puts.hf_mul_corner ∙ ap (λ (l : List ℕ). l ++ (hf_mul ∷ [])) r.muls_are
            ∙ sym (ap (λ (n : ℕ). map hf_mul_of (take n J.muls)) next ∙ ap (map hf_mul_of) (take-suc J.muls p.used 0 (omega arith)) ∙ map_last hf_mul_of (take p.used J.muls) (get_or J.muls p.used 0));
      }
        where
          type_is : block_at q.kinds J.bw x y - 2 ≡ type
          type_is = let z = c.puts.at_corner in omega arith

-- the varblocks of a reading that was not stopped are those of its columns in turn
pub read_in_turn : (J : Job) (pairs : length J.muls ≡ length J.types) (p : Placed) → reading J ≡ Going p → InTurn J pairs p
read_in_turn J pairs p e = (along J (InTurn J pairs) (begin J pairs) (λ x y q q' hx hy u o c r. placed_in_turn J pairs x y q q' hx hy u o c r) p e).1

-- Other columns behind the first n.
module _ (J : Job) (n : ℕ) (types muls : List ℕ) (long : n ≤ length types) (same_types : take n types ≡ take n J.types) (same_muls : take n muls ≡ take n J.muls) where
  abbrev other : Job
  other = record { bw = J.bw; bh = J.bh; types = types; muls = muls; sharpness = J.sharpness; filter = J.filter; lookups = J.lookups }

  entry : (l m : List ℕ) (k : ℕ) → take n l ≡ take n m → k < n → get_or l k 0 ≡ get_or m k 0
  entry l m k e h = sym (get_or-take n l k 0 h) ∙ ap (λ (z : List ℕ). get_or z k 0) e ∙ get_or-take n m k 0 h

  column_same : (x y : ℕ) (p : Placed) → p.used < n → p.used < length J.types → column other x y p ≡ column J x y p
  unfolding column
  column_same x y p h l =
      rw (lt-ltb p.used (length types) (omega arith), lt-ltb p.used (length J.types) l, entry types J.types p.used same_types h, entry muls J.muls p.used same_muls h)

  -- the two readings are at one, up to n columns
  Beside : ℕ → ℕ → Placing → Placing → Type 0
  Beside x y (Going p) r = Sofar J x y p × (p.used ≤ n → r ≡ Going p)
  Beside x y (Stopped m s) r = Unit

  step : (x y : ℕ) (s r : Placing) → x < J.bw → y < J.bh → Beside x y s r → Beside (x + 1) y (visit J x y s) (visit other x y r)
  unfolding Beside
  step x y (Stopped m s) r hx hy q = tt
  step x y (Going p) r hx hy q = go (eqb (block_at p.kinds J.bw x y) 0) refl
    where
      col : eqb (block_at p.kinds J.bw x y) 0 ≡ true → (s : Placing) → column J x y p ≡ s → Beside (x + 1) y s (visit other x y r)
      col e (Stopped m s) f = tt
      col e (Going p') f =
          let c = column_put J x y p p' q.0.length_k q.0.length_m hx hy f in
          let u = c.0.used_is in (
            placing J x y _ _ p p' c.0 q.0,
            λ l. ap (visit other x y) (q.1 (omega arith)) ∙ ap (λ (b : Bool). cond b (column other x y p) (Going p)) e ∙ column_same x y p (omega arith) c.1 ∙ f,
          )

      go : (b : Bool) → eqb (block_at p.kinds J.bw x y) 0 ≡ b → Beside (x + 1) y (cond b (column J x y p) (Going p)) (visit other x y r)
      go true e = col e (column J x y p) refl
      go false e = (
        passing J x y p (let n = eqb-false (block_at p.kinds J.bw x y) 0 e in omega arith) q.0,
        λ l. ap (visit other x y) (q.1 l) ∙ ap (λ (b : Bool). cond b (column other x y p) (Going p)) e,
      )

  turn : (y : ℕ) (s r : Placing) → y < J.bh → Beside J.bw y s r → Beside 0 (y + 1) s r
  unfolding Beside
  turn y (Stopped m s) r h q = tt
  turn y (Going p) r h q = (turned J y p h q.0, q.1)

  reads_same : (p : Placed) → reading J ≡ Going p → p.used ≤ n → reading other ≡ Going p
  unfolding reading Beside
  reads_same p e l = (rw e at (beside (visit J) (visit other) J.bw J.bh Beside step turn (Going (start J)) (Going (start J)) (begun J, λ l. refl))).1 l

module _ (i : Inputs) (kinds hf_mul sigma : List ℕ) where
  module _ (n : ℕ) (e : (layout_of i kinds hf_mul sigma).answer ≡ gives n) where
    read : Read i kinds hf_mul sigma n
    read = accepted_read i kinds hf_mul sigma n e

    paired : length i.muls ≡ length i.types
    paired = (counts (length i.types) (length i.muls) (length i.sharpness) (length kinds) (length hf_mul) (length sigma) (bh_of i * bw_of i) read.lengths).muls_are

    in_turn : InTurn (job_of i) paired read.last
    in_turn = read_in_turn (job_of i) paired read.last read.read

    left_are : (varblocks_left i kinds hf_mul sigma) ≡ varblocks_of (bw_of i) (bh_of i) read.last.kinds read.last.hf_mul
    left_are = rw (read.kinds_are, read.hf_mul_are)

    -- n columns were there
    pub accepted_enough : n ≤ length i.types
    accepted_enough = let z = in_turn.enough in let u = read.used in omega arith

    -- the types of the varblocks are the first n columns' own, in turn
    pub accepted_types : map (λ (v : Varblock). v.type) (varblocks_left i kinds hf_mul sigma) ≡ take n i.types
    accepted_types = ap (map (λ (v : Varblock). v.type)) left_are ∙ in_turn.types_are ∙ ap (λ (k : ℕ). take k i.types) read.used

    -- their hf_mul are the first n columns' mul + 1, in turn
    pub accepted_muls : AcceptedMuls i kinds hf_mul sigma n e
    accepted_muls = ap (map (λ (v : Varblock). v.hf_mul)) left_are ∙ in_turn.muls_are ∙ ap (λ (k : ℕ). map hf_mul_of (take k i.muls)) read.used

    -- so there are n of them
    pub accepted_count : length (varblocks_left i kinds hf_mul sigma) ≡ n
    accepted_count =
        let h = accepted_enough in
        sym (length-map (varblocks_left i kinds hf_mul sigma) (λ (v : Varblock). v.type)) ∙ ap length accepted_types ∙ length-take-le n i.types h

    -- columns behind the first n do not matter: any others, or none, give the same
    pub accepted_surplus : AcceptedSurplus i kinds hf_mul sigma n e
    accepted_surplus types muls p s m =
        let r = read in
        let u = r.used in
        let h = accepted_enough in
        let long : n ≤ length types = let z : min n (length types) ≡ min n (length i.types) = sym (length-take n types) ∙ ap length s ∙ length-take n i.types in omega arith in
        let l : all_lengths_fit (with_columns i types muls) kinds hf_mul sigma ≡ true =
        ap (λ (b : Bool). b && eqb (length i.sharpness) (bh_of i * bw_of i) && eqb (length kinds) (bh_of i * bw_of i) && eqb (length hf_mul) (bh_of i * bw_of i) && eqb (length sigma) (bh_of i * bw_of i))
        (eq-eqb (length muls) (length types) p ∙ sym (eq-eqb (length i.muls) (length i.types) paired)) ∙ r.lengths in
        sym (works (with_columns i types muls) kinds hf_mul sigma r.sizes r.parameters l)
        ∙ ap (outcome_of (job_of (with_columns i types muls))) (reads_same (job_of i) n types muls long s m r.last r.read (omega arith))
        ∙ sym (ap (outcome_of (job_of i)) r.read) ∙ works i kinds hf_mul sigma r.sizes r.parameters r.lengths
