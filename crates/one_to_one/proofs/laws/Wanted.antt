-- Laws: Whatever 32-bit numbers the cells that are not low-frequency are to hold (document 00, demand 3): there is a filling that has them, and only
use Rattle.std.specs.Prelude.{◌≡◌, Bool, true, false, ◌↔◌, ◌⊎◌, List, [], ◌∷◌, length, get_or}
use Rattle.std.proofs.Math.Path.{refl, sym}
use Rattle.std.proofs.Common.{ap, ◌∙◌, inl, inr, arith, lt-ltb, le-leb, ltb-true, leb-true}
use Prim.Native.Nat.{ℕ, zero, suc, ◌+◌, ◌*◌, ◌^◌, ◌<◌, ◌≤◌}
use Rattle.std.proofs.Math.Decide.{dec_lt}
use Rattle.std.proofs.Math.ListN.{get_or-eq_default}
use Rattle.laws.specs.laws.Cases.{and-true, or_true, or_either}
use Rattle.dct_select.specs.Transforms.{wide, high}
use Rattle.layout.specs.laws.Grid.{Cell}
use Rattle.layout.proofs.laws.Grid.{place_row, place_col, grid_length_lem, grid_at, cell_at}
use Rattle.layout.specs.Varblocks.{Varblock}
use Rattle.layout.specs.Listed.{Among, first, later}
use Rattle.coeff_group.specs.Group.{PerChannel}
use Rattle.coeff_group.specs.PassGroup.{PassGroup, varblocks}
use Rattle.coeff_call.specs.Call.{Lent}
use Rattle.one_to_one.specs.Filling.{grid_length, cell_number, Low, LowKept, low_in, low_in_some, is_low, Sized, Fixed, Filling, asked, grid_wanted, wanted, Fills, Fails}
use Rattle.coeff_group.proofs.laws.Cells.{same_shape}
use Rattle.one_to_one.proofs.laws.OverCall.{shapes, start_sized}
use Rattle.one_to_one.proofs.laws.Demand3.{one_sequence, every_other}
use Rattle.coeff_group.specs.Sequence.{in_cell, the_sequence}
use Rattle.coeff_walk.specs.Sent.{Words}

-- The test is what it says.
-- in the corner of v
record In (x y : ℕ) (v : Varblock) : Type 0 where
  from_x : 8 * v.x ≤ x
  to_x : x < 8 * v.x + wide v.type
  from_y : 8 * v.y ≤ y
  to_y : y < 8 * v.y + high v.type

module _ (x y : ℕ) where
  in_one : (v : Varblock) → low_in x y v ≡ true → In x y v
  in_one v e =
      let a = and-true _ _ e in
      let b = and-true _ _ a.0 in
      let c = and-true _ _ b.0 in
      record {
        from_x = leb-true (8 * v.x) x c.0;
        to_x = ltb-true x (8 * v.x + wide v.type) c.1;
        from_y = leb-true (8 * v.y) y b.1;
        to_y = ltb-true y (8 * v.y + high v.type) a.1;
      }

  one_in : (v : Varblock) → In x y v → low_in x y v ≡ true
  one_in v i =
      rw (
        le-leb (8 * v.x) x i.from_x,
        lt-ltb x (8 * v.x + wide v.type) i.to_x,
        le-leb (8 * v.y) y i.from_y,
        lt-ltb y (8 * v.y + high v.type) i.to_y,
      )

  in_some : (vs : List Varblock) → low_in_some x y vs ≡ true → (v : Varblock) × Among v vs × In x y v
  in_some [] e = absurd (let z : ◌≡◌ {A = ℕ} 0 1 = cc in omega arith)
  in_some (v ∷ vs) e = go (or_true (low_in x y v) (low_in_some x y vs) e) (in_some vs)
    where
      go : (low_in x y v ≡ true) ⊎ (low_in_some x y vs ≡ true) → (low_in_some x y vs ≡ true → (u : Varblock) × Among u vs × In x y u) → (u : Varblock) × Among u (v ∷ vs) × In x y u
      go (inl a) f = (v, first refl, in_one v a)
      go (inr b) f = let r = f b in (r.0, later r.1, r.2)

  some_in : (vs : List Varblock) (v : Varblock) → Among v vs → In x y v → low_in_some x y vs ≡ true
  some_in [] v x3 h = elim x3 [ ]
  some_in (u ∷ vs) v (first e) h = or_either (low_in x y u) (low_in_some x y vs) (inl (one_in u (rw (← e) at h)))
  some_in (u ∷ vs) v (later i) h = or_either (low_in x y u) (low_in_some x y vs) (inr (some_in vs v i h))

-- of the cell p at (x, y)
module _ (P : PassGroup) (p x y : ℕ) (in_x : x < 8 * P.bw) (place : p ≡ cell_number P x y) where
  pub is_low_lem : is_low P x y ≡ true → Low P p
  unfolding is_low
  is_low_lem e =
      let r = in_some x y (varblocks P) e in
      let i = r.2 in
      record { x = x; y = y; in_x = in_x; place = place; of = r.0; there = r.1; from_x = i.from_x; to_x = i.to_x; from_y = i.from_y; to_y = i.to_y }

  pub low_is : Low P p → is_low P x y ≡ true
  unfolding is_low
  low_is l =
      let e = sym l.place ∙ place in
      let ex = place_col (8 * P.bw) x y l.x l.y in_x l.in_x e in
      let ey = place_row (8 * P.bw) x y l.x l.y in_x l.in_x e in
      some_in x y (varblocks P) l.of l.there (rw (← ex, ← ey) (record { from_x = l.from_x; to_x = l.to_x; from_y = l.from_y; to_y = l.to_y }))

-- The grids wanted.
module _ (L : Lent) (f : ℕ → ℕ → ℕ) where
  abbrev P : PassGroup
  P = L.pass_group

  grid_long : (c : ℕ) → length (grid_wanted L f c) ≡ grid_length P
  grid_long c = grid_length_lem (asked L f c) (8 * P.bw) (8 * P.bh)

  channel_is : (c : ℕ) → c < 3 → get_or (wanted L f) c [] ≡ grid_wanted L f c
  unfolding wanted
  channel_is zero h = refl
  channel_is (suc zero) h = refl
  channel_is (suc (suc zero)) h = refl
  channel_is (suc (suc (suc c))) h = absurd (omega arith)

  three : length (wanted L f) ≡ 3
  unfolding wanted
  three = refl

  -- x and y of a cell
  abbrev CellOf : ℕ → Type 0
  CellOf p = Cell (8 * P.bw) (8 * P.bh) p

  cell_of : (p : ℕ) → p < grid_length P → CellOf p
  cell_of p h = cell_at (8 * P.bw) (8 * P.bh) p h

  cell_is : (c p : ℕ) → c < 3 → (k : CellOf p) → in_cell (wanted L f) c p ≡ asked L f c k.x k.y
  cell_is c p hc k = rw (channel_is c hc, k.place) (grid_at (asked L f c) (8 * P.bw) (8 * P.bh) k.x k.y k.in_x k.in_y)

module _ (L : Lent) (fixed : Fixed L) (f : ℕ → ℕ → ℕ) (words : (c p : ℕ) → f c p < 2 ^ 32) where
  sized : Sized L.pass_group (wanted L f)
  sized = record { three = three L f; cells = λ c h. ap length (channel_is L f c h) ∙ grid_long L f c }

  outside : (W : PerChannel) → Sized L.pass_group W → (c p : ℕ) → c < 3 → (p < grid_length L.pass_group → ⊥) → in_cell W c p ≡ 0
  outside W s c p h n = let a : length (get_or W c []) ≡ grid_length L.pass_group = s.cells c h in get_or-eq_default (get_or W c []) 0 (omega arith)

  no_channel : (W : PerChannel) → length W ≡ 3 → (c p : ℕ) → (c < 3 → ⊥) → in_cell W c p ≡ 0
  no_channel W e c p n = rw (get_or-eq_default W [] {n = c} (omega arith))

  -- each cell that is not low-frequency holds what is asked for
  pub wanted_there : (c p : ℕ) → c < 3 → p < grid_length L.pass_group → (Low L.pass_group p → ⊥) → in_cell (wanted L f) c p ≡ f c p
  wanted_there c p hc h n = cell_is L f c p hc k ∙ go (is_low L.pass_group k.x k.y) refl
    where
      k : CellOf L f p
      k = cell_of L f p h

      go : (b : Bool) → is_low L.pass_group k.x k.y ≡ b → asked L f c k.x k.y ≡ f c p
      go true e = absurd (n (is_low_lem L.pass_group p k.x k.y k.in_x k.place e))
      go false e = rw e (ap (f c) (sym k.place))

  low : LowKept L.pass_group L.grids (wanted L f)
  low c p hc l = go (dec_lt p (grid_length L.pass_group))
    where
      go : Dec (p < grid_length L.pass_group) → in_cell (wanted L f) c p ≡ in_cell L.grids c p
      go (yes h) =
          let k = cell_of L f p h in
          cell_is L f c p hc k ∙ rw (low_is L.pass_group p k.x k.y k.in_x k.place l) (ap (in_cell L.grids c) (sym k.place))
      go (no n) = outside (wanted L f) sized c p hc n ∙ sym (outside L.grids (start_sized L fixed) c p hc n)

  small : (c p : ℕ) → in_cell (wanted L f) c p < 2 ^ 32
  small c p = go (dec_lt c 3) (dec_lt p (grid_length L.pass_group))
    where
      by : (x y : ℕ) (b : Bool) → is_low L.pass_group x y ≡ b → asked L f c x y < 2 ^ 32
      by x y true e = rw e (fixed.rest.words c (cell_number L.pass_group x y))
      by x y false e = rw e (words c (cell_number L.pass_group x y))

      go : Dec (c < 3) → Dec (p < grid_length L.pass_group) → in_cell (wanted L f) c p < 2 ^ 32
      go (yes a) (yes b) = let k = cell_of L f p b in rw (cell_is L f c p a k) (by k.x k.y (is_low L.pass_group k.x k.y) refl)
      go (yes a) (no n) = rw (outside (wanted L f) sized c p a n) (omega arith)
      go (no n) b = rw (no_channel (wanted L f) (three L f) c p n) (omega arith)

  -- the grids wanted are a filling
  pub wanted_filling : Filling L (wanted L f)
  wanted_filling = record { sized = sized; words = small; low = low }

  -- and no other filling holds these numbers
  pub wanted_only : (W : PerChannel) → Filling L W → ((c p : ℕ) → c < 3 → p < grid_length L.pass_group → (Low L.pass_group p → ⊥) → in_cell W c p ≡ f c p) → W ≡ wanted L f
  wanted_only W filling g =
      same_shape W (wanted L f) (shapes L.pass_group (wanted L f) W sized filling.sized) (λ (c : ℕ). λ (p : ℕ). at_cell c p (dec_lt c 3) (dec_lt p (grid_length L.pass_group)))
    where
      by : (c p : ℕ) → c < 3 → p < grid_length L.pass_group → (k : CellOf L f p) (b : Bool) → is_low L.pass_group k.x k.y ≡ b → in_cell W c p ≡ in_cell (wanted L f) c p
      by c p a h k true e = let l = is_low_lem L.pass_group p k.x k.y k.in_x k.place e in filling.low c p a l ∙ sym (low c p a l)
      by c p a h k false e =
          let n : Low L.pass_group p → ⊥ = λ l. let x : ◌≡◌ {A = Bool} false true = sym e ∙ low_is L.pass_group p k.x k.y k.in_x k.place l in let z : ◌≡◌ {A = ℕ} 0 1 = cc in omega arith in
          g c p a h n ∙ sym (wanted_there c p a h n)

      at_cell : (c p : ℕ) → Dec (c < 3) → Dec (p < grid_length L.pass_group) → in_cell W c p ≡ in_cell (wanted L f) c p
      at_cell c p (yes a) (yes h) = let k = cell_of L f p h in by c p a h k (is_low L.pass_group k.x k.y) refl
      at_cell c p (yes a) (no n) = outside W filling.sized c p a n ∙ sym (outside (wanted L f) sized c p a n)
      at_cell c p (no n) h = no_channel W filling.sized.three c p n ∙ sym (no_channel (wanted L f) (three L f) c p n)

  -- Demand 3: whatever 32-bit numbers the cells that are not low-frequency are to hold, these 32-bit symbols fill them so, and no others do.
  pub one_sequence_for_any : Words (the_sequence L.pass_group L.grids (wanted L f)) × ((s : List ℕ) → Words s → Fills L s (wanted L f) ↔ (s ≡ the_sequence L.pass_group L.grids (wanted L f)))
  one_sequence_for_any = one_sequence L fixed (wanted L f) wanted_filling

  -- every other sequence fails, and that one does not
  pub every_other_for_any : (s : List ℕ) → Words s → Fails L s (wanted L f) ↔ (s ≡ the_sequence L.pass_group L.grids (wanted L f) → ⊥)
  every_other_for_any = every_other L fixed (wanted L f) wanted_filling
