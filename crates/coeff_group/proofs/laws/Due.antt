-- A group as the code reads it: what is required, and what is still due.
use Rattle.std.specs.Prelude.{◌≡◌, refl, length, get_or, drop, replicate, Result, Ok, Err}
use Rattle.std.proofs.Math.Path.{ap, subst}
use Rattle.std.proofs.Common.{sym, ◌∙◌}
use Rattle.std.proofs.Math.Bool.{true, false}
use mathlib.Core.List.{List, ◌∷◌}
use Prim.Native.Nat.{ℕ, zero, suc, ◌+◌, ◌*◌, ◌-◌, ◌^◌, ◌<◌, ◌≤◌}
use native.Mathlib.Omega.{arith}
use Rattle.std.proofs.Math.Dec.{leb}
use borrow.Author.Tests.{le-leb, lt-leb}
use Rattle.dct_select.specs.Transforms.{wide, high, order_of}
use Rattle.dct_select.specs.laws.Sides.{wide_some, order_lt, places}
use Rattle.layout.specs.Grid.{block_at}
use Rattle.layout.specs.Valid.{Fits, Layout}
use Rattle.layout.specs.Varblocks.{corners_row, corners_from, area}
use Rattle.layout.specs.Varblocks as layout
use Rattle.layout.proofs.laws.Theorems.{layout_area}
use Rattle.lent_check.specs.declared.GroupSides.{GroupSides}
use Rattle.lent_check.specs.GroupSides.{group_sides}
use Rattle.order_store.specs.Store.{stretch}
use Rattle.context_index.proofs.laws.Bounds.{context_lt}
use Rattle.refusal.specs.declared.Refusal.{Refusal}
use Rattle.coeff_walk.proofs.laws.Used.{not_done}
use Rattle.coeff_walk.specs.Item.{Item}
use Rattle.coeff_group.specs.declared.plan.Plan.{Plan}
use Rattle.coeff_group.specs.PassGroup.{PassGroup, item_of, channel_items}
use Rattle.coeff_group.specs.Group.{PerChannel, Reading, going, refused, read_items, read_group}
use Rattle.coeff_group.proofs.laws.GroupLaws.{group_refused}
use Rattle.dct_select.specs.laws.Exponents.{exponent_of, exponent_blocks, exponent_le}
use Rattle.coeff_group.proofs.laws.Stored.{stretch_long}
use Rattle.coeff_group.specs.laws.Steps.{Shown}
use Rattle.coeff_group.proofs.laws.Channels.{shown_on}
use Rattle.coeff_group.specs.laws.Plans.{plan_by, items_by, Planned}
use Rattle.coeff_group.specs.laws.Due.{walk_of, log_by, grids_by, GroupShown, GroupReady, K, M, rows_from, row_from, whole_of, Due}

module _ (P : PassGroup) where
  abbrev pub corner_at : ℕ → ℕ → layout.Varblock
  corner_at x y = record { x = x; y = y; type = (K P) x y - 2; hf_mul = (M P) x y }

  abbrev pub group_at : GroupSides
  group_at = group_sides P.bw P.bh

  -- the plan of the corner at x, y
  abbrev pub plan_at : ℕ → ℕ → Plan
  plan_at x y =
      plan_by x y group_at ((K P) x y - 2) ((M P) x y) P.contexts.lengths P.contexts.lf_thresholds P.contexts.qf_thresholds P.contexts.block_ctx_map
      P.lf_there P.lf0 P.lf1 P.lf2

-- the symbols of a planned varblock at most
few_is : (P : PassGroup) (x y at₀ : ℕ) (p : Plan) → p ≡ plan_at P x y → K P x y - 2 < 27 → at₀ + 192 * 2 ^ p.shape.exponent ≡ at₀ + 192 * (wide (K P x y - 2) * high (K P x y - 2))
few_is P x y at₀ p e h = rw (e, exponent_blocks (K P x y - 2) h)

-- one corner
module _ (P : PassGroup) (clusters preset_map shift log : ℕ) (r : GroupReady P clusters preset_map shift log) (x y : ℕ) (hx : x < P.bw) (hy : y < P.bh) (corner : 2 ≤ K P x y) where
  abbrev t : ℕ
  t = K P x y - 2

  fits : Fits P.bw P.bh x y (K P x y) (M P x y)
  fits = r.layout.valid.fits x y hx hy corner

  known : t < 27
  known = let k = fits.known in omega arith

  -- the three channels are those of the definition
  items_are : items_by (plan_at P x y) (group_at P) P.store ≡ channel_items P (corner_at P x y)
  unfolding item_of
  items_are = rw (exponent_blocks t known)

  right : x + wide t ≤ P.bw
  right = fits.in_x

  bottom : y + high t ≤ P.bh
  bottom = fits.in_y

  module _ (c : ℕ) (hc : c < 3) where
    abbrev order : List ℕ
    order = stretch P.store (order_of t) c

    order_long : length order ≡ 128 * 2 ^ exponent_of t
    order_long =
        let a = stretch_long P.store r.whole (order_of t) c (order_lt t known) hc in
        let b = places t known in
        let e = exponent_blocks t known in
        omega arith

  plan_ready : (preset_map₀ : List ℕ) → length preset_map₀ ≡ preset_map → Planned (plan_at P x y) (group_at P) clusters preset_map₀ P.store shift
  plan_ready preset_map₀ e =
      let w = r.narrow in let h = r.below in
      record {
        in_x = omega arith;
        in_y = omega arith;
        some = wide_some t known;
        exponent = exponent_le t known;
        narrow = r.narrow;
        context = λ n k. rw r.clustered (context n k);
        few = r.few;
        entries = e ∙ r.entries;
        listed = order_lt t known;
        whole = r.whole;
        long = order_long;
        shifts = r.shifts;
      }
    where
      context : (n : ℕ) → n < 3 → get_or (plan_at P x y).block_contexts n 0 < P.contexts.num_block_clusters
      context zero k = context_lt P.contexts 0 (order_of t) (M P x y) P.lf_there (block_at P.lf0 P.bw x y) (block_at P.lf1 P.bw x y) (block_at P.lf2 P.bw x y) r.contexts (omega arith) (order_lt t known)
      context (suc zero) k = context_lt P.contexts 1 (order_of t) (M P x y) P.lf_there (block_at P.lf0 P.bw x y) (block_at P.lf1 P.bw x y) (block_at P.lf2 P.bw x y) r.contexts (omega arith) (order_lt t known)
      context (suc (suc zero)) k = context_lt P.contexts 2 (order_of t) (M P x y) P.lf_there (block_at P.lf0 P.bw x y) (block_at P.lf1 P.bw x y) (block_at P.lf2 P.bw x y) r.contexts (omega arith) (order_lt t known)
      context (suc (suc (suc n))) k = absurd (omega arith)

module _ (shift clusters : ℕ) (preset_map : List ℕ) (P : PassGroup) (symbols : List ℕ) (most : ℕ) (whole : Reading) where
  abbrev Dues : List layout.Varblock → ℕ → PerChannel → List ℕ → PerChannel → Type 0
  Dues vs at₀ rows log G = Due shift clusters preset_map P symbols most whole vs at₀ rows log G

  module _ (at₀ : ℕ) (rows : PerChannel) (log : List ℕ) (G : PerChannel) where
    -- a row begins
    pub due_row : (y : ℕ) → y < P.bh → Dues (corners_from (K P) (M P) P.bw (P.bh - y) y) at₀ rows log G
        → Dues (corners_row (K P) (M P) (P.bw - 0) 0 y (corners_from (K P) (M P) P.bw (P.bh - (y + 1)) (y + 1))) at₀ rows log G
    unfolding corners_from
    due_row y h d =
        let e : P.bh - y ≡ suc (P.bh - (y + 1)) = omega arith in
        let f : P.bw - 0 ≡ P.bw = omega arith in
        subst (λ (vs : List layout.Varblock). Dues vs at₀ rows log G) (rw (e, f)) d

    -- a row ends
    pub due_next : (x y : ℕ) → P.bw ≤ x → Dues (corners_row (K P) (M P) (P.bw - x) x y (corners_from (K P) (M P) P.bw (P.bh - (y + 1)) (y + 1))) at₀ rows log G
        → Dues (corners_from (K P) (M P) P.bw (P.bh - (y + 1)) (y + 1)) at₀ rows log G
    unfolding corners_row
    due_next x y h d =
        let e : P.bw - x ≡ 0 = omega arith in
        subst (λ (n : ℕ). Dues (corners_row (K P) (M P) n x y (corners_from (K P) (M P) P.bw (P.bh - (y + 1)) (y + 1))) at₀ rows log G) e d

    -- no corner
    pub due_skip : (x y : ℕ) (l : List layout.Varblock) → x < P.bw → K P x y < 2 → Dues (corners_row (K P) (M P) (P.bw - x) x y l) at₀ rows log G
        → Dues (corners_row (K P) (M P) (P.bw - (x + 1)) (x + 1) y l) at₀ rows log G
    unfolding corners_row
    due_skip x y l h k d =
        let e : P.bw - x ≡ suc (P.bw - (x + 1)) = omega arith in
        let f : leb 2 (K P x y) ≡ false = lt-leb 2 (K P x y) k in
        subst (λ (vs : List layout.Varblock). Dues vs at₀ rows log G) (rw (e, f)) d

    -- a corner
    due_corner : (x y : ℕ) (l : List layout.Varblock) → x < P.bw → 2 ≤ K P x y → Dues (corners_row (K P) (M P) (P.bw - x) x y l) at₀ rows log G
        → Dues (corner_at P x y ∷ corners_row (K P) (M P) (P.bw - (x + 1)) (x + 1) y l) at₀ rows log G
    unfolding corners_row
    due_corner x y l h k d =
        let e : P.bw - x ≡ suc (P.bw - (x + 1)) = omega arith in
        let f : leb 2 (K P x y) ≡ true = le-leb 2 (K P x y) k in
        subst (λ (vs : List layout.Varblock). Dues vs at₀ rows log G) (rw (e, f)) d

    room_of : (v : layout.Varblock) (l : List layout.Varblock) → Dues (v ∷ l) at₀ rows log G → at₀ + 192 * (wide v.type * high v.type) ≤ most
    unfolding area
    room_of v l d = let m = d.room in omega arith

    module _ (x y : ℕ) (l : List layout.Varblock) (d : Dues (corner_at P x y ∷ l) at₀ rows log G) (its : List Item) (is : its ≡ channel_items P (corner_at P x y))
        (rows₁ : PerChannel) (log₁ : List ℕ) (G₁ : PerChannel) (few : ℕ) (le : few ≡ at₀ + 192 * (wide (K P x y - 2) * high (K P x y - 2))) where
      abbrev R : Reading
      R = read_items shift clusters preset_map its (going (drop at₀ symbols) at₀ log G rows)

      -- what follows the varblock gives the whole
      due_after : read_group shift clusters preset_map P l R ≡ whole
      unfolding read_group
      due_after = ap (λ (i : List Item). read_group shift clusters preset_map P l (read_items shift clusters preset_map i (going (drop at₀ symbols) at₀ log G rows))) is ∙ d.due

      -- the varblock was read
      due_step : (at₁ : ℕ) → Shown symbols few (Ok at₁) rows₁ log₁ G₁ R → length rows₁ ≡ 3 → Dues l at₁ rows₁ log₁ G₁
      unfolding area
      due_step at₁ shown three =
          let o = shown_on symbols few at₁ rows₁ log₁ G₁ R shown in
          let m = d.room in
          let f = o.few in
          record {
            due = ap (read_group shift clusters preset_map P l) (sym o.is) ∙ due_after;
            three = three;
            room = omega arith;
          }

      -- the reading stopped in it
      due_stop : (why : Refusal) → Shown symbols few (Err why) rows₁ log₁ G₁ R → GroupShown (Err why) log₁ G₁ whole
      due_stop why₁ shown = go R refl shown
        where
          go : (Q : Reading) → R ≡ Q → Shown symbols few (Err why₁) rows₁ log₁ G₁ Q → GroupShown (Err why₁) log₁ G₁ whole
          go (going us at₁ log' G' rows') q s = absurd (not_done why₁ at₁ s.it.answer)
          go (refused why at₁ log' G') q s =
              let f : refused why at₁ log' G' ≡ whole = sym (group_refused shift clusters preset_map P l why at₁ log' G') ∙ ap (read_group shift clusters preset_map P l) (sym q) ∙ due_after in
              record { answer = s.it.answer ∙ ap walk_of f; logged = sym s.it.logged ∙ ap log_by f; cells = sym s.it.cells ∙ ap grids_by f }

    -- nothing is due any more
    pub due_end : (y : ℕ) → P.bh ≤ y → Dues (corners_from (K P) (M P) P.bw (P.bh - y) y) at₀ rows log G → GroupShown (Ok at₀) log G whole
    unfolding corners_from read_group
    due_end y h d =
        let e : P.bh - y ≡ 0 = omega arith in
        let f : going (drop at₀ symbols) at₀ log G rows ≡ whole = rw e at d.due in
        record { answer = ap walk_of f; logged = ap log_by f; cells = ap grids_by f }

-- a corner of the group, planned as p
module _ (shift clusters : ℕ) (preset_map : List ℕ) (P : PassGroup) (symbols : List ℕ) (room : ℕ) (ready : GroupReady P clusters (length preset_map) shift room) (whole : Reading) (x y at₀ : ℕ) (rows : PerChannel) (log : List ℕ) (G : PerChannel)
    (hx : x < P.bw) (hy : y < P.bh) (corner : 2 ≤ K P x y) (d : Due shift clusters preset_map P symbols (192 * (P.bw * P.bh)) whole (row_from P x y) at₀ rows log G) (p : Plan) (ep : p ≡ plan_at P x y) where
  here : Due shift clusters preset_map P symbols (192 * (P.bw * P.bh)) whole (corner_at P x y ∷ row_from P (x + 1) y) at₀ rows log G
  here = due_corner shift clusters preset_map P symbols (192 * (P.bw * P.bh)) whole at₀ rows log G x y (rows_from P (y + 1)) hx corner d

  few : at₀ + 192 * 2 ^ p.shape.exponent ≡ at₀ + 192 * (wide (K P x y - 2) * high (K P x y - 2))
  few = few_is P x y at₀ p ep (known P clusters (length preset_map) shift room ready x y hx hy corner)

  -- all that is lent for it fits
  pub corner_asks : length log ≡ room
      → Planned p (group_at P) clusters preset_map P.store shift × (at₀ + 192 * 2 ^ p.shape.exponent ≤ length log) × (p.shape.x + p.shape.wide ≤ 32) × (length rows ≡ 3)
  corner_asks e =
      let m = ready.room in
      let n = room_of shift clusters preset_map P symbols (192 * (P.bw * P.bh)) whole at₀ rows log G (corner_at P x y) (row_from P (x + 1) y) here in
      let f = few in
      let w = ready.narrow in
      let r = right P clusters (length preset_map) shift room ready x y hx hy corner in (
        subst (λ (q : Plan). Planned q (group_at P) clusters preset_map P.store shift) (sym ep) (plan_ready P clusters (length preset_map) shift room ready x y hx hy corner preset_map refl),
        omega arith,
        rw ep (omega arith),
        d.three,
      )

  module _ (rows₁ : PerChannel) (log₁ : List ℕ) (G₁ : PerChannel) where
    its : items_by p (group_at P) P.store ≡ channel_items P (corner_at P x y)
    its = ap (λ (q : Plan). items_by q (group_at P) P.store) ep ∙ items_are P clusters (length preset_map) shift room ready x y hx hy corner

    -- how the reading of the corner ended
    abbrev Ended : Result ℕ Refusal → Type 0
    Ended w = Shown symbols (at₀ + 192 * 2 ^ p.shape.exponent) w rows₁ log₁ G₁ (read_items shift clusters preset_map (items_by p (group_at P) P.store) (going (drop at₀ symbols) at₀ log G rows))

    -- the reading stopped in it
    pub corner_stop : (why : Refusal) → Ended (Err why) → GroupShown (Err why) log₁ G₁ whole
    corner_stop why shown =
        due_stop shift clusters preset_map P symbols (192 * (P.bw * P.bh)) whole at₀ rows log G x y (row_from P (x + 1) y) here (items_by p (group_at P) P.store) its
        rows₁ log₁ G₁ (at₀ + 192 * 2 ^ p.shape.exponent) few why shown

    -- it was read
    pub corner_step : (at₁ : ℕ) → Ended (Ok at₁) → length rows₁ ≡ 3 → Due shift clusters preset_map P symbols (192 * (P.bw * P.bh)) whole (row_from P (x + 1) y) at₁ rows₁ log₁ G₁
    corner_step at₁ shown three =
        due_step shift clusters preset_map P symbols (192 * (P.bw * P.bh)) whole at₀ rows log G x y (row_from P (x + 1) y) here (items_by p (group_at P) P.store) its
        rows₁ log₁ G₁ (at₀ + 192 * 2 ^ p.shape.exponent) few at₁ shown three

pub due_start : (shift clusters : ℕ) (preset_map : List ℕ) (P : PassGroup) (symbols log : List ℕ) (G : PerChannel) → Layout P.bw P.bh P.kinds P.hf_mul
    → Due shift clusters preset_map P symbols (192 * (P.bw * P.bh)) (whole_of shift clusters preset_map P symbols log G) (rows_from P 0) 0 (replicate 3 (replicate 32 0)) log G
due_start shift clusters preset_map P symbols log G lay =
    let e : P.bh - 0 ≡ P.bh = omega arith in
    let f = layout_area P.bw P.bh P.kinds P.hf_mul lay in
    record { due = rw e; three = refl; room = rw e (omega arith) }
