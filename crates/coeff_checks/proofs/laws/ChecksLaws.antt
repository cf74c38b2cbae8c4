-- The checks before work, outcome by outcome.
use Rattle.std.specs.Prelude.{◌≡◌, refl, Bool, true, false, ℕ, ◌*◌, ◌≤◌, T, leb, eqb, length}
use Rattle.std.proofs.Common.{sym, ◌∙◌, mul-le-mul, arith, leb→le, eqb→eq}
use Rattle.refusal.specs.Said as refusals
use Rattle.refusal.specs.Answer.{Answer, refuses, unless, passed}
use Rattle.lent_sides.specs.Limits.{in_limits}
use Rattle.order_store.specs.Store.{PLACES, places_fit}
use Rattle.context_record.specs.declared.HfBlockContext.{HfBlockContext}
use Rattle.context_record.specs.Record.{fit}
use Rattle.context_record.specs.laws.Bounds.{is_fit}
use Rattle.coeff_group.specs.PassGroup.{PassGroup}
use Rattle.coeff_group.specs.Work.{clusters_of}
use Rattle.coeff_checks.specs.Checks.{blocks, sides_fit, parameters_fit, three_fit, lf_fits, read_fits, all_lengths_fit, layout_fits, before_work, Passed}
use Rattle.coeff_checks.specs.laws.Tests.{read_lengths_fit, other_lengths_fit, group_passes}
use Rattle.coeff_checks.proofs.laws.Tests.{two, three, four, truth, other_lengths_are, passes_is}
use Rattle.coeff_checks.specs.laws.ChecksLaws.{Sides}

pub sides_fit_lem : (P : PassGroup) → sides_fit P ≡ true → Sides P
unfolding in_limits
sides_fit_lem P e =
    let t = two (leb P.bw 32) (leb P.bh 32) (truth (sides_fit P) e) in
    record { wide = leb→le P.bw 32 t.0; high = leb→le P.bh 32 t.1 }

pub parameters_fit_lem : (shift presets : ℕ) → parameters_fit shift presets ≡ true → (shift ≤ 3) × (presets ≤ 256)
parameters_fit_lem shift presets e =
    let t = two (leb shift 3) (leb presets 256) (truth (parameters_fit shift presets) e) in
    (leb→le shift 3 t.0, leb→le presets 256 t.1)

pub most_blocks : (P : PassGroup) → sides_fit P ≡ true → blocks P ≤ 1024
most_blocks P e = let s = sides_fit_lem P e in mul-le-mul s.high s.wide

pub few_clusters : (R : HfBlockContext) → fit R ≡ true → R.num_block_clusters ≤ 16
few_clusters R e = (is_fit R e).few

module _ (P : PassGroup) (presets cluster_map_length log_length g0_length g1_length g2_length : ℕ) where
  pub record Lengths : Type 0 where
    pub kinds : length P.kinds ≡ blocks P
    pub hf_mul : length P.hf_mul ≡ blocks P
    pub lf : P.lf_there ≡ true → (length P.lf0 ≡ blocks P) × (length P.lf1 ≡ blocks P) × (length P.lf2 ≡ blocks P)
    pub store : length P.store ≡ 2 * PLACES
    pub map : cluster_map_length ≡ 495 * clusters_of P * presets
    pub grids : (g0_length ≡ 64 * blocks P) × (g1_length ≡ 64 * blocks P) × (g2_length ≡ 64 * blocks P)
    pub room : 192 * blocks P ≤ log_length

  equal : (a b c n : ℕ) → T (three_fit a b c n) → (a ≡ n) × (b ≡ n) × (c ≡ n)
  equal a b c n t = let g = three (eqb a n) (eqb b n) (eqb c n) t in (eqb→eq a n g.0, eqb→eq b n g.1, eqb→eq c n g.2)

  pub lengths_fit_lem : all_lengths_fit P presets cluster_map_length log_length g0_length g1_length g2_length ≡ true → Lengths
  lengths_fit_lem e =
      let n = blocks P in
      let t = four (read_fits P) (eqb cluster_map_length (495 * clusters_of P * presets)) (three_fit g0_length g1_length g2_length (64 * n)) (leb (192 * n) log_length) (truth (all_lengths_fit P presets cluster_map_length log_length g0_length g1_length g2_length) e) in
      let p = four (eqb (length P.kinds) n) (eqb (length P.hf_mul) n) (lf_fits P) (eqb (length P.store) (2 * PLACES)) t.0 in
      record {
        kinds = eqb→eq (length P.kinds) n p.0;
        hf_mul = eqb→eq (length P.hf_mul) n p.1;
        lf = λ y. equal (length P.lf0) (length P.lf1) (length P.lf2) n (rw y at p.2);
        store = eqb→eq (length P.store) (2 * PLACES) p.3;
        map = eqb→eq cluster_map_length (495 * clusters_of P * presets) t.1;
        grids = equal g0_length g1_length g2_length (64 * n) t.2;
        room = leb→le (192 * n) log_length t.3;
      }

module _ (P : PassGroup) (presets shift cluster_map_length log_length g0_length g1_length g2_length : ℕ) where
  abbrev answer : Answer Unit
  answer = before_work P presets shift cluster_map_length log_length g0_length g1_length g2_length

  pub checks_pass : Passed P presets shift cluster_map_length log_length g0_length g1_length g2_length → answer ≡ passed
  unfolding before_work
  checks_pass p = rw (p.sides, p.parameters, p.contexts, p.lengths, p.layout, p.places)

  pub checks_2 : sides_fit P ≡ false → answer ≡ refuses (refusals.said_at 2 0 0)
  unfolding before_work
  checks_2 a = rw a

  module _ (a : sides_fit P ≡ true) where
    pub checks_11 : parameters_fit shift presets ≡ false → answer ≡ refuses (refusals.said_at 11 0 0)
    unfolding before_work
    checks_11 b = rw (a, b)

    module _ (b : parameters_fit shift presets ≡ true) where
      pub checks_12 : fit P.contexts ≡ false → answer ≡ refuses (refusals.said_at 12 0 0)
      unfolding before_work
      checks_12 c = rw (a, b, c)

      module _ (c : fit P.contexts ≡ true) where
        pub checks_1 : all_lengths_fit P presets cluster_map_length log_length g0_length g1_length g2_length ≡ false → answer ≡ refuses (refusals.said_at 1 0 0)
        unfolding before_work
        checks_1 d = rw (a, b, c, d)

        -- the lengths as the code compares them
        pub lengths_are : (read_fit r : Bool)
            → read_fit ≡ read_lengths_fit (length P.kinds) (length P.hf_mul) P.lf_there (length P.lf0) (length P.lf1) (length P.lf2) (length P.store) (blocks P)
            → r ≡ other_lengths_fit (clusters_of P) presets cluster_map_length g0_length g1_length g2_length log_length (blocks P) read_fit
            → all_lengths_fit P presets cluster_map_length log_length g0_length g1_length g2_length ≡ r
        lengths_are read_fit r e f =
            sym (f
            ∙ other_lengths_are (clusters_of P) presets cluster_map_length g0_length g1_length g2_length log_length (blocks P) read_fit (few_clusters P.contexts c) (parameters_fit_lem shift presets b).1 (most_blocks P a)
            ∙ rw e)

        module _ (d : all_lengths_fit P presets cluster_map_length log_length g0_length g1_length g2_length ≡ true) where
          -- 18, once sides and lengths fit
          pub layout_is : group_passes P.bw P.bh P.kinds P.hf_mul ≡ layout_fits P
          layout_is = let l = lengths_fit_lem P presets cluster_map_length log_length g0_length g1_length g2_length d in passes_is P.bw P.bh P.kinds P.hf_mul a l.kinds l.hf_mul

          pub checks_18 : layout_fits P ≡ false → answer ≡ refuses (refusals.said_at 18 0 0)
          unfolding before_work
          checks_18 e = rw (a, b, c, d, e)

          pub checks_13 : layout_fits P ≡ true → places_fit P.store ≡ false → answer ≡ refuses (refusals.said_at 13 0 0)
          unfolding before_work
          checks_13 e f = rw (a, b, c, d, e, f)

  -- a result comes after a test that passed
  past : (n : ℕ) (b : Bool) (next : Answer Unit) → unless n b next ≡ passed → (b ≡ true) × (next ≡ passed)
  past n true next e = (refl, e)
  past n false next e = absurd (let z : ◌≡◌ {A = ℕ} 0 1 = cc in omega arith)

  -- nothing else leaves them
  pub passed_by : answer ≡ passed → Passed P presets shift cluster_map_length log_length g0_length g1_length g2_length
  unfolding before_work
  passed_by e =
      let a = past 2 (sides_fit P) _ e in
      let b = past 11 (parameters_fit shift presets) _ a.1 in
      let c = past 12 (fit P.contexts) _ b.1 in
      let d = past 1 (all_lengths_fit P presets cluster_map_length log_length g0_length g1_length g2_length) _ c.1 in
      let f = past 18 (layout_fits P) _ d.1 in
      let g = past 13 (places_fit P.store) _ f.1 in
      record { sides = a.0; parameters = b.0; contexts = c.0; lengths = d.0; layout = f.0; places = g.0 }
