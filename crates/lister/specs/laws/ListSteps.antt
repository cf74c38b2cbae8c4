-- The listing as the code goes: one law for each way out.
use Rattle.std.specs.Prelude.{◌≡◌, refl, Bool, true, false, ◌&&◌, Ok, Err, List, ◌∷◌, ℕ, zero, suc, ◌+◌, ◌*◌, ◌≤◌, ◌<◌, leb, get_or, take, drop, replicate, Float, pos}
use Rattle.std.specs.Float.{fin, binary32}
use Rattle.std.specs.Float.Ieee.{of_bits, of_fields, odd}
use Rattle.std.specs.Int.Count.{count_trailing_zeros}
use Rattle.std.proofs.Common.{ap, sym, ◌∙◌, mul-le-mul, take_at}
use native.Mathlib.Omega.{arith}
use Rattle.std.proofs.Math.ListN.{length}
use Rattle.laws.specs.Lists.{tabulate}
use Rattle.laws.specs.laws.Lists.{length_tabulate}
use borrow.Author.Tests.{le-leb, lt-leb, eq-eqb, ne_eqb}
use Rattle.refusal.specs.declared.Refusal.{Refusal}
use Rattle.refusal.specs.Said.{said}
use Rattle.layout.specs.Varblocks.{varblocks_of, area}
use Rattle.layout_sizes.specs.Blocks.{bw_in, bh_in}
use Rattle.layout_call.specs.Call.{Outcome, leaves, inputs, layout_of}
use Rattle.layout_accepted.proofs.laws.Theorems.{accepted_layout, accepted_area}
use Rattle.layout_filter.specs.declared.Filter.TheVariants.{Off}
use Rattle.layout_filter.specs.Strength.{zero32}
use Rattle.lister_job.specs.laws.JobSteps.{prefixed}
use Rattle.lister_job.specs.Job.{width, height, column_place, columns, types, muls, has_size, has_end}
use Rattle.lister.specs.Texts.{accepted_text, refused_text, BAD_INPUT}
use Rattle.lister.specs.Listing.{text_by, MODES, bw_of, bh_of, listed, outcome, layout_text, text_of}
use Rattle.lister.specs.Listing as listing

-- at most 64 blocks each way
pub few_wide : (w : ℕ) → w ≤ 512 → bw_of w ≤ 64
unfolding bw_in
few_wide w h = omega arith

pub few_high : (n : ℕ) → n ≤ 512 → bh_of n ≤ 64
unfolding bh_in
few_high n h = omega arith

-- 0.0 as the code has it
pub zero_bits : of_bits binary32 0 ≡ fin false 0 (pos 0)
unfolding of_bits of_fields odd count_trailing_zeros
zero_bits = refl

-- the layout call as the code makes it, over cleared buffers
pub listed_is : (w h : ℕ) (ts ms : List ℕ) (bw bh : ℕ) (sharpness kinds hf_mul sigma : List ℕ) (lookups : List Float) → bw ≡ bw_of w → bh ≡ bh_of h
    → sharpness ≡ replicate (bh * bw) 0 → kinds ≡ replicate (bh * bw) 0 → hf_mul ≡ replicate (bh * bw) 0 → sigma ≡ replicate (bh * bw) 0 → lookups ≡ replicate 8 zero32
    → layout_of (inputs w h MODES ts ms sharpness Off lookups 1) kinds hf_mul sigma ≡ outcome w h ts ms
listed_is w h ts ms bw bh sharpness kinds hf_mul sigma lookups p q a b c d e = rw (a, b, c, d, e, p, q)

module _ (w h : ℕ) (ts ms : List ℕ) (bw bh : ℕ) (p : bw ≡ bw_of w) (q : bh ≡ bh_of h) (k m g : List ℕ) where
  -- an accepted layout is listed
  pub record Accepts : Type 0 where
    pub length_k : length k ≡ bh * bw
    pub length_m : length m ≡ bh * bw
    pub full : area (varblocks_of bw bh k m) ≡ bw * bh
    pub text : accepted_text bw bh k m ≡ layout_text w h ts ms

  pub accepts : (used : ℕ) → leaves (Ok used) k m g ≡ outcome w h ts ms → Accepts
  accepts used e =
      let n = listing.blocks w h ts ms in
      let a = sym (ap (λ (o : Outcome). o.answer) e) in
      let ek = ap (λ (o : Outcome). o.kinds) e in
      let em = ap (λ (o : Outcome). o.hf_mul) e in
      let l = accepted_layout (listed w h ts ms) (replicate n 0) (replicate n 0) (replicate n 0) used a in
      let r = accepted_area (listed w h ts ms) (replicate n 0) (replicate n 0) (replicate n 0) used a in
      record {
        length_k = ap length ek ∙ l.kinds_length ∙ rw (p, q);
        length_m = ap length em ∙ l.hf_mul_length ∙ rw (p, q);
        full = rw (p, q) (ap (λ (u : List ℕ). area (varblocks_of (bw_of w) (bh_of h) u m)) ek ∙ ap (λ (u : List ℕ). area (varblocks_of (bw_of w) (bh_of h) (outcome w h ts ms).kinds u)) em ∙ r);
        text = rw (p, q) (ap (λ (o : Outcome). text_by (bw_of w) (bh_of h) o o.answer) e);
      }

  pub refuses : (r : Refusal) → leaves (Err r) k m g ≡ outcome w h ts ms → refused_text (said r) ≡ layout_text w h ts ms
  refuses r e = ap (λ (o : Outcome). text_by (bw_of w) (bh_of h) o o.answer) e

-- the first places of a cleared buffer
take_same : {A : Type 0} (v : A) (n m : ℕ) → n ≤ m → take n (replicate m v) ≡ replicate n v
take_same v zero m h = refl
take_same v (suc n) zero h = absurd (omega arith)
take_same {A} v (suc n) (suc m) h = ap (λ (l : List A). v ∷ l) (take_same v n m (omega arith))

pub cleared : {A : Type 0} (v : A) (l : List A) (n k : ℕ) → l ≡ replicate 4096 v → n ≤ 4096 → n ≡ k → take n l ≡ replicate k v
cleared {A} v l n k e h f = ap (λ (z : List A). take n z) e ∙ take_same v n 4096 h ∙ ap (λ (i : ℕ). replicate i v) f

pub few_blocks : (bw bh : ℕ) → bw ≤ 64 → bh ≤ 64 → bh * bw ≤ 4096
few_blocks bw bh h l = mul-le-mul l h

-- the columns that were read
pub read_first : (f : ℕ → ℕ) (n : ℕ) (d d' : List ℕ) → d' ≡ prefixed f n d → take n d' ≡ tabulate f n 0
read_first f n d d' e = ap (take n) e ∙ take_at (tabulate f n 0) (drop n d) n (length_tabulate f n 0)

-- bad input, in the order of the tests
module _ (s : List ℕ) where
  pub bad_short : length s < 5 → BAD_INPUT ≡ text_of s
  unfolding text_of
  bad_short a = rw (lt-leb 5 (length s) a)

  module _ (a : 5 ≤ length s) where
    pub bad_first : (get_or s 0 0 ≡ 16 → ⊥) → BAD_INPUT ≡ text_of s
    unfolding text_of
    bad_first b = rw (le-leb 5 (length s) a, ne_eqb (get_or s 0 0) 16 b)

    module _ (b : get_or s 0 0 ≡ 16) where
      pub bad_wide : 512 < width s → BAD_INPUT ≡ text_of s
      unfolding text_of
      bad_wide c = rw (le-leb 5 (length s) a, eq-eqb (get_or s 0 0) 16 b, lt-leb (width s) 512 c)

      module _ (c : width s ≤ 512) where
        pub bad_high : 512 < height s → BAD_INPUT ≡ text_of s
        unfolding text_of
        bad_high d = rw (le-leb 5 (length s) a, eq-eqb (get_or s 0 0) 16 b, le-leb (width s) 512 c, lt-leb (height s) 512 d)

        module _ (d : height s ≤ 512) where
          sized : has_size s ≡ true
          sized = rw (le-leb 5 (length s) a, eq-eqb (get_or s 0 0) 16 b, le-leb (width s) 512 c, le-leb (height s) 512 d)

          module _ (n : ℕ) (e : n ≡ columns s) where
            unended : has_end s ≡ false → BAD_INPUT ≡ text_of s
            unfolding text_of
            unended f = rw (sized, f)

            pub bad_cut : length s ≤ column_place n → BAD_INPUT ≡ text_of s
            bad_cut f = unended (rw (lt-leb (column_place (columns s) + 1) (length s) (rw e at (h f))))
              where
                h : length s ≤ column_place n → length s < column_place n + 1
                h g = omega arith

            pub bad_end : column_place n < length s → (get_or s (column_place n) 0 ≡ 0 → ⊥) → BAD_INPUT ≡ text_of s
            bad_end f g = unended (rw (ne_eqb (get_or s (column_place (columns s)) 0) 0 (rw e at g)) (and_false (leb (column_place (columns s) + 1) (length s))))
              where
                and_false : (t : Bool) → t && false ≡ false
                and_false true = refl
                and_false false = refl

            pub good : column_place n < length s → get_or s (column_place n) 0 ≡ 0 → layout_text (width s) (height s) (types s) (muls s) ≡ text_of s
            unfolding text_of
            good f g = rw (sized, le-leb (column_place (columns s) + 1) (length s) (rw e at (h f)), eq-eqb (get_or s (column_place (columns s)) 0) 0 (rw e at g))
              where
                h : column_place n < length s → column_place n + 1 ≤ length s
                h q = omega arith

-- the size record and the columns as they were read
pub job_text : (s : List ℕ) (w h : ℕ) (ts ms : List ℕ) → w ≡ width s → h ≡ height s → ts ≡ types s → ms ≡ muls s → layout_text (width s) (height s) (types s) (muls s) ≡ text_of s
    → layout_text w h ts ms ≡ text_of s
job_text s w h ts ms a b c d e = rw (a, b, c, d) e
