-- Examples of likeness (document 02, No. 12).
use Rattle.std.specs.Prelude.{◌≡◌, refl, true, false, List, [], ◌∷◌, ℕ, ◌≤◌}
use Rattle.std.proofs.Common.{sym, ◌∙◌, arith}
use Rattle.dct_select.specs.Transforms.{TRANSFORMS, wide, high}
use Rattle.refusal.specs.Said.{said_at}
use Rattle.refusal.specs.Answer.{gives, refuses}
use Rattle.layout.specs.Kinds.{wide_of, high_of}
use Rattle.lent_likeness.specs.Like.{HasRectangle, SameRectangles, filtered}
use Rattle.lent_likeness.specs.Calls.{like_of}
use Rattle.lent_likeness.specs.Examples.{one_block, one_dct8, one_hornuss}
use Rattle.lent_likeness.specs.laws.Examples.{likeness_computes}

-- Hornuss and Dct8 are not alike
pub hornuss_dct8 : like_of one_hornuss one_dct8 ≡ gives false
unfolding likeness_computes
hornuss_dct8 = refl

-- though they have the same rectangles: what kind the one block has does not matter beyond its size
of_kind : (k k' : ℕ) (sigma : List ℕ) → 2 ≤ k' → wide_of k ≡ wide_of k' → high_of k ≡ high_of k'
    → (x y w h m : ℕ) → HasRectangle (one_block k 1 sigma).layout x y w h m → HasRectangle (one_block k' 1 sigma).layout x y w h m
of_kind k k' sigma corner wide high x y w h m r = at x y (let i = r.in_x in omega arith) (let j = r.in_y in omega arith) r
  where
    at : (a b : ℕ) → a ≡ 0 → b ≡ 0 → HasRectangle (one_block k 1 sigma).layout a b w h m → HasRectangle (one_block k' 1 sigma).layout a b w h m
    at a b e f = rw (e, f) (λ q. record { in_x = q.in_x; in_y = q.in_y; corner = corner; is_wide = sym wide ∙ q.is_wide; is_high = sym high ∙ q.is_high; is_hf_mul = q.is_hf_mul })

pub hornuss_dct8_rectangles : SameRectangles one_hornuss.layout one_dct8.layout
unfolding SameRectangles wide high TRANSFORMS
hornuss_dct8_rectangles x y w h m = (of_kind 3 2 (0 ∷ []) (omega arith) refl refl x y w h m, of_kind 2 3 (0 ∷ []) (omega arith) refl refl x y w h m)

-- rectangles that differ in hf_mul are not the same
pub rectangles_by_hf_mul : SameRectangles one_dct8.layout (one_block 2 2 (0 ∷ [])).layout → ⊥
unfolding SameRectangles wide high TRANSFORMS
rectangles_by_hf_mul s =
    let r = (s 0 0 1 1 1).0 (record { in_x = omega arith; in_y = omega arith; corner = omega arith; is_wide = refl; is_high = refl; is_hf_mul = refl }) in
    let z : ◌≡◌ {A = ℕ} 2 1 = r.is_hf_mul in
    omega arith

-- +0.0 and −0.0 differ; the largest finite number serves
pub zeros_differ : like_of (one_block 2 1 (0 ∷ [])) (one_block 2 1 (0x8000_0000 ∷ [])) ≡ gives false
unfolding likeness_computes
zeros_differ = refl

pub largest_serves : like_of (one_block 2 1 (0x7f7f_ffff ∷ [])) (one_block 2 1 (0x7f7f_ffff ∷ [])) ≡ gives true
unfolding likeness_computes
largest_serves = refl

-- the turn: a NaN behind the grid is 11, not 1; a NaN in the second comes before a free cell in the first; sides in the second come before a NaN in the first
pub nan_before_lengths : like_of (one_block 2 1 (0 ∷ 0x7fc0_0000 ∷ [])) one_dct8 ≡ refuses (said_at 11 0 0)
unfolding likeness_computes
nan_before_lengths = refl

pub nan_before_layout : like_of (one_block 0 0 (0 ∷ [])) (one_block 2 1 (0x7fc0_0000 ∷ [])) ≡ refuses (said_at 11 0 0)
unfolding likeness_computes
nan_before_layout = refl

pub sides_before_nan : like_of (one_block 2 1 (0x7fc0_0000 ∷ [])) (filtered 257 1 [] [] []) ≡ refuses (said_at 2 0 0)
unfolding likeness_computes
sides_before_nan = refl
