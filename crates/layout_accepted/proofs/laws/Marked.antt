-- Document 01's marked examples of the layout call, by computation: M4 to M6, and the examples of refusals 4 to 10; document 02's No. 5.
use Rattle.std.specs.Prelude.{◌≡◌, refl, [], ◌∷◌, replicate}
use Rattle.refusal.specs.Said.{said_at}
use Rattle.dct_select.specs.Transforms.{TRANSFORMS, wide, high}
use Rattle.layout.specs.Varblocks.{varblock, varblocks_of, area, corners_row, corners_from}
use Rattle.layout_filter.specs.Strength.{zero32}
use Rattle.layout_filter.specs.declared.Filter.TheVariants.{On}
use Rattle.refusal.specs.Answer.{gives, refuses}
use Rattle.layout_call.specs.Call.{inputs, layout_of}
use Rattle.layout_accepted.specs.Marked.{off}
use Rattle.layout_accepted.specs.laws.Marked.{layout_computes, M5}

-- M4: the lister's layout, columns (6,4) (0,0) (0,2) on 16 x 16 pixels
pub m4 : off 2 2 (6 ∷ 0 ∷ 0 ∷ []) (4 ∷ 0 ∷ 2 ∷ []) ≡ record { answer = gives 3; kinds = 8 ∷ 2 ∷ 1 ∷ 2 ∷ []; hf_mul = 5 ∷ 1 ∷ 0 ∷ 3 ∷ []; sigma = replicate 4 0 }
unfolding layout_computes
m4 = refl

pub m4_varblocks : varblocks_of 2 2 (8 ∷ 2 ∷ 1 ∷ 2 ∷ []) (5 ∷ 1 ∷ 0 ∷ 3 ∷ []) ≡ varblock 0 0 6 5 ∷ varblock 1 0 0 1 ∷ varblock 1 1 0 3 ∷ []
unfolding corners_row corners_from
m4_varblocks = refl

pub m4_area : area (varblock 0 0 6 5 ∷ varblock 1 0 0 1 ∷ varblock 1 1 0 3 ∷ []) ≡ 4
unfolding area wide high TRANSFORMS
m4_area = refl

-- M5: mul 0 gives 1, −1 is refused, and so is the largest mul
pub m5 : M5
unfolding layout_computes
m5 = refl

pub m5_refused : (off 1 1 (0 ∷ []) (4294967295 ∷ [])).answer ≡ refuses (said_at 6 0 0)
unfolding layout_computes
m5_refused = refl

pub m5_largest : (off 1 1 (0 ∷ []) (2147483647 ∷ [])).answer ≡ refuses (said_at 6 0 0)
unfolding layout_computes
m5_largest = refl

-- M6: x = 30, type 7 passes, 31 is refused
pub m6 : (off 32 1 (replicate 16 7) (replicate 16 0)).answer ≡ gives 16
unfolding layout_computes
m6 = refl

pub m6_refused : (off 33 1 (0 ∷ replicate 16 7) (replicate 17 0)).answer ≡ refuses (said_at 7 31 0)
unfolding layout_computes
m6_refused = refl

-- the examples of the table: 4 two blocks, one column of type 0; 5 type 27; 8 types 0, 6, 7 on 2 x 2 blocks; 9 one block, type 4
pub no4 : (off 2 1 (0 ∷ []) (0 ∷ [])).answer ≡ refuses (said_at 4 1 0)
unfolding layout_computes
no4 = refl

pub no5 : (off 1 1 (27 ∷ []) (0 ∷ [])).answer ≡ refuses (said_at 5 0 0)
unfolding layout_computes
no5 = refl

-- the type counts as a whole number: 256, and −256 beside mul −1, which 6 would refuse; behind an accepted column, 257 (document 02, No. 5)
pub no5_256 : (off 1 1 (256 ∷ []) (0 ∷ [])).answer ≡ refuses (said_at 5 0 0)
unfolding layout_computes
no5_256 = refl

pub no5_before_6 : (off 1 1 (4294967040 ∷ []) (4294967295 ∷ [])).answer ≡ refuses (said_at 5 0 0)
unfolding layout_computes
no5_before_6 = refl

pub no5_behind : (off 2 1 (0 ∷ 257 ∷ []) (0 ∷ 0 ∷ [])).answer ≡ refuses (said_at 5 1 0)
unfolding layout_computes
no5_behind = refl

pub no8 : (off 2 2 (0 ∷ 6 ∷ 7 ∷ []) (0 ∷ 0 ∷ 0 ∷ [])).answer ≡ refuses (said_at 8 0 1)
unfolding layout_computes
no8 = refl

pub no9 : (off 1 1 (4 ∷ []) (0 ∷ [])).answer ≡ refuses (said_at 9 0 0)
unfolding layout_computes
no9 = refl

-- 10: filter on, sharpness 8
pub no10 : (layout_of (inputs 8 8 (0 ∷ 0 ∷ 0 ∷ []) (0 ∷ []) (0 ∷ []) (8 ∷ []) (On zero32) (replicate 8 zero32) 1) (0 ∷ []) (0 ∷ []) (0 ∷ [])).answer ≡ refuses (said_at 10 0 0)
unfolding layout_computes
no10 = refl
