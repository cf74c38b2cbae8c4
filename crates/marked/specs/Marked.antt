-- Document 01's marked examples and what document 02 adds to them, as rows of one list under one theorem.
use Rattle.std.specs.Prelude.{◌≡◌, Ok, false, List, [], ◌∷◌, ◌++◌, ℕ, ◌*◌, ◌%◌, ◌^◌, ◌-◌, ◌<◌, pos, negsuc, length, get_or, take, drop, replicate, Float}
use Rattle.std.specs.Float.{fin}
use Rattle.std.specs.Float.Ieee.{mul}
use Rattle.refusal.specs.declared.Refusal.TheVariants.{Preset}
use Rattle.refusal.specs.Said.{said_at, said}
use Rattle.bits.specs.Bits.{Value}
use Rattle.order_natural.specs.Natural.{natural}
use Rattle.layout.specs.Varblocks.{varblock, varblocks_of, area}
use Rattle.lent_likeness.specs.Like.{SameRectangles}
use Rattle.lent_likeness.specs.Calls.{like_of}
use Rattle.lent_likeness.specs.Examples.{one_dct8, one_hornuss}
use Rattle.layout_sizes.specs.Blocks.{bw_in, bh_in}
use Rattle.layout_filter.specs.declared.Filter.TheVariants.{On}
use Rattle.layout_filter.specs.Strength.{nearest}
use Rattle.refusal.specs.Answer as answer
use Rattle.layout_call.specs.Call.{Outcome, inputs, layout_of}
use Rattle.layout_accepted.specs.Marked.{off}
use Rattle.order_store.specs.Store.{PLACES, stretch}
use Rattle.order_call.specs.Call.{parsed}
use Rattle.refusal.specs.Answer.{gives, refuses}
use Rattle.coeff_call.specs.Call.{leaves, outcome_of, refuse, preset_bits, call, reading as reading_with}
use Rattle.lister.specs.Texts.{BAD_INPUT}
use Rattle.lister.specs.Listing.{text_of}
use Rattle.marked.specs.Lines.{job, lines, strip_job, strip_job_with_column, too_high, strip_lines}
use Rattle.marked.specs.Coefficients.{gains, dct8, dct16, Room}

-- M1 natural 8 × 8 starts (0,0) (1,0) (0,1) (0,2) (1,1) (2,0)
abbrev pub M1 : Type 0
M1 = take 6 (natural 8 8) ≡ (0, 0) ∷ (1, 0) ∷ (0, 1) ∷ (0, 2) ∷ (1, 1) ∷ (2, 0) ∷ []

-- M2 16 × 8: (0,0) (1,0) (0,1) (2,0) (3,0) (1,1)
abbrev pub M2 : Type 0
M2 = take 6 (natural 16 8) ≡ (0, 0) ∷ (1, 0) ∷ (0, 1) ∷ (2, 0) ∷ (3, 0) ∷ (1, 1) ∷ []

-- M3 order 0, length 1, digit 1: (0,0) (0,1) (1,0) (0,2). The order call is lent order 0 as the only one used (13 bits: 1), these symbols
-- for channel 0 and length 0 for channels 1 and 2; the store is looked up for order 0, channel 0.
abbrev pub M3 : Type 0
M3 = (earlier : List ℕ) → length earlier ≡ 2 * PLACES
    → take 8 (stretch (parsed (7 ∷ 0 ∷ []) (1 ∷ 1 ∷ 0 ∷ 0 ∷ []) earlier).store 0 0) ≡ 0 ∷ 0 ∷ 0 ∷ 1 ∷ 1 ∷ 0 ∷ 0 ∷ 2 ∷ []

-- M4 the lister's layout: 16 × 16 pixels and columns (6,4) (0,0) (0,2); the lister prints it in five lines
abbrev pub M4 : Type 0
M4 = (off 2 2 (6 ∷ 0 ∷ 0 ∷ []) (4 ∷ 0 ∷ 2 ∷ []) ≡ record { answer = answer.gives 3; kinds = 8 ∷ 2 ∷ 1 ∷ 2 ∷ []; hf_mul = 5 ∷ 1 ∷ 0 ∷ 3 ∷ []; sigma = replicate 4 0 })
    × (varblocks_of 2 2 (8 ∷ 2 ∷ 1 ∷ 2 ∷ []) (5 ∷ 1 ∷ 0 ∷ 3 ∷ []) ≡ varblock 0 0 6 5 ∷ varblock 1 0 0 1 ∷ varblock 1 1 0 3 ∷ [])
    × (area (varblock 0 0 6 5 ∷ varblock 1 0 0 1 ∷ varblock 1 1 0 3 ∷ []) ≡ 4)
    × (text_of job ≡ lines)

-- M5 mul 0 gives 1, −1 refused
abbrev pub M5 : Type 0
M5 = ((off 1 1 (0 ∷ []) (0 ∷ [])).hf_mul ≡ 1 ∷ []) × ((off 1 1 (0 ∷ []) (4294967295 ∷ [])).answer ≡ answer.refuses (said_at 6 0 0))

-- M6 x = 30, type 7 passes, 31 refused
abbrev pub M6 : Type 0
M6 = ((off 32 1 (replicate 16 7) (replicate 16 0)).answer ≡ answer.gives 16) × ((off 33 1 (0 ∷ replicate 16 7) (replicate 17 0)).answer ≡ answer.refuses (said_at 7 31 0))

-- the layout call over one block of type 0, filter on: multiplier, look-up number, scale, mul
abbrev pub on : Float → Float → ℕ → ℕ → Outcome
on multiplier look scale mul =
    layout_of (inputs 8 8 (0 ∷ 0 ∷ 0 ∷ []) (0 ∷ []) (mul ∷ []) (0 ∷ []) (On multiplier) (replicate 8 look) scale) (0 ∷ []) (0 ∷ []) (0 ∷ [])

-- 0.5, 1.0 and 2.0
abbrev pub half : Float
half = fin false 1 (negsuc 0)

abbrev pub one : Float
one = fin false 1 (pos 0)

abbrev pub two : Float
two = fin false 1 (pos 1)

-- M7 multiplier 0.5, scale 32,768, hf_mul 4, look-up 2.0: 0.5, by its bit pattern 3f000000
abbrev pub M7 : Type 0
M7 = (on half two 32768 3).sigma ≡ 0x3f00_0000 ∷ []

-- M8 hf_mul 16,777,217 becomes 16,777,216: as an f32 it is 2^24, and sigma of multiplier, look-up number and scale 1 is 2^16 / 2^24, by its bit
-- pattern 3b800000, as for hf_mul 16,777,216; both calls are accepted
abbrev pub M8 : Type 0
M8 = (nearest 16777217 ≡ fin false 1 (pos 24))
    × (on one one 1 16777216 ≡ record { answer = answer.gives 1; kinds = 2 ∷ []; hf_mul = 16777217 ∷ []; sigma = 0x3b80_0000 ∷ [] })
    × (on one one 1 16777215 ≡ record { answer = answer.gives 1; kinds = 2 ∷ []; hf_mul = 16777216 ∷ []; sigma = 0x3b80_0000 ∷ [] })

-- M9 count 252 for type 4 passes, 253 refused: 252, as many symbols that are not 0, and counts 0 for the other channels are accepted
abbrev pub M9 : Type 0
M9 = (map log g0 g1 g2 : List ℕ) → Room 1 4 map log g0 g1 g2
    → ((call (dct16 map (252 ∷ (replicate 252 2 ++ (0 ∷ 0 ∷ []))) log g0 g1 g2)).answer ≡ gives 255)
    × ((us : List ℕ) → (call (dct16 map (253 ∷ us) log g0 g1 g2)).answer ≡ refuses (said_at 16 1 0))

-- M10 three presets: two bits, 3 refused (14, two bits read, nothing written), 0 to 2 read with
abbrev pub M10 : Type 0
M10 = (map symbols log g0 g1 g2 : List ℕ) → Room 3 1 map log g0 g1 g2
    → ((b : ℕ) (rest : List ℕ) → preset_bits (dct8 3 map (b ∷ rest) symbols log g0 g1 g2) ≡ Value (b % 4) 2)
    × ((rest : List ℕ) → call (dct8 3 map (3 ∷ rest) symbols log g0 g1 g2) ≡ refuse (dct8 3 map (3 ∷ rest) symbols log g0 g1 g2) (said (Preset 2)))
    × ((n : ℕ) (rest : List ℕ) → n < 3 → call (dct8 3 map (n ∷ rest) symbols log g0 g1 g2) ≡ outcome_of (reading_with (dct8 3 map (n ∷ rest) symbols log g0 g1 g2) n))

-- M11 one Dct8, default contexts, symbols 2, 3, 0, 4, 0, 0: in channel 1 (0,1) gains −2, (2,0) gains 2; contexts (places in the preset's
-- stretch, whose bytes are logged) 300, 618, 558, 559, 307, 307. Whatever map, log and grids held; cell (x, y) is 8 y + x.
abbrev pub M11 : Type 0
M11 = (map log g0 g1 g2 : List ℕ) → Room 1 1 map log g0 g1 g2
    → call (dct8 1 map [] (2 ∷ 3 ∷ 0 ∷ 4 ∷ 0 ∷ 0 ∷ []) log g0 g1 g2)
    ≡ leaves (Ok 6) (get_or map 300 0 ∷ get_or map 618 0 ∷ get_or map 558 0 ∷ get_or map 559 0 ∷ get_or map 307 0 ∷ get_or map 307 0 ∷ drop 6 log)
    g0 (gains (gains g1 8 (2 ^ 32 - 2)) 2 2) g2

-- M12, of document 02, No. 12: Hornuss and Dct8, one block each, are not alike now, though they have the same rectangles and so were alike before
abbrev pub M12 : Type 0
M12 = (like_of one_hornuss one_dct8 ≡ gives false) × SameRectangles one_hornuss.layout one_dct8.layout

-- M13, ours for document 02, No. 2: 0 × 16 pixels are 0 × 2 blocks, accepted with no columns used; 0 × 8 pixels with mode 1 are 0 × 2 blocks too; the lister
-- prints `blocks 0 2` and `area 0`, surplus columns or not; 0 beside 513 pixels is bad input
abbrev pub M13 : Type 0
M13 = (off 0 2 [] [] ≡ record { answer = answer.gives 0; kinds = []; hf_mul = []; sigma = [] })
    × (bw_in 0 (1 ∷ 0 ∷ 0 ∷ []) ≡ 0)
    × (bh_in 8 (1 ∷ 0 ∷ 0 ∷ []) ≡ 2)
    × (text_of strip_job ≡ strip_lines)
    × (text_of strip_job_with_column ≡ strip_lines)
    × (text_of too_high ≡ BAD_INPUT)

-- number and statement of a marked example
pub record Row : Type 1 where
  pub number : ℕ
  pub Says : Type 0

abbrev m : ℕ → Type 0 → Row
m number Says = record { number = number; Says = Says }

unfoldable pub MARKED : List Row
MARKED = m 1 M1 ∷ m 2 M2 ∷ m 3 M3 ∷ m 4 M4 ∷ m 5 M5 ∷ m 6 M6 ∷ m 7 M7 ∷ m 8 M8 ∷ m 9 M9 ∷ m 10 M10 ∷ m 11 M11 ∷ m 12 M12 ∷ m 13 M13 ∷ []

-- each row of a list
abbrev pub Each : List Row → Type 0
Each [] = Unit
Each (r ∷ rs) = r.Says × Each rs
