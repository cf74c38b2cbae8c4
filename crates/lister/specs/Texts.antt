-- The lines that the lister prints (document 01, The lister).
use Rattle.std.specs.Prelude.{List, [], ◌∷◌, ◌++◌, ℕ}
use Rattle.refusal.specs.declared.Said.{Said}
use Rattle.layout.specs.Varblocks.{Varblock, varblocks_of, area}
use Rattle.text.specs.Text.{decimal}

-- "blocks ", "area ", "refused " and "bad input" with a line end
abbrev pub BLOCKS : List ℕ
BLOCKS = 98 ∷ 108 ∷ 111 ∷ 99 ∷ 107 ∷ 115 ∷ 32 ∷ []

abbrev pub AREA : List ℕ
AREA = 97 ∷ 114 ∷ 101 ∷ 97 ∷ 32 ∷ []

abbrev pub REFUSED : List ℕ
REFUSED = 114 ∷ 101 ∷ 102 ∷ 117 ∷ 115 ∷ 101 ∷ 100 ∷ 32 ∷ []

abbrev pub BAD_INPUT : List ℕ
BAD_INPUT = 98 ∷ 97 ∷ 100 ∷ 32 ∷ 105 ∷ 110 ∷ 112 ∷ 117 ∷ 116 ∷ 10 ∷ []

-- a number with a space, with a line end behind it
abbrev pub spaced : ℕ → List ℕ
spaced n = decimal n ++ (32 ∷ [])

abbrev pub last : ℕ → List ℕ
last n = decimal n ++ (10 ∷ [])

-- x, y, type, hf_mul of a varblock
abbrev pub line_of : Varblock → List ℕ
line_of v = spaced v.x ++ (spaced v.y ++ (spaced v.type ++ last v.hf_mul))

unfoldable pub lines_of : List Varblock → List ℕ
lines_of [] = []
lines_of (v ∷ l) = line_of v ++ lines_of l

-- grid; varblocks, corners row by row; total area
abbrev pub accepted_text : ℕ → ℕ → List ℕ → List ℕ → List ℕ
accepted_text bw bh kinds hf_mul =
    BLOCKS ++ (spaced bw ++ (last bh ++ (lines_of (varblocks_of bw bh kinds hf_mul) ++ (AREA ++ last (area (varblocks_of bw bh kinds hf_mul))))))

-- number, x, y
abbrev pub refused_text : Said → List ℕ
refused_text r = REFUSED ++ (spaced r.number ++ (spaced r.x ++ last r.y))
