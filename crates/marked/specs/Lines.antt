-- What the lister prints: M4, the bytes of document 01's job and the five lines; M13, strips without blocks.
use Rattle.std.specs.Prelude.{List, [], ◌∷◌, ◌++◌, ℕ}

-- 10 size 16 × 16; 11 columns (6,4) (0,0) (0,2); 00 end
abbrev pub job : List ℕ
job =
    0x10 ∷ 16 ∷ 0 ∷ 16 ∷ 0
    ∷ 0x11 ∷ 6 ∷ 0 ∷ 0 ∷ 0 ∷ 4 ∷ 0 ∷ 0 ∷ 0
    ∷ 0x11 ∷ 0 ∷ 0 ∷ 0 ∷ 0 ∷ 0 ∷ 0 ∷ 0 ∷ 0
    ∷ 0x11 ∷ 0 ∷ 0 ∷ 0 ∷ 0 ∷ 2 ∷ 0 ∷ 0 ∷ 0
    ∷ 0 ∷ []

-- "blocks 2 2", "0 0 6 5", "1 0 0 1", "1 1 0 3", "area 4", each with a line end
abbrev pub lines : List ℕ
lines =
    (98 ∷ 108 ∷ 111 ∷ 99 ∷ 107 ∷ 115 ∷ 32 ∷ 50 ∷ 32 ∷ 50 ∷ 10 ∷ [])
    ++ ((48 ∷ 32 ∷ 48 ∷ 32 ∷ 54 ∷ 32 ∷ 53 ∷ 10 ∷ [])
    ++ ((49 ∷ 32 ∷ 48 ∷ 32 ∷ 48 ∷ 32 ∷ 49 ∷ 10 ∷ [])
    ++ ((49 ∷ 32 ∷ 49 ∷ 32 ∷ 48 ∷ 32 ∷ 51 ∷ 10 ∷ [])
    ++ (97 ∷ 114 ∷ 101 ∷ 97 ∷ 32 ∷ 52 ∷ 10 ∷ []))))

-- 10 size 0 × 16; 00 end; and with a column (0,0) that no block takes; 10 size 0 × 513
abbrev pub strip_job : List ℕ
strip_job = 0x10 ∷ 0 ∷ 0 ∷ 16 ∷ 0 ∷ 0 ∷ []

abbrev pub strip_job_with_column : List ℕ
strip_job_with_column =
    0x10 ∷ 0 ∷ 0 ∷ 16 ∷ 0
    ∷ 0x11 ∷ 0 ∷ 0 ∷ 0 ∷ 0 ∷ 0 ∷ 0 ∷ 0 ∷ 0
    ∷ 0 ∷ []

abbrev pub too_high : List ℕ
too_high = 0x10 ∷ 0 ∷ 0 ∷ 1 ∷ 2 ∷ 0 ∷ []

-- "blocks 0 2", "area 0", each with a line end
abbrev pub strip_lines : List ℕ
strip_lines = (98 ∷ 108 ∷ 111 ∷ 99 ∷ 107 ∷ 115 ∷ 32 ∷ 48 ∷ 32 ∷ 50 ∷ 10 ∷ []) ++ (97 ∷ 114 ∷ 101 ∷ 97 ∷ 32 ∷ 48 ∷ 10 ∷ [])
