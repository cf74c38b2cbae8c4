-- A file as numbers of four bytes, lowest byte first (RECORD.md).
use Rattle.std.specs.Prelude.{cond, List, ℕ, ◌+◌, ◌*◌, ◌/◌, ltb, get_or}
use Rattle.laws.specs.Lists.{tabulate}

-- the i-th number
abbrev pub word_at : List ℕ → ℕ → ℕ
word_at s i =
    get_or s (4 * i) 0 + 256 * get_or s (4 * i + 1) 0 + 65536 * (get_or s (4 * i + 2) 0 + 256 * get_or s (4 * i + 3) 0)

-- the first n
abbrev pub words_of : List ℕ → ℕ → List ℕ
words_of s n = tabulate (word_at s) n 0

-- as many whole numbers as there are and fit
abbrev pub word_count : ℕ → ℕ → ℕ
word_count bytes room = cond (ltb room (bytes / 4)) room (bytes / 4)
