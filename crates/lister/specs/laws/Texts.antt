-- The lines that the lister prints (document 01, The lister).
use Rattle.std.specs.Prelude.{cond, List, [], ℕ, ◌-◌, leb}
use Rattle.layout.specs.Grid.{block_at}
use Rattle.layout.specs.Varblocks.{varblock}
use Rattle.lister.specs.Texts.{line_of}

-- the line of a block, nothing where it is no corner
abbrev pub line_at : ℕ → List ℕ → List ℕ → ℕ → ℕ → List ℕ
line_at bw kinds hf_mul x y = cond (leb 2 (block_at kinds bw x y)) (line_of (varblock x y (block_at kinds bw x y - 2) (block_at hf_mul bw x y))) []
