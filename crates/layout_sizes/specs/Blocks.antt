-- The size of an LF group in pixels and in blocks, and the lengths lent for its layout (document 01, Layout and filter strength; Refused, 1).
use Rattle.std.specs.Prelude.{Bool, cond, ◌&&◌, ◌||◌, List, ℕ, ◌+◌, ◌*◌, ◌/◌, leb, eqb, get_or}

-- width and height, at most 2,048; 0 is a strip without blocks (document 02, No. 2)
abbrev pub size_fits : ℕ → ℕ → Bool
size_fits width height = leb width 2048 && leb height 2048

-- three upsampling modes 0 to 3
abbrev pub modes_fit : List ℕ → Bool
modes_fit modes = leb (get_or modes 0 0) 3 && leb (get_or modes 1 0) 3 && leb (get_or modes 2 0) 3

abbrev pub is_either : ℕ → ℕ → ℕ → Bool
is_either mode a b = eqb mode a || eqb mode b

-- one of the modes is a or b
abbrev pub any_either : List ℕ → ℕ → ℕ → Bool
any_either modes a b = is_either (get_or modes 0 0) a b || is_either (get_or modes 1 0) a b || is_either (get_or modes 2 0) a b

-- pixels divided by 8, rounded up
abbrev pub blocks : ℕ → ℕ
blocks pixels = (pixels + 7) / 8

abbrev pub even_if : Bool → ℕ → ℕ
even_if even n = cond even ((n + 1) / 2 * 2) n

-- bw is made even if a mode is 1 or 2, bh if one is 1 or 3
unfoldable pub bw_in : ℕ → List ℕ → ℕ
bw_in width modes = even_if (any_either modes 1 2) (blocks width)

unfoldable pub bh_in : ℕ → List ℕ → ℕ
bh_in height modes = even_if (any_either modes 1 3) (blocks height)

-- the lengths lent for a layout of n blocks: a mul for each type; a sharpness number, a kind, an hf_mul and a sigma for each block
abbrev pub counts_fit : ℕ → ℕ → ℕ → ℕ → ℕ → ℕ → ℕ → Bool
counts_fit types muls sharpness kinds hf_mul sigma n = eqb muls types && eqb sharpness n && eqb kinds n && eqb hf_mul n && eqb sigma n
