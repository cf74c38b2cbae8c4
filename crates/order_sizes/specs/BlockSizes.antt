-- The sizes of the 13 orders in cells (document 01, Orders; `hf_pass.rs`).
use Rattle.std.specs.Prelude.{List, [], ◌∷◌, ℕ, get_or}

-- width and height
unfoldable pub BLOCK_SIZES : List (ℕ × ℕ)
BLOCK_SIZES =
    (8, 8) ∷ (8, 8) ∷ (16, 16) ∷ (32, 32) ∷ (16, 8) ∷ (32, 8) ∷ (32, 16) ∷ (64, 64) ∷ (64, 32) ∷ (128, 128) ∷ (128, 64) ∷ (256, 256) ∷ (256, 128) ∷ []

unfoldable pub width_of : ℕ → ℕ
width_of k = (get_or BLOCK_SIZES k (0, 0)).0

unfoldable pub height_of : ℕ → ℕ
height_of k = (get_or BLOCK_SIZES k (0, 0)).1
