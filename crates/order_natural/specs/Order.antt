-- What an order of a size is (document 01, Orders): its width and height in cells are document 01's bw and bh.
use Rattle.std.specs.Prelude.{◌≡◌, ℕ, ◌*◌, ◌/◌, ◌%◌, ◌<◌, List, length, get_or, take, slice_index_or}
use Rattle.order_natural.specs.Places.{Place, Lists}
use Rattle.order_natural.specs.Natural.{rows}

-- what the laws ask of a size: the height a multiple of 8, the width a multiple of the height, neither 0
pub record Size (width height : ℕ) : Type 0 where
  pub eights : height % 8 ≡ 0
  pub multiple : width % height ≡ 0
  pub height_some : 0 < height
  pub width_some : 0 < width

-- a listing of width × height whose first size / 64 places are the corner
pub record Order (width height : ℕ) (l : List Place) : Type 0 where
  pub cells : Lists width height l
  pub corner : take (width * height / 64) l ≡ rows (width / 8) (height / 8)

abbrev pub Hit : ℕ → ℕ → Place → Type 0
Hit x y p = (x ≡ p.0) × (y ≡ p.1)

-- an order in plain words: how long, inside, no place twice, each cell there, the corner first
pub record Facts (width height : ℕ) (l : List Place) : Type 0 where
  pub long : length l ≡ width * height
  pub inside : (i : ℕ) → i < length l → ((get_or l i (0, 0)).0 < width) × ((get_or l i (0, 0)).1 < height)
  pub distinct : (i j : ℕ) → i < length l → j < length l → slice_index_or l i (0, 0) ≡ slice_index_or l j (0, 0) → i ≡ j
  pub found : (x y : ℕ) → x < width → y < height → (i : ℕ) × (i < length l) × Hit x y (slice_index_or l i (0, 0))
  pub corner : take (width * height / 64) l ≡ rows (width / 8) (height / 8)
