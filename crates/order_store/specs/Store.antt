-- The store of the 39 lists (document 01, Orders): one behind the other, by order and channel, as x, y.
use Rattle.std.specs.Prelude.{Bool, true, cond, ◌&&◌, List, [], ◌∷◌, ◌++◌, ℕ, zero, suc, ◌+◌, ◌*◌, ltb, eqb, length, take, drop}
use Rattle.order_sizes.specs.BlockSizes.{BLOCK_SIZES, width_of, height_of}
use Rattle.order_natural.specs.Places.{Place, flat}

-- places in the whole store, two numbers each
unfoldable pub PLACES : ℕ
PLACES = 393984

abbrev pub stored : List (List Place) → List ℕ
stored [] = []
stored (l ∷ ls) = flat l ++ stored ls

-- each size for channels 0, 1, 2
abbrev pub thrice : List (ℕ × ℕ) → List (ℕ × ℕ)
thrice [] = []
thrice (s ∷ ss) = s ∷ s ∷ s ∷ thrice ss

-- places in a list of this size
abbrev pub places_in : ℕ × ℕ → ℕ
places_in s = s.0 * s.1

-- places in the lists before list i
abbrev pub before : List (ℕ × ℕ) → ℕ → ℕ
before [] i = 0
before (s ∷ ss) zero = 0
before (s ∷ ss) (suc i) = places_in s + before ss i

-- the list of an order and a channel as it is stored; an order above 12, a channel above 2 or a store of another length gets the empty stretch
unfoldable pub stretch : List ℕ → ℕ → ℕ → List ℕ
stretch store order channel =
    cond (ltb order 13 && (ltb channel 3 && eqb (length store) (2 * PLACES)))
    (take (2 * (width_of order * height_of order)) (drop (2 * before (thrice BLOCK_SIZES) (3 * order + channel)) store))
    []

-- each x, y of a list inside w × h
abbrev pub inside_all : ℕ → ℕ → List ℕ → Bool
inside_all w h [] = true
inside_all w h (x ∷ []) = true
inside_all w h (x ∷ y ∷ r) = ltb x w && (ltb y h && inside_all w h r)

-- lists of these sizes, one behind the other, each inside its own
abbrev pub lists_fit : List (ℕ × ℕ) → List ℕ → Bool
lists_fit [] store = true
lists_fit (s ∷ ss) store = inside_all s.0 s.1 (take (2 * places_in s) store) && lists_fit ss (drop (2 * places_in s) store)

-- a whole store with no place, in any of the 39 lists, outside width × height (refusal 13 of the coefficient call)
unfoldable pub places_fit : List ℕ → Bool
places_fit store = eqb (length store) (2 * PLACES) && lists_fit (thrice BLOCK_SIZES) store

-- list i begins at the number `first_of i` and ends where the next begins, at `first_of (i + 1)`
unfoldable pub first_of : ℕ → ℕ
first_of i = 2 * before (thrice BLOCK_SIZES) i
