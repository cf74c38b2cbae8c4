-- The lists of a record (RECORD.md): the size in numbers, the count of elements, the elements.
use Rattle.std.specs.Prelude.{cond, List, ℕ, zero, suc, ◌+◌, ◌*◌, ◌-◌, leb, length, get_or, take, drop}
use Rattle.recorded_lists.specs.declared.list.Span.{Span}

-- the place behind the list at a place, at most the end
abbrev pub behind_one : List ℕ → ℕ → ℕ
behind_one w at = cond (leb (at + 2 + get_or w at 0) (length w)) (at + 2 + get_or w at 0) (length w)

-- behind k lists
unfoldable pub place_of : List ℕ → ℕ → ℕ → ℕ
place_of w at zero = at
place_of w at (suc k) = place_of w (behind_one w at) k

abbrev pub spanned : ℕ → ℕ → Span
spanned a e = record { start = a; end = e }

-- n elements from a on, among so many
abbrev pub fitting : ℕ → ℕ → ℕ → Span
fitting a n most = cond (leb (a + n) most) (spanned a (a + n)) (spanned 0 0)

abbrev pub span_of : List ℕ → ℕ → Span
span_of w at = fitting (at + 2) (get_or w (at + 1) 0) (length w)

-- of a list of bytes: a number has four
abbrev pub byte_span_of : List ℕ → ℕ → ℕ → Span
byte_span_of w at bytes = fitting (4 * (at + 2)) (get_or w (at + 1) 0) bytes

abbrev pub part : List ℕ → Span → List ℕ
part s p = take (p.end - p.start) (drop p.start s)

-- the elements of the list at a place; none where the record ends before
abbrev pub list_at : List ℕ → ℕ → List ℕ
list_at w at = part w (span_of w at)

abbrev pub bytes_at : List ℕ → List ℕ → ℕ → List ℕ
bytes_at s w at = part s (byte_span_of w at (length s))
