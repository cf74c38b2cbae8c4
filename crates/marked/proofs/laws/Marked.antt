-- Laws: the marked examples, as rows of one list under one theorem.
use Rattle.std.specs.Prelude.{refl}
use Rattle.std.specs.Float.Ieee.{mul, div, of_int, to_bits, round, size, span, climb, units, odd}
use Rattle.std.specs.Int.Count.{count_trailing_zeros}
use Rattle.layout_filter.proofs.laws.Strength.{m8}
use Rattle.lent_likeness.proofs.laws.Examples.{hornuss_dct8, hornuss_dct8_rectangles}
use Rattle.layout_accepted.specs.laws.Marked.{layout_computes}
use Rattle.layout_accepted.proofs.laws.Marked.{m4, m4_varblocks, m4_area, m5, m5_refused, m6, m6_refused}
use Rattle.order_call.proofs.laws.Marked.{m1, m2}
use Rattle.marked.proofs.laws.Lines.{five_lines, strip_lines_lem, too_high_lem}
use Rattle.marked.proofs.laws.Orders.{one_digit}
use Rattle.marked.proofs.laws.Coefficients.{passes_252, refuses_253, reads_two_bits, refuses_3, takes_others, six_symbols}
use Rattle.marked.specs.Marked.{Each, M1, M10, M11, M12, M13, M2, M3, M4, M5, M6, M7, M8, M9, MARKED}

row1 : M1
row1 = m1

row2 : M2
row2 = m2

row3 : M3
row3 = one_digit

row4 : M4
row4 = (m4, m4_varblocks, m4_area, five_lines)

row5 : M5
row5 = (m5, m5_refused)

row6 : M6
row6 = (m6, m6_refused)

row7 : M7
unfolding layout_computes mul div of_int to_bits round size span climb units odd count_trailing_zeros
row7 = refl

row8 : M8
unfolding layout_computes mul div of_int to_bits round size span climb units odd count_trailing_zeros
row8 = (m8, refl, refl)

row9 : M9
row9 map log g0 g1 g2 r = (passes_252 map log g0 g1 g2 r, refuses_253 map log g0 g1 g2 r)

row10 : M10
row10 map symbols log g0 g1 g2 r = (reads_two_bits map symbols log g0 g1 g2 r, refuses_3 map symbols log g0 g1 g2 r, takes_others map symbols log g0 g1 g2 r)

row11 : M11
row11 = six_symbols

row12 : M12
row12 = (hornuss_dct8, hornuss_dct8_rectangles)

row13 : M13
unfolding layout_computes
row13 = (refl, refl, refl, strip_lines_lem.0, strip_lines_lem.1, too_high_lem)

infixr 5 ◌and◌
abbrev ◌and◌ : {A B : Type 0} → A → B → A × B
a and b = (a, b)

pub marked : Each MARKED
unfolding MARKED
marked = row1 and row2 and row3 and row4 and row5 and row6 and row7 and row8 and row9 and row10 and row11 and row12 and row13 and tt
