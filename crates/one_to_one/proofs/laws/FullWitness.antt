-- Laws: The premises of demand 3 met together with all that they speak of, as the calls themselves hand it on: M4's layout through the cut, thresholds on
-- all four lists, LF grids, permuted orders, the last of three presets, starting grids that are not zero; and the symbols of a filling.
use Rattle.std.specs.Prelude.{◌≡◌, refl, Ok, true, List, [], ◌∷◌, map as each, ℕ, zero, suc, ◌+◌, ◌*◌, ◌<◌, length, get_or, drop, replicate}
use Rattle.std.proofs.Common.{ap, sym, subst, ◌∙◌, arith, eq-eqb}
use Rattle.std.proofs.lemmas.List.{length-replicate}
use Rattle.bits.specs.Bits.{Value}
use Rattle.coded_numbers.specs.Signed.{unpack_signed, symbol}
use Rattle.order_sizes.specs.BlockSizes.{BLOCK_SIZES}
use Rattle.order_natural.specs.Places.{flat, paired}
use Rattle.order_natural.specs.Natural.{natural}
use Rattle.layout_call.specs.Call.{inputs, layout_of}
use Rattle.order_store.specs.Store.{PLACES, stretch}
use Rattle.order_call.specs.Orders.{Given as GivenLists, digits, one_list, orders}
use Rattle.order_call.specs.Call as order
use Rattle.order_call.proofs.laws.Stretch.{store_length, stretch_list}
use Rattle.order_call.specs.Call.{Wrote}
use Rattle.context_record.specs.Record.{bsize_of}
use Rattle.context_thresholds.specs.Thresholds.{lf_value, qf_value, read_values, read_list, read_lists}
use Rattle.context_call.specs.Call as context
use Rattle.coeff_call.specs.Call.{all_lengths_fit, preset_bits}
use Rattle.refusal.specs.Answer.{gives}
use Rattle.lent_check.specs.GroupSides.{group_sides}
use Rattle.lent_cut.specs.Calls.{outcome, cut_of}
use Rattle.lent_cut.proofs.laws.CutSteps.{cut_done_lem}
use Rattle.layout_accepted.specs.Outcome.{bw_of, bh_of}
use Rattle.layout_accepted.specs.laws.Marked.{layout_computes}
use Rattle.one_to_one.specs.Filling.{wanted, Fixed, Filling, Fills, Given}
use Rattle.one_to_one.proofs.laws.Demand3.{one_sequence}
use Rattle.one_to_one.proofs.laws.Wanted.{wanted_filling}
use Rattle.one_to_one.proofs.laws.Chain.{fixed_by_calls}
use Rattle.one_to_one.specs.laws.Computes.{cut_computes, bits_compute, sequence_computes, wanted_computes}
use Rattle.one_to_one.proofs.laws.Computes.{below, cells_below}
use Rattle.one_to_one.specs.FullWitness.{changed, contexts, full, kinds, lists, map, hf_mul, pairs, start, store}
use Rattle.dct_select.specs.Transforms.{TRANSFORMS, wide, high, order_of, turns}
use Rattle.layout.specs.Varblocks.{Varblock, varblock, corners_row, corners_from}
use Rattle.coeff_walk.specs.Places.{cells_of}
use Rattle.coeff_group.specs.PassGroup.{blocks_of, item_of, items_of}
use Rattle.coeff_walk.specs.Sent.{sent}
use Rattle.coeff_group.specs.Sequence.{in_cell, the_sequence}
use Rattle.one_to_one.specs.laws.FullWitness.{columns}

abbrev digit_symbols : List ℕ
digit_symbols = 1 ∷ 1 ∷ 2 ∷ 2 ∷ 0 ∷ 0 ∷ []

lists_read : orders 1 digit_symbols ≡ GivenLists lists [] 6
unfolding orders one_list digits BLOCK_SIZES
lists_read = refl

store_long : length store ≡ 2 * PLACES
unfolding store
store_long = store_length 1 digit_symbols lists [] 6 lists_read

list_of : (k c : ℕ) → k < 13 → c < 3 → stretch store k c ≡ flat (get_or lists (3 * k + c) [])
unfolding store
list_of k c h l = stretch_list 1 digit_symbols lists [] 6 lists_read k c h l

-- bits 1, 1: a field of 13 bits; its lowest bit: order 0
order_call : order.parsed (7 ∷ 0 ∷ []) digit_symbols (replicate (2 * PLACES) 0) ≡ order.leaves (Ok 6) store
unfolding bits_compute order.parsed store
order_call = rw (eq-eqb (length (replicate {A = ℕ} (2 * PLACES) 0)) (2 * PLACES) (length-replicate (2 * PLACES) 0), lists_read)

store_wrote : Wrote store
store_wrote = record { bytes = 7 ∷ 0 ∷ []; symbols = digit_symbols; earlier = replicate (2 * PLACES) 0; count = 6; call = order_call }

contexts_read : context.parsed (2 ∷ 8 ∷ 38 ∷ 160 ∷ 32 ∷ []) 2 map ≡ context.accepted 39 contexts
unfolding bits_compute context.parsed context.judged read_lists read_list read_values lf_value qf_value unpack_signed bsize_of pairs
contexts_read = refl

abbrev four : List ℕ
four = replicate 4 0

layout_accepted : layout_of columns four four four ≡ record { answer = gives 3; kinds = kinds; hf_mul = hf_mul; sigma = four }
unfolding layout_computes
layout_accepted = refl

cut_accepted : cut_of (bw_of columns) (bh_of columns) kinds hf_mul 0 four four ≡ outcome (gives (group_sides 2 2)) kinds hf_mul
unfolding cut_computes
cut_accepted = cut_done_lem (bw_of columns) (bh_of columns) kinds hf_mul 0 four four refl

lengths_fit_lem : all_lengths_fit full ≡ true
unfolding context.contexts_of
lengths_fit_lem = rw (eq-eqb (length store) (2 * PLACES) store_long)

two_bits : preset_bits full ≡ Value 2 2
unfolding bits_compute
two_bits = refl

-- what the calls gave
pub given : Given full
given = record {
  inputs = columns;
  kinds = four;
  hf_mul = four;
  sigma = four;
  used = 3;
  layout = ap (λ o. o.answer) layout_accepted;
  index = 0;
  out_kinds = four;
  out_hf_mul = four;
  cutting = ap (λ o. cut_of (bw_of columns) (bh_of columns) o.kinds o.hf_mul 0 four four) layout_accepted ∙ cut_accepted;
  context_bytes = 2 ∷ 8 ∷ 38 ∷ 160 ∷ 32 ∷ [];
  are_bytes = below 256 (omega arith) (2 ∷ 8 ∷ 38 ∷ 160 ∷ 32 ∷ []) tt;
  clusters = 2;
  context_map = map;
  bits_read = 39;
  contexts = ap (λ r. r.answer) contexts_read;
  record_is = sym (ap (λ r. r.contexts) contexts_read);
  wrote = store_wrote;
  rest = record {
    few = omega arith;
    preset = 2;
    bits_read = 2;
    read_whole = two_bits;
    below = omega arith;
    lengths = lengths_fit_lem;
    three = refl;
    words = cells_below start tt;
    shift = refl;
  };
}

-- all premises of demand 3
pub fixed : Fixed full
fixed = fixed_by_calls full given

-- none of these cells is low-frequency
changed_is : wanted full (in_cell changed) ≡ changed
unfolding wanted_computes
changed_is = refl

pub filling : Filling full changed
filling = subst (Filling full) changed_is (wanted_filling full fixed (in_cell changed) (cells_below changed tt))

-- its symbols
lists_0 : (c : ℕ) → c < 3 → get_or lists (3 * 4 + c) [] ≡ natural 16 8
unfolding BLOCK_SIZES
lists_0 zero l = refl
lists_0 (suc zero) l = refl
lists_0 (suc (suc zero)) l = refl
lists_0 (suc (suc (suc c))) l = absurd (omega arith)

order_4 : (c : ℕ) → c < 3 → stretch store 4 c ≡ flat (natural 16 8)
order_4 c l = list_of 4 c (omega arith) l ∙ ap flat (lists_0 c l)

-- the symbols that make a varblock's cells of channel c, of which l is the list
abbrev changes_in : ℕ → Varblock → List ℕ → List ℕ
changes_in c v l =
    each (λ (p : ℕ). symbol (in_cell changed c p) (in_cell start c p)) (cells_of (turns v.type) 16 (8 * v.x) (8 * v.y) (drop (blocks_of v) (paired l)))

-- the sequence, of the lists of channels 0, 1, 2: a, b, c those of the first varblock, d, e, f those of the other two
abbrev sequence_of : (a b c d e f : List ℕ) → List ℕ
sequence_of a b c d e f =
    let u = varblock 0 0 6 5 in
    let v = varblock 1 0 0 1 in
    let w = varblock 1 1 0 3 in
    sent (changes_in 1 u b ∷ changes_in 0 u a ∷ changes_in 2 u c ∷ changes_in 1 v e ∷ changes_in 0 v d ∷ changes_in 2 v f ∷ changes_in 1 w e ∷ changes_in 0 w d ∷ changes_in 2 w f ∷ [])

by_lists : the_sequence full.pass_group full.grids changed
    ≡ sequence_of (stretch store 4 0) (stretch store 4 1) (stretch store 4 2) (stretch store 0 0) (stretch store 0 1) (stretch store 0 2)
unfolding the_sequence items_of item_of corners_row corners_from order_of wide high TRANSFORMS
by_lists = refl

computed : sequence_of (flat (natural 16 8)) (flat (natural 16 8)) (flat (natural 16 8)) (flat (get_or lists 0 [])) (flat (get_or lists 1 [])) (flat (get_or lists 2 []))
    ≡ 1 ∷ 6 ∷ 0 ∷ 1 ∷ 0 ∷ 14 ∷ 1 ∷ 0 ∷ 0 ∷ 3 ∷ 0 ∷ 0 ∷ 0 ∷ 1 ∷ 0 ∷ 2 ∷ 0 ∷ []
unfolding sequence_computes
computed = refl

pub sequence_is : the_sequence full.pass_group full.grids changed ≡ 1 ∷ 6 ∷ 0 ∷ 1 ∷ 0 ∷ 14 ∷ 1 ∷ 0 ∷ 0 ∷ 3 ∷ 0 ∷ 0 ∷ 0 ∷ 1 ∷ 0 ∷ 2 ∷ 0 ∷ []
sequence_is =
    by_lists
    ∙ rw (
      order_4 0 (omega arith),
      order_4 1 (omega arith),
      order_4 2 (omega arith),
      list_of 0 0 (omega arith) (omega arith),
      list_of 0 1 (omega arith) (omega arith),
      list_of 0 2 (omega arith) (omega arith),
    )
    computed

pub filled : Fills full (1 ∷ 6 ∷ 0 ∷ 1 ∷ 0 ∷ 14 ∷ 1 ∷ 0 ∷ 0 ∷ 3 ∷ 0 ∷ 0 ∷ 0 ∷ 1 ∷ 0 ∷ 2 ∷ 0 ∷ []) changed
filled =
    let o = one_sequence full fixed changed filling in
    (o.1 (1 ∷ 6 ∷ 0 ∷ 1 ∷ 0 ∷ 14 ∷ 1 ∷ 0 ∷ 0 ∷ 3 ∷ 0 ∷ 0 ∷ 0 ∷ 1 ∷ 0 ∷ 2 ∷ 0 ∷ []) (rw sequence_is at o.0)).1 (sym sequence_is)
