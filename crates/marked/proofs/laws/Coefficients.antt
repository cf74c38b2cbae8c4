-- Laws: M9 to M11, from the coefficient call's definition.
use Rattle.std.specs.Prelude.{◌≡◌, refl, Ok, true, ℕ, ◌+◌, ◌*◌, ◌/◌, ◌%◌, ◌^◌, ◌-◌, ◌<◌, ◌≤◌, length, get_or, take, drop, replicate}
use Rattle.std.proofs.Math.Path.{ap}
use Rattle.std.proofs.Common.{◌∙◌, arith, take_all, get_or-take, get_or-drop}
use mathlib.Core.List.{List, [], ◌∷◌, ◌++◌}
use Rattle.std.proofs.lemmas.List.Edits.{sets, sets-eq}
use borrow.Author.Tests.{eq-eqb, le-leb}
use Rattle.refusal.specs.declared.Refusal.TheVariants.{Preset}
use Rattle.refusal.specs.Said as refusals
use Rattle.refusal.specs.Said.{said}
use Rattle.bits.specs.Bits.{Value, read_bits, bits_of, value_of}
use Rattle.coded_numbers.specs.Exponent.{exponent, exponent_from}
use Rattle.dct_select.specs.Transforms.{TRANSFORMS, wide, high}
use Rattle.layout.specs.RowByRow.{along_row, rows}
use Rattle.laws.specs.Lists.{fill_from}
use Rattle.layout.specs.Check.{clear, fitting, visit_cell, check_run}
use Rattle.layout.specs.Varblocks.{corners_row, corners_from}
use Rattle.lent_sides.specs.Limits.{in_limits}
use Rattle.context_record.specs.Record.{fit, fit_of, bsize_of}
use Rattle.context_call.specs.Call.{contexts_of}
use Rattle.order_store.specs.Store.{PLACES}
use Rattle.coeff_walk.specs.Item.{counted}
use Rattle.refusal.specs.Answer.{gives, refuses}
use Rattle.coeff_group.specs.Group.{Reading, going, read_item, read_items, zero_rows}
use Rattle.coeff_group.proofs.laws.GroupLaws.{group_items_lem}
use Rattle.coeff_group.specs.PassGroup.{PassGroup, varblocks, item_of, items_of}
use Rattle.coeff_checks.specs.Checks.{layout_fits, sides_fit}
use Rattle.coeff_call.specs.Call.{Outcome, leaves, all_lengths_fit, preset_map, reading, outcome_of, refuse, preset_bits, call, Passed}
use Rattle.coeff_call.specs.laws.CallLaws.{checks_pass, call_preset, call_reads}
use Rattle.one_to_one.specs.Plain.{store, plain}
use Rattle.one_to_one.specs.laws.Computes.{reading_computes}
use Rattle.one_to_one.proofs.laws.Plain.{store_long, store_fits, order_0, order_2}
use Rattle.marked.specs.Coefficients.{Room, dct16, dct8, gains}

-- one Dct8, default contexts, natural orders
abbrev block : PassGroup
block = plain 1 1 (2 ∷ []) (1 ∷ [])

-- one type 4 on 2 × 2 blocks, default contexts, natural orders, one preset
abbrev square : PassGroup
square = plain 2 2 (6 ∷ 1 ∷ 1 ∷ 1 ∷ []) (1 ∷ 0 ∷ 0 ∷ 0 ∷ [])

-- The checks before work.
block_laid : layout_fits block ≡ true
unfolding check_run visit_cell fitting clear fill_from rows along_row wide high TRANSFORMS
block_laid = refl

square_laid : layout_fits square ≡ true
unfolding check_run visit_cell fitting clear fill_from rows along_row wide high TRANSFORMS
square_laid = refl

sided : (sides_fit block ≡ true) × (sides_fit square ≡ true)
unfolding in_limits
sided = (refl, refl)

defaults_fit : fit block.contexts ≡ true
unfolding fit_of bsize_of contexts_of
defaults_fit = refl

module _ (presets : ℕ) (few : presets ≤ 256) (map bytes symbols log g0 g1 g2 : List ℕ) (long : length map ≡ 7425 * presets) (room : 192 ≤ length log)
    (l0 : length g0 ≡ 64) (l1 : length g1 ≡ 64) (l2 : length g2 ≡ 64) where
  dct8_lengths : all_lengths_fit (dct8 presets map bytes symbols log g0 g1 g2) ≡ true
  unfolding contexts_of
  dct8_lengths =
      rw (
        eq-eqb (length store) (2 * PLACES) store_long,
        eq-eqb (length map) (7425 * presets) long,
        eq-eqb (length g0) 64 l0,
        eq-eqb (length g1) 64 l1,
        eq-eqb (length g2) 64 l2,
        le-leb 192 (length log) room,
      )

  dct8_passed : Passed (dct8 presets map bytes symbols log g0 g1 g2)
  dct8_passed = record {
    sides = sided.0;
    parameters = rw (le-leb presets 256 few);
    contexts = defaults_fit;
    lengths = dct8_lengths;
    layout = block_laid;
    places = store_fits;
  }

no_bits : (bytes : List ℕ) → read_bits bytes 0 (exponent 1) ≡ Value 0 0
unfolding read_bits value_of exponent_from
no_bits bytes = rw (le-leb 0 (length (bits_of bytes)) (omega arith))

-- M9
count_252 : (preset_map log g0 g1 g2 : List ℕ)
    → (outcome_of (read_items 0 15 preset_map (items_of square (varblocks square))
    (going (252 ∷ (replicate 252 2 ++ (0 ∷ 0 ∷ []))) 0 log (g0 ∷ g1 ∷ g2 ∷ []) zero_rows))).answer ≡ gives 255
unfolding reading_computes
count_252 preset_map log g0 g1 g2 = rw (order_2 0 (omega arith), order_2 1 (omega arith), order_2 2 (omega arith))

count_253 : (preset_map us log g0 g1 g2 : List ℕ)
    → (outcome_of (read_items 0 15 preset_map (items_of square (varblocks square)) (going (253 ∷ us) 0 log (g0 ∷ g1 ∷ g2 ∷ []) zero_rows))).answer
    ≡ refuses (refusals.said_at 16 1 0)
unfolding items_of item_of corners_row corners_from wide high TRANSFORMS read_items read_item counted
count_253 preset_map us log g0 g1 g2 = refl

-- M11
abbrev clusters : List ℕ → List ℕ
clusters preset_map =
    let part = take 458 (drop 555 preset_map) in
    get_or preset_map 300 0 ∷ get_or part 63 0 ∷ get_or part 3 0 ∷ get_or part 4 0 ∷ get_or preset_map 307 0 ∷ get_or preset_map 307 0 ∷ []

dct8_reads : (preset_map log g0 g1 g2 : List ℕ)
    → outcome_of (read_items 0 15 preset_map (items_of block (varblocks block)) (going (2 ∷ 3 ∷ 0 ∷ 4 ∷ 0 ∷ 0 ∷ []) 0 log (g0 ∷ g1 ∷ g2 ∷ []) zero_rows))
    ≡ leaves (Ok 6) (sets log 0 (clusters preset_map)) g0 (gains (gains g1 8 (2 ^ 32 - 2)) 2 2) g2
unfolding reading_computes
dct8_reads preset_map log g0 g1 g2 = rw (order_0 0 (omega arith), order_0 1 (omega arith), order_0 2 (omega arith))

part_at : (map : List ℕ) (k : ℕ) → k < 458 → get_or (take 458 (drop 555 map)) k 0 ≡ get_or map (555 + k) 0
part_at map k h = get_or-take 458 (drop 555 map) k 0 h ∙ get_or-drop 555 map k 0

places_are : (map : List ℕ) → clusters map ≡ get_or map 300 0 ∷ get_or map 618 0 ∷ get_or map 558 0 ∷ get_or map 559 0 ∷ get_or map 307 0 ∷ get_or map 307 0 ∷ []
places_are map = rw (part_at map 63 (omega arith), part_at map 3 (omega arith), part_at map 4 (omega arith))

whole : (w : ℕ) (map : List ℕ) → length map ≡ w → take w (drop (w * 0) map) ≡ map
whole w map e = let z : w * 0 ≡ 0 = omega arith in rw z (take_all w map (omega arith))

module _ (map log g0 g1 g2 : List ℕ) (room : Room 1 4 map log g0 g1 g2) where
  dct16_lengths : (symbols : List ℕ) → all_lengths_fit (dct16 map symbols log g0 g1 g2) ≡ true
  unfolding contexts_of
  dct16_lengths symbols =
      rw (
        eq-eqb (length store) (2 * PLACES) store_long,
        eq-eqb (length map) 7425 room.entries,
        eq-eqb (length g0) 256 room.cells0,
        eq-eqb (length g1) 256 room.cells1,
        eq-eqb (length g2) 256 room.cells2,
        le-leb 768 (length log) room.bytes,
      )

  dct16_call : (symbols : List ℕ) → call (dct16 map symbols log g0 g1 g2)
      ≡ outcome_of (read_items 0 15 map (items_of square (varblocks square)) (going symbols 0 log (g0 ∷ g1 ∷ g2 ∷ []) zero_rows))
  unfolding reading contexts_of
  dct16_call symbols =
      let start : Reading = going symbols 0 log (g0 ∷ g1 ∷ g2 ∷ []) zero_rows in
      let L = dct16 map symbols log g0 g1 g2 in
      call_reads L (checks_pass L (record { sides = sided.1; parameters = refl; contexts = defaults_fit; lengths = dct16_lengths symbols; layout = square_laid; places = store_fits })) 0 0 (no_bits []) (omega arith)
      ∙ ap outcome_of (group_items_lem 0 15 (preset_map L 0) square (varblocks square) start
      ∙ ap (λ (m : List ℕ). read_items 0 15 m (items_of square (varblocks square)) start) (whole 7425 map room.entries))

  -- count 252 passes: accepted, with as many symbols that are not 0
  pub passes_252 : (call (dct16 map (252 ∷ (replicate 252 2 ++ (0 ∷ 0 ∷ []))) log g0 g1 g2)).answer ≡ gives 255
  passes_252 = ap (λ (o : Outcome). o.answer) (dct16_call (252 ∷ (replicate 252 2 ++ (0 ∷ 0 ∷ [])))) ∙ count_252 map log g0 g1 g2

  -- count 253 is refused, whatever follows
  pub refuses_253 : (us : List ℕ) → (call (dct16 map (253 ∷ us) log g0 g1 g2)).answer ≡ refuses (refusals.said_at 16 1 0)
  refuses_253 us = ap (λ (o : Outcome). o.answer) (dct16_call (253 ∷ us)) ∙ count_253 map us log g0 g1 g2

module _ (map log g0 g1 g2 : List ℕ) (room : Room 1 1 map log g0 g1 g2) where
  dct8_call : (symbols : List ℕ) → call (dct8 1 map [] symbols log g0 g1 g2)
      ≡ outcome_of (read_items 0 15 map (items_of block (varblocks block)) (going symbols 0 log (g0 ∷ g1 ∷ g2 ∷ []) zero_rows))
  unfolding reading contexts_of
  dct8_call symbols =
      let start : Reading = going symbols 0 log (g0 ∷ g1 ∷ g2 ∷ []) zero_rows in
      let L = dct8 1 map [] symbols log g0 g1 g2 in
      let p = dct8_passed 1 (omega arith) map [] symbols log g0 g1 g2 room.entries room.bytes room.cells0 room.cells1 room.cells2 in
      call_reads L (checks_pass L p) 0 0 (no_bits []) (omega arith)
      ∙ ap outcome_of (group_items_lem 0 15 (preset_map L 0) block (varblocks block) start
      ∙ ap (λ (m : List ℕ). read_items 0 15 m (items_of block (varblocks block)) start) (whole 7425 map room.entries))

  -- the six symbols: what is gained, and the bytes that are logged
  pub six_symbols : call (dct8 1 map [] (2 ∷ 3 ∷ 0 ∷ 4 ∷ 0 ∷ 0 ∷ []) log g0 g1 g2)
      ≡ leaves (Ok 6) (get_or map 300 0 ∷ get_or map 618 0 ∷ get_or map 558 0 ∷ get_or map 559 0 ∷ get_or map 307 0 ∷ get_or map 307 0 ∷ drop 6 log)
      g0 (gains (gains g1 8 (2 ^ 32 - 2)) 2 2) g2
  six_symbols =
      let r = room.bytes in
      dct8_call (2 ∷ 3 ∷ 0 ∷ 4 ∷ 0 ∷ 0 ∷ []) ∙ dct8_reads map log g0 g1 g2
      ∙ ap (λ (l : List ℕ). leaves (Ok 6) l g0 (gains (gains g1 8 (2 ^ 32 - 2)) 2 2) g2)
      (sets-eq (clusters map) log 0 (omega arith) ∙ ap (λ (l : List ℕ). l ++ drop 6 log) (places_are map))

-- M10
two_bits : (b : ℕ) (rest : List ℕ) → read_bits (b ∷ rest) 0 (exponent 3) ≡ Value (b % 4) 2
unfolding read_bits bits_of value_of exponent_from
two_bits b rest =
    let e : b % 2 + 2 * (b / 2 % 2 + 2 * 0) ≡ b % 4 = omega arith in
    let l : 2 ≤ length (bits_of (b ∷ rest)) = omega arith in
    rw (le-leb 2 (length (bits_of (b ∷ rest))) l) (ap (λ (v : ℕ). Value v 2) e)

module _ (map symbols log g0 g1 g2 : List ℕ) (room : Room 3 1 map log g0 g1 g2) where
  passed : (bytes : List ℕ) → Passed (dct8 3 map bytes symbols log g0 g1 g2)
  passed bytes = dct8_passed 3 (omega arith) map bytes symbols log g0 g1 g2 room.entries room.bytes room.cells0 room.cells1 room.cells2

  -- the two lowest bits of the first byte are the preset number
  pub reads_two_bits : (b : ℕ) (rest : List ℕ) → preset_bits (dct8 3 map (b ∷ rest) symbols log g0 g1 g2) ≡ Value (b % 4) 2
  reads_two_bits b rest = two_bits b rest

  -- 3 is refused
  pub refuses_3 : (rest : List ℕ) → call (dct8 3 map (3 ∷ rest) symbols log g0 g1 g2) ≡ refuse (dct8 3 map (3 ∷ rest) symbols log g0 g1 g2) (said (Preset 2))
  refuses_3 rest =
      let p = passed (3 ∷ rest) in
      call_preset (dct8 3 map (3 ∷ rest) symbols log g0 g1 g2) (checks_pass (dct8 3 map (3 ∷ rest) symbols log g0 g1 g2) p) 3 2 (two_bits 3 rest) (omega arith)

  -- 0, 1 and 2 are read with
  pub takes_others : (n : ℕ) (rest : List ℕ) → n < 3 → call (dct8 3 map (n ∷ rest) symbols log g0 g1 g2) ≡ outcome_of (reading (dct8 3 map (n ∷ rest) symbols log g0 g1 g2) n)
  takes_others n rest h =
      let p = passed (n ∷ rest) in
      let e : n % 4 ≡ n = omega arith in
      call_reads (dct8 3 map (n ∷ rest) symbols log g0 g1 g2) (checks_pass (dct8 3 map (n ∷ rest) symbols log g0 g1 g2) p) n 2
      (two_bits n rest ∙ ap (λ (k : ℕ). Value k 2) e) h
