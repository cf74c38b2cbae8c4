use Rattle.std.proofs.Common.{rules, arith, ◌≡◌, refl, ◌∙◌, ap, sym, ℕ, Ok, Err}
use Rattle.refusal.specs.declared.Refusal.{Refusal}
use Rattle.refusal.specs.declared.Refusal.TheVariants.{BitsEnd}
use Rattle.refusal.specs.Said.{said}
use Rattle.bits.specs.declared.BitPlace.{BitPlace}
use Rattle.bits.specs.Bits.{read_bits}
use Rattle.bits.specs.Reads.{Got, bits_before, got_of, got_value, got_end}
use Rattle.bits.specs.laws.Laws.{WasValue, was_value, was_end, before_at, value_at}
use Rattle.context_thresholds.specs.Thresholds.{read_lists}
use Rattle.context_call.specs.Call.{judged_lists, or_ended, accepted, refused, contexts_of, no_lists, DEFAULT_MAP}
use Rattle.context_call.specs.laws.Parts.{kept_same, refused_is}
use Rattle.context_call.specs.laws.CallLaws.{parsed_ended, parsed_default, parsed_lists}
use Rattle.context_call.proofs.parse_into.Goals.{In_ok-bit, In_err-bit}
use Rattle.context_call.proofs.parse_into.Goals as goal

-- the first bit, where it is there
got : (c : In_ok-bit) (r : Got) → c.read_bits.result ≡ r → c.read_bits.result ≡ got_value c.in_ok-bit.bit c.in_ok-bit.next
got c (Ok (v, w)) e =
    let f : c.map_err.result ≡ Ok (v, w) = search rules in
    let g : ◌≡◌ {A = ℕ × BitPlace} (v, w) (c.in_ok-bit.bit, c.in_ok-bit.next) = cc (sym f ∙ c.in_ok-bit.was) in
    e ∙ ap (λ (x : ℕ × BitPlace). got_value x.0 x.1) g
got c (Err end) e =
    let f : c.map_err.result ≡ Err (BitsEnd end.taken) = search rules in
    cc (sym f ∙ c.in_ok-bit.was)

bit : (c : In_ok-bit) → WasValue (read_bits c.args.bytes.now 0 1) c.in_ok-bit.bit c.in_ok-bit.next
bit c =
    let s = c.args.bytes.now in
    was_value 0 (read_bits s 0 1) c.in_ok-bit.bit c.in_ok-bit.next
    (ap (λ (p : BitPlace). got_of (bits_before p) (read_bits s (bits_before p) 1)) (sym c.start.ensures) ∙ sym c.read_bits.ensures ∙ got c c.read_bits.result refl)

bit_near : (c : In_ok-bit) → (bits_before c.in_ok-bit.next ≡ (bit c).at) × ((bit c).at ≡ 1)
bit_near c =
    let b = bit c in
    (ap bits_before b.place ∙ before_at b.at, (value_at c.args.bytes.now 0 1 c.in_ok-bit.bit b.at b.is).0)

-- or where the bits end
short : (c : In_err-bit) (r : Got) → c.read_bits.result ≡ r → (k : ℕ) × (c.read_bits.result ≡ got_end k) × (c.in_err-bit.field-0.0 ≡ BitsEnd k)
short c (Ok (v, w)) e =
    let f : c.map_err.result ≡ Ok (v, w) = search rules in
    cc (sym f ∙ c.in_err-bit.was)
short c (Err end) e =
    let f : c.map_err.result ≡ Err (BitsEnd end.taken) = search rules in
    (end.taken, e, cc (sym f ∙ c.in_err-bit.was))

pub returns-in_err-bit : goal.returns-in_err-bit
returns-in_err-bit c =
    let a = c.args in
    let s = a.bytes.now in
    let w = short (goal.at.returns-in_err-bit c).In_err-bit c.read_bits.result refl in
    let e = was_end 0 (read_bits s 0 1) w.0
    (ap (λ (p : BitPlace). got_of (bits_before p) (read_bits s (bits_before p) 1)) (sym c.start.ensures) ∙ sym c.read_bits.ensures ∙ w.1)
    in
    let t : w.0 ≡ e.at = omega (arith, e.taken) in
    let f : c.from_residual.result ≡ Err c.in_err-bit.field-0.0 = search rules in
    refused_is a.lf_thresholds.now a.qf_thresholds.now a.block_ctx_map.now c.from_residual.result (BitsEnd w.0) (f ∙ ap (λ (x : Refusal). Err x) w.2)
    ∙ kept_same a.lf_thresholds.now a.qf_thresholds.now a.block_ctx_map.now _ _
    (ap (λ (n : ℕ). refused (said (BitsEnd n))) t ∙ parsed_ended s a.num_clusters a.map.now e.at e.is)

pub returns-then-bit-eq1 : goal.returns-then-bit-eq1
returns-then-bit-eq1 c =
    let a = c.args in
    let b = bit (goal.at.returns-then-bit-eq1 c).In_ok-bit in
    let at : c.bits_read.result ≡ b.at = omega (arith, bit_near (goal.at.returns-then-bit-eq1 c).In_ok-bit) in
    c.default_contexts.ensures
    ∙ ap (λ (n : ℕ). accepted n (contexts_of 15 no_lists DEFAULT_MAP)) at
    ∙ kept_same a.lf_thresholds.now a.qf_thresholds.now a.block_ctx_map.now (accepted b.at (contexts_of 15 no_lists DEFAULT_MAP)) _
    (parsed_default a.bytes.now a.num_clusters a.map.now c.in_ok-bit.bit b.at b.is c.if-bit-eq1.true)

pub by_lists-requires : goal.by_lists-requires
by_lists-requires c =
    omega (arith, bit_near (goal.at.by_lists-requires c).In_ok-bit)

pub returns : goal.returns
returns c =
    let a = c.args in
    let b = bit (goal.at.returns c).In_ok-bit in
    c.by_lists.ensures
    ∙ kept_same a.lf_thresholds.now a.qf_thresholds.now a.block_ctx_map.now _ _
    (ap (λ (p : ℕ). or_ended (read_lists a.bytes.now p) (judged_lists a.num_clusters a.map.now)) (bit_near (goal.at.returns c).In_ok-bit).0
    ∙ parsed_lists a.bytes.now a.num_clusters a.map.now c.in_ok-bit.bit b.at b.is c.if-bit-eq1.false)
