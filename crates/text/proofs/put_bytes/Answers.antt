-- What fits of the text stands at its place in one piece.
use Rattle.std.proofs.Common.{◌≡◌, List, ◌++◌, ◌⊎◌, inl, inr, ℕ, ◌+◌, ◌-◌, ◌≤◌, ◌<◌, min, length, take, drop, ap, sym, ◌∙◌, arith, length-take-le, append_assoc, drop_of_length-le}
use Rattle.std.proofs.lemmas.List.{drop-drop, take-append-drop}
use Rattle.std.proofs.lemmas.List.Edits.{sets, sets-eq}
use Rattle.std.proofs.Math.Seq.{length-sets}
use borrow.Rule.Slice.PartMut.{put_mid}
use Rattle.laws.specs.laws.Cases.{le_or_lt}
use Rattle.laws.specs.laws.Lists.{sets_append}
use Rattle.text.specs.Text.{Puts}
use Rattle.text.specs.laws.Text.{clipped, sets_out}
use Rattle.text.proofs.put_bytes.Goals as goal

-- the bytes that do not fit change nothing
fits : (s d : List ℕ) (i n : ℕ) → i ≤ length d → n ≡ min (length s) (length d - i) → sets d i s ≡ sets d i (take n s)
fits s d i n h e = ap (λ (t : List ℕ). sets d i t) (sym (take-append-drop n s)) ∙ sets_append (take n s) (drop n s) d i ∙ go (le_or_lt (length s) (length d - i))
  where
    go : (length s ≤ length d - i) ⊎ (length d - i < length s) → sets (sets d i (take n s)) (i + length (take n s)) (drop n s) ≡ sets d i (take n s)
    go (inl l) = rw (drop_of_length-le s {i = n} (omega arith))
    go (inr l) =
        let f : length (take n s) ≡ n = length-take-le n s (omega arith) in
        sets_out (drop n s) (sets d i (take n s)) (i + length (take n s)) (omega (arith, length-sets d i (take n s)))

put : (s d ys : List ℕ) (i start n k : ℕ) → start ≡ min i (length d) → n ≡ min (length s) (length d - start) → ys ≡ take n s → k ≡ n
    → Puts d i s (put_mid start k d ys) (start + n)
put s d ys i start n k a b e f =
    let t : length (take n s) ≡ n = length-take-le n s (omega arith) in
    let u : sets d i s ≡ sets d start (take n s) = sym (clipped s d i) ∙ ap (λ (j : ℕ). sets d j s) (sym a) ∙ fits s d start n (omega arith) b in
    let v : sets d start (take n s) ≡ take start d ++ take n s ++ drop (start + length (take n s)) d = sets-eq (take n s) d start (omega arith) in
    record { bytes = rw (e, f, drop-drop, ← append_assoc) (sym (u ∙ v ∙ ap (λ (m : ℕ). take start d ++ take n s ++ drop (start + m) d) t)); place = omega arith }

pub returns : goal.returns
returns c =
    let a = c.args in
    let n = c.min-n.result in
    let w = c.copy_from_slice in
    let e : w.new.self ≡ take n a.s.now = w.ensures.after in
    put a.s.now a.out.now w.new.self a.at c.min-start.result n _ c.min-start.ensures c.min-n.ensures e (omega arith)
