-- No job's text is longer than the 90,000 bytes that the programs lend for it.
use Rattle.std.specs.Prelude.{◌≡◌, refl, Bool, true, false, cond, ◌&&◌, ◌⊎◌, List, [], ◌∷◌, ◌++◌, leb, eqb, get_or, drop, replicate}
use Rattle.std.proofs.Common.{ap, ◌∙◌, inl, inr, mul-le-mul, lt-ltb, le-ltb, le-leb, leb-true}
use Prim.Native.Nat.{ℕ, zero, suc, ◌+◌, ◌*◌, ◌-◌, ◌/◌, ◌%◌, ◌^◌, ◌≤◌, ◌<◌}
use Rattle.std.proofs.Math.Nat.{suc-mul}
use native.Mathlib.Omega.{arith}
use Rattle.std.proofs.Math.ListN.{length, length-append}
use Rattle.std.proofs.Math.Seq.{length-sets}
use Rattle.std.proofs.lemmas.List.Edits.{sets-eq}
use Rattle.std.proofs.lemmas.Bool.{lt-leb}
use Rattle.laws.specs.laws.Cases.{le_or_lt, and-true}
use Rattle.refusal.specs.declared.Said.{Said}
use Rattle.layout.specs.Grid.{block_at}
use Rattle.layout.specs.Valid.{Layout}
use Rattle.layout.specs.Varblocks.{Varblock, varblocks_of, area, corners_row, corners_from}
use Rattle.refusal.specs.Answer.{Answer, gives, refuses}
use Rattle.layout_accepted.proofs.laws.Theorems.{accepted_layout}
use Rattle.text.specs.laws.Decimal.{ten}
use Rattle.text.specs.Text.{digits_of, decimal, Puts}
use Rattle.lister_job.specs.Job.{width, height, types, muls, has_size, has_end}
use Rattle.lister.specs.Texts.{BLOCKS, AREA, REFUSED, BAD_INPUT, spaced, last, line_of, lines_of, accepted_text, refused_text}
use Rattle.lister.specs.Listing.{text_by, bw_of, bh_of, blocks, listed, outcome, layout_text, text_of}
use Rattle.lister.specs.laws.ListSteps.{few_wide, few_high}

-- a number below 10^k has at most k digits, and every number that is printed has at most 20
digits_most : (j k n : ℕ) → n < 10 ^ suc k → length (digits_of j n) ≤ suc k
unfolding digits_of
digits_most zero k n h = omega arith
digits_most (suc j) k n h = go (le_or_lt 10 n) k h (λ k l. digits_most j k (n / 10) l)
  where
    go : (10 ≤ n) ⊎ (n < 10) → (k : ℕ) → n < 10 ^ suc k → ((k : ℕ) → n / 10 < 10 ^ suc k → length (digits_of j (n / 10)) ≤ suc k) → length (digits_of (suc j) n) ≤ suc k
    go (inr l) k h ih = rw (lt-ltb n 10 l) (omega arith)
    go (inl l) zero h ih = absurd (omega (arith, ten 0))
    go (inl l) (suc k) h ih =
        let a = ih k (omega (arith, ten (suc k))) in
        let b : length (digits_of j (n / 10) ++ ((48 + n % 10) ∷ [])) ≡ length (digits_of j (n / 10)) + 1 = length-append (digits_of j (n / 10)) ((48 + n % 10) ∷ []) in
        rw (le-ltb n 10 l) (omega arith)

digits_few : (j n : ℕ) → length (digits_of j n) ≤ suc j
unfolding digits_of
digits_few zero n = omega arith
digits_few (suc j) n = go (le_or_lt 10 n) (digits_few j (n / 10))
  where
    go : (10 ≤ n) ⊎ (n < 10) → length (digits_of j (n / 10)) ≤ suc j → length (digits_of (suc j) n) ≤ suc (suc j)
    go (inr l) ih = rw (lt-ltb n 10 l) (omega arith)
    go (inl l) ih =
        let b : length (digits_of j (n / 10) ++ ((48 + n % 10) ∷ [])) ≡ length (digits_of j (n / 10)) + 1 = length-append (digits_of j (n / 10)) ((48 + n % 10) ∷ []) in
        rw (le-ltb n 10 l) (omega arith)

-- with the space or line end behind it
spaced_is : (n : ℕ) → length (spaced n) ≡ length (decimal n) + 1
spaced_is n = length-append (decimal n) (32 ∷ [])

last_is : (n : ℕ) → length (last n) ≡ length (decimal n) + 1
last_is n = length-append (decimal n) (10 ∷ [])

-- a line: numbers below 100, and hf_mul below 10^10
line_most : (v : Varblock) → v.x < 100 → v.y < 100 → v.type < 100 → v.hf_mul < 10 ^ 10 → length (line_of v) ≤ 20
line_most v a b c d =
    let x = digits_most 19 1 v.x a in
    let y = digits_most 19 1 v.y b in
    let t = digits_most 19 1 v.type c in
    let m = digits_most 19 9 v.hf_mul d in
    let l = length-append (spaced v.x) (spaced v.y ++ (spaced v.type ++ last v.hf_mul)) in
    let l' = length-append (spaced v.y) (spaced v.type ++ last v.hf_mul) in
    let l'' = length-append (spaced v.type) (last v.hf_mul) in
    omega (arith, spaced_is v.x, spaced_is v.y, spaced_is v.type, last_is v.hf_mul)

module _ (bw bh : ℕ) (kinds hf_mul : List ℕ) (ok : Layout bw bh kinds hf_mul) (wide : bw ≤ 64) (high : bh ≤ 64) where
  row_most : (n x y : ℕ) (l : List Varblock) → x + n ≤ bw → y < bh → length (lines_of (corners_row (block_at kinds bw) (block_at hf_mul bw) n x y l)) ≤ 20 * n + length (lines_of l)
  unfolding corners_row lines_of
  row_most zero x y l i j = omega arith
  row_most (suc n) x y l i j = go (le_or_lt 2 (block_at kinds bw x y)) (row_most n (x + 1) y l (omega arith) j)
    where
      go : (2 ≤ block_at kinds bw x y) ⊎ (block_at kinds bw x y < 2) → length (lines_of (corners_row (block_at kinds bw) (block_at hf_mul bw) n (x + 1) y l)) ≤ 20 * n + length (lines_of l)
          → length (lines_of (corners_row (block_at kinds bw) (block_at hf_mul bw) (suc n) x y l)) ≤ 20 * suc n + length (lines_of l)
      go (inr c) ih = rw (lt-leb 2 (block_at kinds bw x y) c) (omega arith)
      go (inl c) ih =
          let f = ok.valid.fits x y (omega arith) j c in
          let k = f.known in
          let s = f.signed in
          let m = line_most (record { x = x; y = y; type = block_at kinds bw x y - 2; hf_mul = block_at hf_mul bw x y }) (omega arith) (omega arith) (omega arith) (omega arith) in
          let a = length-append (line_of (record { x = x; y = y; type = block_at kinds bw x y - 2; hf_mul = block_at hf_mul bw x y })) (lines_of (corners_row (block_at kinds bw) (block_at hf_mul bw) n (x + 1) y l)) in
          rw (le-leb 2 (block_at kinds bw x y) c) (omega arith)

  rows_most : (n y : ℕ) → y + n ≤ bh → length (lines_of (corners_from (block_at kinds bw) (block_at hf_mul bw) bw n y)) ≤ 20 * (n * bw)
  unfolding corners_from lines_of
  rows_most zero y j = omega arith
  rows_most (suc n) y j =
      let a = row_most bw 0 y (corners_from (block_at kinds bw) (block_at hf_mul bw) bw n (y + 1)) (omega arith) (omega arith) in
      let b = rows_most n (y + 1) (omega arith) in
      omega (arith, suc-mul n bw)

  accepted_most : length (accepted_text bw bh kinds hf_mul) ≤ 90000
  accepted_most =
      let lines = lines_of (varblocks_of bw bh kinds hf_mul) in
      let sum = last (area (varblocks_of bw bh kinds hf_mul)) in
      let a = length-append BLOCKS (spaced bw ++ (last bh ++ (lines ++ (AREA ++ sum)))) in
      let b = length-append (spaced bw) (last bh ++ (lines ++ (AREA ++ sum))) in
      let c = length-append (last bh) (lines ++ (AREA ++ sum)) in
      let d = length-append lines (AREA ++ sum) in
      let e = length-append AREA sum in
      let m : bh * bw ≤ 4096 = mul-le-mul high wide in
      let r = rows_most bh 0 (omega arith) in
      omega (arith, digits_few 19 bw, digits_few 19 bh, digits_few 19 (area (varblocks_of bw bh kinds hf_mul)), spaced_is bw, last_is bh, last_is (area (varblocks_of bw bh kinds hf_mul)))

refused_most : (r : Said) → length (refused_text r) ≤ 90000
refused_most r =
    let a = length-append REFUSED (spaced r.number ++ (spaced r.x ++ last r.y)) in
    let b = length-append (spaced r.number) (spaced r.x ++ last r.y) in
    let c = length-append (spaced r.x) (last r.y) in
    omega (arith, digits_few 19 r.number, digits_few 19 r.x, digits_few 19 r.y, spaced_is r.number, spaced_is r.x, last_is r.y)

layout_most : (w h : ℕ) (ts ms : List ℕ) → w ≤ 512 → h ≤ 512 → length (layout_text w h ts ms) ≤ 90000
layout_most w h ts ms a b = go (outcome w h ts ms).answer refl
  where
    go : (r : Answer ℕ) → (outcome w h ts ms).answer ≡ r → length (text_by (bw_of w) (bh_of h) (outcome w h ts ms) r) ≤ 90000
    go (refuses r) e = refused_most r
    go (gives used) e =
        accepted_most (bw_of w) (bh_of h) (outcome w h ts ms).kinds (outcome w h ts ms).hf_mul
        (accepted_layout (listed w h ts ms) (replicate (blocks w h ts ms) 0) (replicate (blocks w h ts ms) 0) (replicate (blocks w h ts ms) 0) used e) (few_wide w a) (few_high h b)

-- no job's text is longer than 90,000 bytes
pub text_most : (s : List ℕ) → length (text_of s) ≤ 90000
unfolding text_of
text_most s = go (has_size s && has_end s) refl
  where
    go : (b : Bool) → has_size s && has_end s ≡ b → length (cond b (layout_text (width s) (height s) (types s) (muls s)) BAD_INPUT) ≤ 90000
    go false e = omega arith
    go true e =
        let a = and-true (has_size s) (has_end s) e in
        let h = and-true (leb 5 (length s) && eqb (get_or s 0 0) 16 && leb (width s) 512) (leb (height s) 512) a.0 in
        let w = and-true (leb 5 (length s) && eqb (get_or s 0 0) 16) (leb (width s) 512) h.0 in
        layout_most (width s) (height s) (types s) (muls s) (leb-true (width s) 512 w.1) (leb-true (height s) 512 h.1)

-- so into as many bytes all of it is put, and later ones stay
pub text_whole : (s d d' : List ℕ) (r : ℕ) → 90000 ≤ length d → Puts d 0 (text_of s) d' r → (r ≤ length d') × (r ≡ length (text_of s)) × (d' ≡ text_of s ++ drop r d)
text_whole s d d' r l p =
    let m = text_most s in
    let z = p.place in
    let e : r ≡ length (text_of s) = omega arith in
    let f : 0 + length (text_of s) ≡ r = omega arith in
    let n : length d' ≡ length d = ap length p.bytes ∙ length-sets d 0 (text_of s) in
    (omega arith, e, p.bytes ∙ sets-eq (text_of s) d 0 (omega arith) ∙ ap (λ (k : ℕ). text_of s ++ drop k d) f)
