-- Laws on what a job still needs (document 01, The lister: "what follows is not read").
use Rattle.std.specs.Prelude.{◌≡◌, Bool, ◌&&◌, List, [], ◌∷◌, ◌++◌, ◌⊎◌, leb, ltb, eqb, length, get_or}
use Rattle.std.proofs.Math.Path.{refl}
use Rattle.std.proofs.Common.{ap, sym, ◌∙◌, append-nil, inl, inr, arith, length-append}
use Rattle.std.proofs.Math.Bool.{true, false, cond}
use Prim.Native.Nat.{ℕ, zero, suc, ◌+◌, ◌-◌, ◌/◌, ◌≤◌, ◌<◌}
use Rattle.std.proofs.Math.ListN.{get_or-append}
use Rattle.std.proofs.lemmas.List.{get_or_at}
use borrow.Author.Tests.{le-leb, lt-leb, lt-ltb, le-ltb, eq-eqb, ne_eqb, ltb-true, ltb-false, leb-true, leb-false, eqb-true, eqb-false}
use Rattle.laws.specs.laws.Cases.{le_or_lt, eq_or_ne, and-true}
use Rattle.laws.specs.Lists.{tabulate}
use Rattle.lister_job.specs.Job.{number16, number32, width, height, column_place, has_size, is_column, type_at, mul_at, count_from, columns, types, muls, job_end, has_end, is_job, size_needs, column_needs, needed, Same}
use Rattle.lister_job.proofs.laws.JobSteps.{columns_most}
use Rattle.lister_job.specs.laws.Needed.{JobFirst}

and_false : (t : Bool) → t && false ≡ false
and_false true = refl
and_false false = refl

-- What is needed, one law for each way out.
module _ (s : List ℕ) where
  pub size_first : length s ≡ 0 → 1 ≡ size_needs s
  size_first a = rw (eq-eqb (length s) 0 a)

  module _ (a : length s ≡ 0 → ⊥) where
    pub size_other : (get_or s 0 0 ≡ 16 → ⊥) → 0 ≡ size_needs s
    size_other b = rw (ne_eqb (length s) 0 a, ne_eqb (get_or s 0 0) 16 b)

    pub size_rest : get_or s 0 0 ≡ 16 → 5 - length s ≡ size_needs s
    size_rest b = rw (ne_eqb (length s) 0 a, eq-eqb (get_or s 0 0) 16 b)

  module _ (k : ℕ) where
    pub column_first : length s ≤ column_place k → 1 ≡ column_needs s k
    column_first a = rw (le-leb (length s) (column_place k) a)

    module _ (a : column_place k < length s) where
      pub column_over : 4096 ≤ k → 0 ≡ column_needs s k
      column_over b = rw (lt-leb (length s) (column_place k) a, le-ltb k 4096 b)

      pub column_other : (get_or s (column_place k) 0 ≡ 17 → ⊥) → 0 ≡ column_needs s k
      column_other b = rw (lt-leb (length s) (column_place k) a, ne_eqb (get_or s (column_place k) 0) 17 b, and_false (ltb k 4096))

      pub column_rest : k < 4096 → get_or s (column_place k) 0 ≡ 17 → column_place k + 9 - length s ≡ column_needs s k
      column_rest b d = rw (lt-leb (length s) (column_place k) a, lt-ltb k 4096 b, eq-eqb (get_or s (column_place k) 0) 17 d)

  -- how many columns fit into as many bytes
  abbrev pub last : ℕ
  last = (length s - 5) / 9

  pub needed_size : length s < 5 → needed s ≡ size_needs s
  unfolding needed
  needed_size h = rw (lt-ltb (length s) 5 h)

  pub needed_column : 5 ≤ length s → has_size s ≡ true → needed s ≡ column_needs s last
  unfolding needed
  needed_column h e = rw (le-ltb (length s) 5 h, e)

  pub needed_unsized : 5 ≤ length s → has_size s ≡ false → needed s ≡ 0
  unfolding needed
  needed_unsized h e = rw (le-ltb (length s) 5 h, e)

  -- the size record, test by test
  pub unsized_short : length s < 5 → false ≡ has_size s
  unsized_short a = rw (lt-leb 5 (length s) a)

  module _ (a : 5 ≤ length s) where
    pub unsized_first : (get_or s 0 0 ≡ 16 → ⊥) → false ≡ has_size s
    unsized_first b = rw (le-leb 5 (length s) a, ne_eqb (get_or s 0 0) 16 b)

    module _ (b : get_or s 0 0 ≡ 16) where
      pub unsized_wide : 512 < width s → false ≡ has_size s
      unsized_wide c = rw (le-leb 5 (length s) a, eq-eqb (get_or s 0 0) 16 b, lt-leb (width s) 512 c)

      pub sized_high : width s ≤ 512 → leb (height s) 512 ≡ has_size s
      sized_high c = rw (le-leb 5 (length s) a, eq-eqb (get_or s 0 0) 16 b, le-leb (width s) 512 c)

-- a job never has more than 36,870 bytes
pub needed_fits : (s : List ℕ) → length s ≤ 36870 → length s + needed s ≤ 36870
unfolding needed
needed_fits s h = go (le_or_lt 5 (length s))
  where
    size : (b c : Bool) → length s < 5 → length s + cond b 1 (cond c (5 - length s) 0) ≤ 36870
    size true c l = omega arith
    size false true l = omega arith
    size false false l = omega arith

    column : (k : ℕ) (b c d : Bool) → leb (length s) (column_place k) ≡ b → ltb k 4096 ≡ c → column_place k ≤ length s → length s < column_place k + 9 → length s + cond b 1 (cond (c && d) (column_place k + 9 - length s) 0) ≤ 36870
    column k true c d e f m l = let g = leb-true (length s) (column_place k) e in omega arith
    column k false true true e f m l = let g = ltb-true k 4096 f in omega arith
    column k false true false e f m l = omega arith
    column k false false d e f m l = omega arith

    sized : (b : Bool) → 5 ≤ length s → length s + cond b (column_needs s ((length s - 5) / 9)) 0 ≤ 36870
    sized true l =
        let k = (length s - 5) / 9 in
        column k (leb (length s) (column_place k)) (ltb k 4096) (eqb (get_or s (column_place k) 0) 17) refl refl (omega arith) (omega arith)
    sized false l = omega arith

    go : (5 ≤ length s) ⊎ (length s < 5) → length s + needed s ≤ 36870
    go (inr l) = rw (lt-ltb (length s) 5 l) (size (eqb (length s) 0) (eqb (get_or s 0 0) 16) l)
    go (inl l) = rw (le-ltb (length s) 5 l) (sized (has_size s) l)

-- A longer list has the same first bytes, so the same numbers and records.
module _ (s t : List ℕ) where
  longer : length s ≤ length (s ++ t)
  longer = omega (arith, length-append s t)

  number16_same : (i : ℕ) → i + 2 ≤ length s → number16 (s ++ t) i ≡ number16 s i
  number16_same i h = rw (get_or-append s t 0 i (omega arith), get_or-append s t 0 (i + 1) (omega arith))

  number32_same : (i : ℕ) → i + 4 ≤ length s → number32 (s ++ t) i ≡ number32 s i
  number32_same i h = rw (number16_same i (omega arith), number16_same (i + 2) (omega arith))

  size_same : 5 ≤ length s → has_size (s ++ t) ≡ has_size s
  size_same h =
      let w = number16_same 1 (omega arith) in
      let n = number16_same 3 (omega arith) in
      rw (le-leb 5 (length (s ++ t)) (omega (arith, longer)), le-leb 5 (length s) h, get_or-append s t 0 0 (omega arith), w, n)

  column_whole : (k : ℕ) → is_column s k ≡ true → is_column (s ++ t) k ≡ true
  column_whole k h =
      let a = and-true (leb (column_place k + 9) (length s)) (eqb (get_or s (column_place k) 0) 17) h in
      let l = leb-true (column_place k + 9) (length s) a.0 in
      rw (le-leb (column_place k + 9) (length (s ++ t)) (omega (arith, longer)), get_or-append s t 0 (column_place k) (omega arith)) a.1

  type_same : (k : ℕ) → column_place k + 9 ≤ length s → type_at (s ++ t) k ≡ type_at s k
  type_same k h = number32_same (column_place k + 1) (omega arith)

  mul_same : (k : ℕ) → column_place k + 9 ≤ length s → mul_at (s ++ t) k ≡ mul_at s k
  mul_same k h = number32_same (column_place k + 5) (omega arith)

-- which test decides
module _ (s : List ℕ) where
  size_long : has_size s ≡ true → 5 ≤ length s
  size_long e =
      let a = and-true (leb 5 (length s) && eqb (get_or s 0 0) 16 && leb (width s) 512) (leb (height s) 512) e in
      let b = and-true (leb 5 (length s) && eqb (get_or s 0 0) 16) (leb (width s) 512) a.0 in
      leb-true 5 (length s) (and-true (leb 5 (length s)) (eqb (get_or s 0 0) 16) b.0).0

  -- where nothing is needed: a first command that is none of a size, or a command inside s that is none of a column, or of one too many
  none_size : length s < 5 → needed s ≡ 0 → (0 < length s) × (get_or s 0 0 ≡ 16 → ⊥)
  none_size h n = go (eqb (length s) 0) (eqb (get_or s 0 0) 16) refl refl (sym (needed_size s h) ∙ n)
    where
      go : (b c : Bool) → eqb (length s) 0 ≡ b → eqb (get_or s 0 0) 16 ≡ c → cond b 1 (cond c (5 - length s) 0) ≡ 0 → (0 < length s) × (get_or s 0 0 ≡ 16 → ⊥)
      go true c e f g = absurd (omega arith)
      go false true e f g = absurd (omega arith)
      go false false e f g = let z = eqb-false (length s) 0 e in (omega arith, eqb-false (get_or s 0 0) 16 f)

  none_column : has_size s ≡ true → needed s ≡ 0 → (column_place (last s) < length s) × (last s < 4096 → get_or s (column_place (last s)) 0 ≡ 17 → ⊥)
  none_column e n = go (leb (length s) (column_place (last s))) (ltb (last s) 4096) (eqb (get_or s (column_place (last s)) 0) 17) refl refl refl (sym (needed_column s (size_long e) e) ∙ n)
    where
      go : (b c d : Bool) → leb (length s) (column_place (last s)) ≡ b → ltb (last s) 4096 ≡ c → eqb (get_or s (column_place (last s)) 0) 17 ≡ d → cond b 1 (cond (c && d) (column_place (last s) + 9 - length s) 0) ≡ 0
          → (column_place (last s) < length s) × (last s < 4096 → get_or s (column_place (last s)) 0 ≡ 17 → ⊥)
      go true c d p q r g = absurd (omega arith)
      go false true true p q r g = absurd (omega arith)
      go false true false p q r g = (leb-false (length s) (column_place (last s)) p, λ l. eqb-false (get_or s (column_place (last s)) 0) 17 r)
      go false false d p q r g = let z = ltb-false (last s) 4096 q in (leb-false (length s) (column_place (last s)) p, λ l. absurd (omega arith))

-- a column that is counted is whole
pub column_counted : (s : List ℕ) (n k i : ℕ) → k ≤ i → i < count_from s n k → is_column s i ≡ true
unfolding count_from
column_counted s zero k i h l = absurd (omega arith)
column_counted s (suc n) k i h l = go (is_column s k) refl (eq_or_ne k i) (column_counted s n (k + 1) i) l
  where
    go : (b : Bool) → is_column s k ≡ b → (k ≡ i) ⊎ (k ≡ i → ⊥) → (k + 1 ≤ i → i < count_from s n (k + 1) → is_column s i ≡ true) → i < cond b (count_from s n (k + 1)) k
        → is_column s i ≡ true
    go true e (inl z) r l = ap (is_column s) (sym z) ∙ e
    go true e (inr z) r l = r (omega arith) l
    go false e z r l = absurd (omega arith)

tabulate_same : (f g : ℕ → ℕ) (n o : ℕ) → ((i : ℕ) → o ≤ i → i < o + n → f i ≡ g i) → tabulate f n o ≡ tabulate g n o
tabulate_same f g zero o h = refl
tabulate_same f g (suc n) o h = rw (h o (omega arith) (omega arith), tabulate_same f g n (o + 1) (λ i a b. h i (omega arith) (omega arith)))

module _ (s t : List ℕ) (none : needed s ≡ 0) where
  module _ (sized : has_size s ≡ true) where
    inside : column_place (last s) < length s
    inside = (none_column s sized none).0

    -- a column's test has the same outcome
    column_same : (k : ℕ) → k < 4096 → k ≤ last s → is_column (s ++ t) k ≡ is_column s k
    column_same k h l = go (eq_or_ne (get_or s (column_place k) 0) 17) (le_or_lt (column_place k + 9) (length s))
      where
        b : get_or (s ++ t) (column_place k) 0 ≡ get_or s (column_place k) 0
        b = get_or-append s t 0 (column_place k) (omega (arith, inside))

        go : (get_or s (column_place k) 0 ≡ 17) ⊎ (get_or s (column_place k) 0 ≡ 17 → ⊥) → (column_place k + 9 ≤ length s) ⊎ (length s < column_place k + 9) → is_column (s ++ t) k ≡ is_column s k
        go (inr z) c = rw (b, ne_eqb (get_or s (column_place k) 0) 17 z) (and_false (leb (column_place k + 9) (length (s ++ t))) ∙ sym (and_false (leb (column_place k + 9) (length s))))
        go (inl z) (inl c) = rw (b, le-leb (column_place k + 9) (length s) c, le-leb (column_place k + 9) (length (s ++ t)) (omega (arith, longer s t)))
        go (inl z) (inr c) = let e : k ≡ last s = omega arith in absurd ((none_column s sized none).1 (omega arith) (rw e at z))

    count_same : (n k : ℕ) → k + n ≡ 4096 → k ≤ last s → count_from (s ++ t) n k ≡ count_from s n k
    unfolding count_from
    count_same zero k h l = refl
    count_same (suc n) k h l = rw (column_same k (omega arith) l) (go (is_column s k) refl (count_same n (k + 1) (omega arith)))
      where
        go : (b : Bool) → is_column s k ≡ b → (k + 1 ≤ last s → count_from (s ++ t) n (k + 1) ≡ count_from s n (k + 1)) → cond b (count_from (s ++ t) n (k + 1)) k ≡ cond b (count_from s n (k + 1)) k
        go false e r = refl
        go true e r =
            let a = leb-true (column_place k + 9) (length s) (and-true (leb (column_place k + 9) (length s)) (eqb (get_or s (column_place k) 0) 17) e).0 in
            r (omega arith)

    columns_same : columns (s ++ t) ≡ columns s
    columns_same = count_same 4096 0 (omega arith) (omega arith)

    -- and so have the columns, which lie inside s, and the byte behind them
    whole : (k : ℕ) → k < columns s → column_place k + 9 ≤ length s
    whole k h =
        leb-true (column_place k + 9) (length s) (and-true (leb (column_place k + 9) (length s)) (eqb (get_or s (column_place k) 0) 17) (column_counted s 4096 0 k (omega arith) h)).0

    end_inside : column_place (columns s) < length s
    end_inside = go (eq_or_ne (columns s) 0)
      where
        go : (columns s ≡ 0) ⊎ (columns s ≡ 0 → ⊥) → column_place (columns s) < length s
        go (inl z) = omega (arith, inside)
        go (inr z) = let w = whole (columns s - 1) (omega arith) in omega (arith, inside)

    ends_same : has_end (s ++ t) ≡ has_end s
    ends_same =
        rw (columns_same, get_or-append s t 0 (column_place (columns s)) end_inside, le-leb (column_place (columns s) + 1) (length s) (omega (arith, end_inside)), le-leb (column_place (columns s) + 1) (length (s ++ t)) (omega (arith, end_inside, longer s t)))

    types_same : types (s ++ t) ≡ types s
    types_same = ap (λ (k : ℕ). tabulate (type_at (s ++ t)) k 0) columns_same ∙ tabulate_same (type_at (s ++ t)) (type_at s) (columns s) 0 (λ i a b. type_same s t i (whole i (omega arith)))

    muls_same : muls (s ++ t) ≡ muls s
    muls_same = ap (λ (k : ℕ). tabulate (mul_at (s ++ t)) k 0) columns_same ∙ tabulate_same (mul_at (s ++ t)) (mul_at s) (columns s) 0 (λ i a b. mul_same s t i (whole i (omega arith)))

  -- where nothing more is needed, nothing that follows changes anything
  pub needed_none : Same s (s ++ t)
  needed_none = record {
    size_is = go (le_or_lt 5 (length s));
    width_is = λ e. number16_same s t 1 (omega (arith, size_long s e));
    height_is = λ e. number16_same s t 3 (omega (arith, size_long s e));
    ends_at = λ e. ap (λ (k : ℕ). column_place k + 1) (columns_same e);
    end_is = ends_same;
    types_are = types_same;
    muls_are = muls_same;
  }
    where
      go : (5 ≤ length s) ⊎ (length s < 5) → has_size (s ++ t) ≡ has_size s
      go (inl l) = size_same s t l
      go (inr l) =
          let n = none_size s l none in
          rw (lt-leb 5 (length s) l, get_or-append s t 0 0 n.0, ne_eqb (get_or s 0 0) 16 n.1, and_false (leb 5 (length (s ++ t))))

-- A job that begins with s: nothing behind its end is asked for, and something until then.
module _ (s t : List ℕ) (job : is_job (s ++ t) ≡ true) where
  parts : (has_size (s ++ t) && has_end (s ++ t) ≡ true) × (eqb (length (s ++ t)) (column_place (columns (s ++ t)) + 1) ≡ true)
  parts = and-true (has_size (s ++ t) && has_end (s ++ t)) (eqb (length (s ++ t)) (column_place (columns (s ++ t)) + 1)) job

  sized : has_size (s ++ t) ≡ true
  sized = (and-true (has_size (s ++ t)) (has_end (s ++ t)) parts.0).0

  ended : get_or (s ++ t) (column_place (columns (s ++ t))) 0 ≡ 0
  ended =
      let e = (and-true (has_size (s ++ t)) (has_end (s ++ t)) parts.0).1 in
      let p = column_place (columns (s ++ t)) in
      eqb-true (get_or (s ++ t) p 0) 0 (and-true (leb (p + 1) (length (s ++ t))) (eqb (get_or (s ++ t) p 0) 0) e).1

  ended_at : length (s ++ t) ≡ job_end (s ++ t)
  ended_at = eqb-true (length (s ++ t)) (job_end (s ++ t)) parts.1

  exact : length s + length t ≡ column_place (columns (s ++ t)) + 1
  exact = sym (length-append s t) ∙ ended_at

  begins : get_or (s ++ t) 0 0 ≡ 16
  begins =
      let j = s ++ t in
      let a = and-true (leb 5 (length j) && eqb (get_or j 0 0) 16 && leb (width j) 512) (leb (height j) 512) sized in
      let b = and-true (leb 5 (length j) && eqb (get_or j 0 0) 16) (leb (width j) 512) a.0 in
      eqb-true (get_or j 0 0) 16 (and-true (leb 5 (length j)) (eqb (get_or j 0 0) 16) b.0).1

  abbrev Asks : Type 0
  Asks = (needed s ≤ length t) × (0 < length t → 0 < needed s)

  in_size : length s < 5 → Asks
  in_size h = rw (needed_size s h) (go (eq_or_ne (length s) 0))
    where
      go : (length s ≡ 0) ⊎ (length s ≡ 0 → ⊥) → (size_needs s ≤ length t) × (0 < length t → 0 < size_needs s)
      go (inl z) = rw (eq-eqb (length s) 0 z) (omega (arith, exact), λ l. omega arith)
      go (inr z) =
          let b : get_or s 0 0 ≡ 16 = sym (get_or-append s t 0 0 (omega arith)) ∙ begins in
          rw (ne_eqb (length s) 0 z, eq-eqb (get_or s 0 0) 16 b) (omega (arith, exact), λ l. omega arith)

  in_columns : 5 ≤ length s → Asks
  in_columns h = rw (needed_column s h (sym (size_same s t h) ∙ sized)) (go (le_or_lt (length s) (column_place (last s))) (le_or_lt (columns (s ++ t)) (last s)))
    where
      go : (length s ≤ column_place (last s)) ⊎ (column_place (last s) < length s) → (columns (s ++ t) ≤ last s) ⊎ (last s < columns (s ++ t))
          → (column_needs s (last s) ≤ length t) × (0 < length t → 0 < column_needs s (last s))
      go (inl a) c = rw (le-leb (length s) (column_place (last s)) a) (omega (arith, exact), λ l. omega arith)
      go (inr a) (inl c) =
          let e : columns (s ++ t) ≡ last s = omega (arith, exact) in
          let b : get_or s (column_place (last s)) 0 ≡ 0 = sym (get_or-append s t 0 (column_place (last s)) a) ∙ (rw e at ended) in
          let z : length t ≡ 0 = omega (arith, exact) in
          rw (lt-leb (length s) (column_place (last s)) a, b, and_false (ltb (last s) 4096)) (omega arith, λ l. absurd (omega arith))
      go (inr a) (inr c) =
          let w = and-true (leb (column_place (last s) + 9) (length (s ++ t))) (eqb (get_or (s ++ t) (column_place (last s)) 0) 17) (column_counted (s ++ t) 4096 0 (last s) (omega arith) c) in
          let b : get_or s (column_place (last s)) 0 ≡ 17 = sym (get_or-append s t 0 (column_place (last s)) a) ∙ eqb-true (get_or (s ++ t) (column_place (last s)) 0) 17 w.1 in
          rw (lt-leb (length s) (column_place (last s)) a, lt-ltb (last s) 4096 (omega (arith, columns_most (s ++ t))), b) (omega (arith, exact), λ l. omega arith)

  asks : Asks
  asks = go (le_or_lt 5 (length s))
    where
      go : (5 ≤ length s) ⊎ (length s < 5) → Asks
      go (inl l) = in_columns l
      go (inr l) = in_size l

  pub needed_inside : needed s ≤ length t
  needed_inside = asks.0

  pub needed_until : 0 < length t → 0 < needed s
  needed_until = asks.1

-- so behind a job nothing is needed, and no job is longer than what may be read
module _ (j : List ℕ) (job : is_job j ≡ true) where
  nothing_behind : is_job (j ++ []) ≡ true
  nothing_behind = rw (append-nil j) job

  pub needed_job : needed j ≡ 0
  needed_job = let a = needed_inside j [] nothing_behind in omega arith

  -- whatever follows it: the same size and columns, and it ends where the job does
  pub job_first : JobFirst j job
  job_first u =
      let s = needed_none j u needed_job in
      let z = rw (append-nil j) at (sized j [] nothing_behind) in
      (s, s.ends_at z ∙ sym (rw (append-nil j) at (ended_at j [] nothing_behind)))

  pub job_most : length j ≤ 36870
  job_most = let e = exact j [] nothing_behind in omega (arith, columns_most (j ++ []))

-- Behind what no job has there nothing is asked for: a first command that is none of a size,
pub other_first : (c : ℕ) → (c ≡ 16 → ⊥) → needed (c ∷ []) ≡ 0
other_first c h = needed_size (c ∷ []) (omega arith) ∙ rw (ne_eqb c 16 h)

-- more than 512 pixels,
module _ (s : List ℕ) (h : length s ≡ 5) (b : get_or s 0 0 ≡ 16) where
  pub too_wide : 512 < width s → needed s ≡ 0
  too_wide c = needed_unsized s (omega arith) (sym (unsized_wide s (omega arith) b c))

  pub too_high_lem : width s ≤ 512 → 512 < height s → needed s ≡ 0
  too_high_lem c d = needed_unsized s (omega arith) (sym (sized_high s (omega arith) b c) ∙ lt-leb (height s) 512 d)

-- behind k columns a command that is none of a column, and behind 4,096 of them any.
module _ (s : List ℕ) (c k : ℕ) (h : length s ≡ column_place k) (n : (k < 4096 → c ≡ 17 → ⊥)) where
  longer_by_one : length (s ++ (c ∷ [])) ≡ column_place k + 1
  longer_by_one = length-append s (c ∷ []) ∙ ap (λ (m : ℕ). m + 1) h

  pub other_later : needed (s ++ (c ∷ [])) ≡ 0
  other_later = go (has_size (s ++ (c ∷ []))) refl (le_or_lt 4096 k)
    where
      e : last (s ++ (c ∷ [])) ≡ k
      e = omega (arith, longer_by_one)

      long : column_place k < length (s ++ (c ∷ []))
      long = omega (arith, longer_by_one)

      byte : get_or (s ++ (c ∷ [])) (column_place k) 0 ≡ c
      byte = get_or_at s c [] 0 (column_place k) h

      go : (b : Bool) → has_size (s ++ (c ∷ [])) ≡ b → (4096 ≤ k) ⊎ (k < 4096) → needed (s ++ (c ∷ [])) ≡ 0
      go false f l = needed_unsized (s ++ (c ∷ [])) (omega (arith, longer_by_one)) f
      go true f (inl l) = needed_column (s ++ (c ∷ [])) (omega (arith, longer_by_one)) f ∙ ap (column_needs (s ++ (c ∷ []))) e ∙ sym (column_over (s ++ (c ∷ [])) k long l)
      go true f (inr l) =
          needed_column (s ++ (c ∷ [])) (omega (arith, longer_by_one)) f ∙ ap (column_needs (s ++ (c ∷ []))) e ∙ sym (column_other (s ++ (c ∷ [])) k long (λ z. n l (sym byte ∙ z)))
