-- Many places tested at once: number by number the or of parts of the list.
use Rattle.std.specs.Prelude.{◌≡◌, refl, Bool, true, false, ◌&&◌, List, [], ◌∷◌, ◌++◌, ℕ, zero, suc, ◌+◌, ◌*◌, ◌<◌, ◌≤◌, ltb, length, get_or, take, drop, set, replicate}
use Rattle.std.proofs.Common.{ap, sym, ◌∙◌, append_assoc, append-nil, arith, add-one, lt-ltb, length-set, length-drop, drop_of_length-le, drop-cons, drop-drop, take-suc-set, drop-set-lt, take_all, length-take-le}
use Rattle.std.specs.Int.Bits.{bit_or}
use Rattle.std.specs.Simd.{first_chunks}
use Rattle.order_store.specs.Store.{inside_all}
use Rattle.order_places.specs.laws.Powers.{Power, or_below, zero_below}

-- part i of k parts of 64 numbers
pub chunk_at : (k i : ℕ) (list : List ℕ) → i < k → get_or (first_chunks 64 k list) i [] ≡ take 64 (drop (i * 64) list)
chunk_at zero i list h = absurd (omega arith)
chunk_at (suc k) zero list h = refl
chunk_at (suc k) (suc i) list h =
    let e : 64 + i * 64 ≡ suc i * 64 = omega arith in
    chunk_at k i (drop 64 list) (omega arith) ∙ ap (take 64) (drop-drop (i * 64) 64 list ∙ ap (λ (n : ℕ). drop n list) e)

-- number by number the or of two lists
abbrev pub or_each : List ℕ → List ℕ → List ℕ
or_each [] b = []
or_each (x ∷ a) [] = x ∷ a
or_each (x ∷ a) (y ∷ b) = bit_or x y ∷ or_each a b

length_or : (a b : List ℕ) → length (or_each a b) ≡ length a
length_or [] b = refl
length_or (x ∷ a) [] = refl
length_or (x ∷ a) (y ∷ b) = ap suc (length_or a b)

-- a loop over them
module _ (a₀ part : List ℕ) where
  -- the first j are done
  abbrev pub Oring : ℕ → List ℕ → Type 0
  Oring j a = (length a ≡ length a₀) × (take j a ++ or_each (drop j a) (drop j part) ≡ or_each a₀ part)

  pub or_turn : (j : ℕ) (a : List ℕ) → j < length a₀ → j < length part → Oring j a → Oring (j + 1) (set a j (bit_or (get_or a j 0) (get_or part j 0)))
  or_turn j a h m i =
      let v = bit_or (get_or a j 0) (get_or part j 0) in
      let r : j < length a = omega (arith, i.0) in
      let d : drop (suc j) (set a j v) ≡ drop (suc j) a = drop-set-lt (suc j) a j v (omega arith) in
      let e : take (suc j) (set a j v) ++ or_each (drop (suc j) (set a j v)) (drop (suc j) part) ≡ take j a ++ or_each (drop j a) (drop j part) =
      rw (take-suc-set a j v r, d, drop-cons a j 0 r, drop-cons part j 0 (omega arith)) (append_assoc (take j a) (v ∷ []) (or_each (drop (suc j) a) (drop (suc j) part))) in
      (length-set a j v ∙ i.0, rw (add-one j) (e ∙ i.1))

  pub or_done : (j : ℕ) (a : List ℕ) → length a₀ ≤ j → Oring j a → a ≡ or_each a₀ part
  or_done j a h i =
      let l : length a ≤ j = omega (arith, i.0) in
      let t : take j a ≡ a = take_all j a l in
      let e : take j a ++ [] ≡ or_each a₀ part = rw (drop_of_length-le a l) at i.1 in
      sym t ∙ sym (append-nil (take j a)) ∙ e

-- what the ors of the parts before `at` and the places from there on say together
module _ (w h : ℕ) where
  abbrev pub Together : List ℕ → ℕ → List ℕ → Type 0
  Together list at ors = (length ors ≡ 64) × (at ≤ length list) × ((inside_all w h ors && inside_all w h (drop at list)) ≡ inside_all w h list)

  pub together_not : (list : List ℕ) (at : ℕ) (ors : List ℕ) → inside_all w h ors ≡ false → Together list at ors → false ≡ inside_all w h list
  together_not list at ors e t = sym (ap (λ (b : Bool). b && inside_all w h (drop at list)) e) ∙ t.2

  pub together_both : (list : List ℕ) (at : ℕ) (ors : List ℕ) → inside_all w h ors ≡ true → Together list at ors → inside_all w h (drop at list) ≡ inside_all w h list
  together_both list at ors e t = sym (ap (λ (b : Bool). b && inside_all w h (drop at list)) e) ∙ t.2

module _ (w h : ℕ) (pw : Power w) (ph : Power h) where
  regroup : (a b c d q r : Bool) → ((a && c) && ((b && d) && (q && r))) ≡ ((a && (b && q)) && (c && (d && r)))
  regroup true true true d q r = go d q r
    where
      go : (d q r : Bool) → (d && (q && r)) ≡ (q && (d && r))
      go true true r = refl
      go true false r = refl
      go false true r = refl
      go false false r = refl
  regroup true true false d true r = refl
  regroup true true false d false r = refl
  regroup true false true d q r = refl
  regroup true false false d q r = refl
  regroup false b c d q r = refl

  pub inside_or : (a b : List ℕ) → length b ≡ length a → inside_all w h (or_each a b) ≡ (inside_all w h a && inside_all w h b)
  inside_or [] [] e = refl
  inside_or [] (y ∷ b) e = absurd (omega arith)
  inside_or (x ∷ a) [] e = absurd (omega arith)
  inside_or (x ∷ []) (y ∷ []) e = refl
  inside_or (x ∷ []) (y ∷ z ∷ b) e = absurd (omega arith)
  inside_or (x ∷ x' ∷ a) (y ∷ []) e = absurd (omega arith)
  inside_or (x ∷ x' ∷ a) (y ∷ y' ∷ b) e =
      rw (below w pw x y, below h ph x' y', inside_or a b (omega arith))
      (regroup (ltb x w) (ltb x' h) (ltb y w) (ltb y' h) (inside_all w h a) (inside_all w h b))
    where
      below : (v : ℕ) → Power v → (x y : ℕ) → ltb (bit_or x y) v ≡ (ltb x v && ltb y v)
      below v p x y = rw p.is (or_below p.exponent x y)

  -- 32 places
  pub inside_part : (k : ℕ) (l : List ℕ) → inside_all w h l ≡ (inside_all w h (take (2 * k) l) && inside_all w h (drop (2 * k) l))
  inside_part zero l = refl
  inside_part (suc k) [] = let e : 2 * suc k ≡ suc (suc (2 * k)) = omega arith in rw e
  inside_part (suc k) (x ∷ []) = let e : 2 * suc k ≡ suc (suc (2 * k)) = omega arith in rw e
  inside_part (suc k) (x ∷ y ∷ l) =
      let e : 2 * suc k ≡ suc (suc (2 * k)) = omega arith in
      rw e (ap (λ (b : Bool). ltb x w && (ltb y h && b)) (inside_part k l) ∙ shift (ltb x w) (ltb y h) (inside_all w h (take (2 * k) l)) (inside_all w h (drop (2 * k) l)))
    where
      shift : (a b c d : Bool) → (a && (b && (c && d))) ≡ ((a && (b && c)) && d)
      shift true true c d = refl
      shift true false c d = refl
      shift false b c d = refl

  pub together_start : (list ors : List ℕ) → ors ≡ replicate {A = ℕ} 64 0 → Together w h list 0 ors
  together_start list ors e = (rw e, omega arith, rw e (ap (λ (b : Bool). b && inside_all w h list) none))
    where
      none : inside_all w h (replicate {A = ℕ} 64 0) ≡ true
      none = rw (lt-ltb 0 w (zero_below w pw), lt-ltb 0 h (zero_below h ph))

  pub together_turn : (list : List ℕ) (at : ℕ) (ors part ors' : List ℕ) → at + 64 ≤ length list → part ≡ take 64 (drop at list) → ors' ≡ or_each ors part
      → Together w h list at ors → Together w h list (at + 64) ors'
  together_turn list at ors part ors' r ep eo t =
      let lp : length part ≡ length ors = rw ep (length-take-le 64 (drop at list) (omega (arith, length-drop at list)) ∙ sym t.0) in
      let d : drop 64 (drop at list) ≡ drop (at + 64) list = drop-drop 64 at list in
      let s : inside_all w h (drop at list) ≡ (inside_all w h (take 64 (drop at list)) && inside_all w h (drop 64 (drop at list))) = inside_part 32 (drop at list) in
      (rw eo (length_or ors part ∙ t.0), r, rw eo (rw (inside_or ors part lp, ep, ← d) (assoc (inside_all w h ors) (inside_all w h (take 64 (drop at list))) (inside_all w h (drop 64 (drop at list))) ∙ ap (λ (b : Bool). inside_all w h ors && b) (sym s) ∙ t.2)))
    where
      assoc : (a b c : Bool) → ((a && b) && c) ≡ (a && (b && c))
      assoc true b c = refl
      assoc false b c = refl
