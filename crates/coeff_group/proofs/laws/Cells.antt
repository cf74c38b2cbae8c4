-- Cells of the grids, each with its channel, and symbols added to them one after the other.
use Rattle.std.specs.Prelude.{◌≡◌, refl, ◌⊎◌, ℕ, zero, suc, ◌+◌, ◌*◌, ◌%◌, ◌^◌, ◌<◌, length, get_or, set}
use Rattle.std.proofs.Common.{ap, ap₂, sym, ◌∙◌, inl, inr, arith, length-set, get_or-set_same, get_or-set_other, set-set, ext_get_or}
use mathlib.Core.List.Memᴰ
use mathlib.Core.List.Memᴰ.{head as here}
use mathlib.Core.List.Memᴰ.{tail as there}
use mathlib.Core.List.{List, [], ◌∷◌, ◌++◌, map}
use Rattle.std.proofs.Math.Decide.{ℕ_discrete, dec_lt}
use Rattle.std.proofs.lemmas.List.{set-get_or}
use Rattle.std.proofs.Math.Seq.{set_out}
use Rattle.coded_numbers.specs.Signed.{unpack_signed, symbol}
use Rattle.coded_numbers.proofs.laws.Signed.{unpack_lt, unpack_zero, symbol_adds, symbol_of, symbol_lt}
use Rattle.coeff_walk.specs.Walk.{gain}
use Rattle.coeff_walk.proofs.laws.Kept.{length_gain}
use Rattle.coeff_walk.specs.Sent.{Words}
use Rattle.coeff_walk.specs.laws.Walks.{gains}
use Rattle.coeff_group.specs.Group.{PerChannel}
use Rattle.coeff_group.specs.Sequence.{GridCell, in_cell}
use Rattle.coeff_group.specs.laws.Cells.{In, Distinct, Shape, add, adds, Fit, change}

pub distinct_both : {A : Type 0} (xs ys : List A) → Distinct xs → Distinct ys → ((x : A) → In x xs → In x ys → ⊥) → Distinct (xs ++ ys)
distinct_both [] ys d e f = e
distinct_both (x ∷ xs) ys d e f = ((λ i. elim (Memᴰ.append_cases xs i) [ inl j ↦ d.0 j | inr j ↦ f x (here refl) j ]), distinct_both xs ys d.1 e (λ y i. f y (there i)))

pub distinct_map : {A B : Type 0} (f : A → B) (xs : List A) → ((x y : A) → In x xs → In y xs → f x ≡ f y → x ≡ y) → Distinct xs → Distinct (map f xs)
distinct_map f [] h d = tt
distinct_map f (x ∷ xs) h d = (
  (λ i. let r = Memᴰ.of_map f xs i in d.0 (Memᴰ.cast (h x r.0 (here refl) (there r.1) (sym r.2)) r.1)),
  distinct_map f xs (λ y z i j. h y z (there i) (there j)) d.1,
)

map_same : {A B : Type 0} (f g : A → B) (xs : List A) → ((x : A) → In x xs → f x ≡ g x) → map f xs ≡ map g xs
map_same f g [] h = refl
map_same f g (x ∷ xs) h = ap₂ (λ y ys. y ∷ ys) (h x (here refl)) (map_same f g xs (λ y i. h y (there i)))

pub set_below : (l : List ℕ) (i v p m : ℕ) → v < m → get_or l p 0 < m → get_or (set l i v) p 0 < m
set_below [] i v p m h k = k
set_below (x ∷ l) zero v zero m h k = h
set_below (x ∷ l) zero v (suc p) m h k = k
set_below (x ∷ l) (suc i) v zero m h k = k
set_below (x ∷ l) (suc i) v (suc p) m h k = set_below l i v p m h k

pub same_shape : (G H : PerChannel) → Shape G H → ((c p : ℕ) → in_cell G c p ≡ in_cell H c p) → G ≡ H
same_shape G H s e = ext_get_or [] G H s.count (λ c h. ext_get_or 0 (get_or G c []) (get_or H c []) (s.sizes c) (λ p i. e c p))

-- one grid written anew
pub put_all : (Q : List ℕ → Type 0) (G : PerChannel) (c : ℕ) (g : List ℕ) → c < length G → Q g → ((d : ℕ) → d < 3 → Q (get_or G d [])) → (d : ℕ) → d < 3 → Q (get_or (set G c g) d [])
put_all Q G c g h q f d l = go (ℕ_discrete d c)
  where
    go : Dec (d ≡ c) → Q (get_or (set G c g) d [])
    go (yes e) = rw (e, get_or-set_same G c g [] h) q
    go (no n) = rw (get_or-set_other G c d g [] n) (f d l)

module _ (G : PerChannel) (c : ℕ) (g : List ℕ) where
  pub put_shape : length g ≡ length (get_or G c []) → Shape (set G c g) G
  put_shape e = record { count = length-set G c g; sizes = λ d. go d (ℕ_discrete d c) (dec_lt c (length G)) }
    where
      go : (d : ℕ) → Dec (d ≡ c) → Dec (c < length G) → length (get_or (set G c g) d []) ≡ length (get_or G d [])
      go d (yes q) (yes h) = rw (q, get_or-set_same G c g [] h) e
      go d (yes q) (no n) = rw (set_out G c g (omega arith))
      go d (no n) h = rw (get_or-set_other G c d g [] n)

  pub put_cell : (d p : ℕ) → (d ≡ c → get_or g p 0 ≡ in_cell G d p) → in_cell (set G c g) d p ≡ in_cell G d p
  put_cell d p h = go (ℕ_discrete d c) (dec_lt c (length G))
    where
      go : Dec (d ≡ c) → Dec (c < length G) → in_cell (set G c g) d p ≡ in_cell G d p
      go (yes e) (yes l) = ap (λ (k : ℕ). in_cell (set G c g) k p) e ∙ ap (λ (l : List ℕ). get_or l p 0) (get_or-set_same G c g [] l) ∙ h e
      go (yes e) (no l) = rw (set_out G c g (omega arith))
      go (no n) l = ap (λ (l : List ℕ). get_or l p 0) (get_or-set_other G c d g [] n)

-- the cells of one channel: as its grid gains them
pub adds_in : (s : ℕ) (G : PerChannel) (c : ℕ) (ps ds : List ℕ) → set G c (gains s (get_or G c []) ps ds) ≡ adds s G (map (λ (p : ℕ). (c, p)) ps) ds
adds_in s G c ps [] = set-get_or G c []
adds_in s G c [] (d ∷ ds) = set-get_or G c []
adds_in s G c (p ∷ ps) (d ∷ ds) = go (dec_lt c (length G)) ∙ adds_in s (add s G (c, p) d) c ps ds
  where
    g₁ : List ℕ
    g₁ = gain s (get_or G c []) p d

    go : Dec (c < length G) → set G c (gains s g₁ ps ds) ≡ set (set G c g₁) c (gains s (get_or (set G c g₁) c []) ps ds)
    go (yes h) = rw (get_or-set_same G c g₁ [] h, set-set G c g₁ (gains s g₁ ps ds))
    go (no n) = rw (set_out G c g₁ (omega arith), set_out G c (gains s g₁ ps ds) (omega arith), set_out G c (gains s (get_or G c []) ps ds) (omega arith))

pub adds_both : (s : ℕ) (G : PerChannel) (xs ys : List GridCell) (ds es : List ℕ) → length ds ≡ length xs → adds s G (xs ++ ys) (ds ++ es) ≡ adds s (adds s G xs ds) ys es
adds_both s G [] ys [] es e = refl
adds_both s G [] ys (d ∷ ds) es e = absurd (omega arith)
adds_both s G (x ∷ xs) ys [] es e = absurd (omega arith)
adds_both s G (x ∷ xs) ys (d ∷ ds) es e = adds_both s (add s G x d) xs ys ds es (omega arith)

add_shape : (s : ℕ) (G : PerChannel) (x : GridCell) (d : ℕ) → Shape (add s G x d) G
add_shape s G x d = put_shape G x.0 (gain s (get_or G x.0 []) x.1 d) (length_gain s (get_or G x.0 []) x.1 d)

pub adds_shape : (s : ℕ) (G : PerChannel) (cs : List GridCell) (ds : List ℕ) → Shape (adds s G cs ds) G
adds_shape s G cs [] = record { count = refl; sizes = λ c. refl }
adds_shape s G [] (d ∷ ds) = record { count = refl; sizes = λ c. refl }
adds_shape s G (x ∷ cs) (d ∷ ds) =
    let a = adds_shape s (add s G x d) cs ds in let b = add_shape s G x d in
    record { count = a.count ∙ b.count; sizes = λ c. a.sizes c ∙ b.sizes c }

-- 32-bit numbers stay so
gain_below : (s : ℕ) (g : List ℕ) (p d q : ℕ) → get_or g q 0 < 2 ^ 32 → get_or (gain s g p d) q 0 < 2 ^ 32
gain_below s g p zero q h = h
gain_below s g p (suc d) q h = set_below g p ((get_or g p 0 + unpack_signed (suc d) * 2 ^ s % 2 ^ 32) % 2 ^ 32) q (2 ^ 32) (omega arith) h

put_words : (G : PerChannel) (c : ℕ) (g : List ℕ) → ((p : ℕ) → get_or g p 0 < 2 ^ 32) → ((d p : ℕ) → in_cell G d p < 2 ^ 32) → (d p : ℕ) → in_cell (set G c g) d p < 2 ^ 32
put_words [] c g f h d p = h d p
put_words (x ∷ G) zero g f h zero p = f p
put_words (x ∷ G) zero g f h (suc d) p = h (suc d) p
put_words (x ∷ G) (suc c) g f h zero p = h zero p
put_words (x ∷ G) (suc c) g f h (suc d) p = put_words G c g f (λ e q. h (suc e) q) d p

pub adds_words : (s : ℕ) (G : PerChannel) (cs : List GridCell) (ds : List ℕ) → ((c p : ℕ) → in_cell G c p < 2 ^ 32) → (c p : ℕ) → in_cell (adds s G cs ds) c p < 2 ^ 32
adds_words s G cs [] h = h
adds_words s G [] (d ∷ ds) h = h
adds_words s G (x ∷ cs) (d ∷ ds) h = adds_words s (add s G x d) cs ds (put_words G x.0 (gain s (get_or G x.0 []) x.1 d) (λ p. gain_below s (get_or G x.0 []) x.1 d p (h x.0 p)) h)

-- a cell is changed only where a symbol is added
gain_off : (s : ℕ) (g : List ℕ) (p d q : ℕ) → (q ≡ p → ⊥) → get_or (gain s g p d) q 0 ≡ get_or g q 0
gain_off s g p zero q n = refl
gain_off s g p (suc d) q n = get_or-set_other g p q ((get_or g p 0 + unpack_signed (suc d) * 2 ^ s % 2 ^ 32) % 2 ^ 32) 0 n

add_off : (s : ℕ) (G : PerChannel) (x : GridCell) (d : ℕ) (y : GridCell) → (y ≡ x → ⊥) → in_cell (add s G x d) y.0 y.1 ≡ in_cell G y.0 y.1
add_off s G x d y n = put_cell G x.0 (gain s (get_or G x.0 []) x.1 d) y.0 y.1
    (λ e. gain_off s (get_or G x.0 []) x.1 d y.1 (λ f. n (λ i. (e i, f i))) ∙ ap (λ (c : ℕ). in_cell G c y.1) (sym e))

pub adds_off : (s : ℕ) (G : PerChannel) (cs : List GridCell) (ds : List ℕ) (y : GridCell) → (In y cs → ⊥) → in_cell (adds s G cs ds) y.0 y.1 ≡ in_cell G y.0 y.1
adds_off s G cs [] y n = refl
adds_off s G [] (d ∷ ds) y n = refl
adds_off s G (x ∷ cs) (d ∷ ds) y n = adds_off s (add s G x d) cs ds y (λ i. n (there i)) ∙ add_off s G x d y (λ e. n (here e))

module _ (G : PerChannel) (x : GridCell) (cs : List GridCell) (d : ℕ) (fit : Fit G (x ∷ cs)) (n : In x cs → ⊥) where
  other : (y : GridCell) → In y cs → in_cell (add 0 G x d) y.0 y.1 ≡ in_cell G y.0 y.1
  other y i = add_off 0 G x d y (λ e. n (Memᴰ.cast (sym e) i))

  fit_rest : Fit (add 0 G x d) cs
  fit_rest = record {
    channel = λ y i. rw (add_shape 0 G x d).count (fit.channel y (there i));
    place = λ y i. rw ((add_shape 0 G x d).sizes y.0) (fit.place y (there i));
    small = λ y i. rw (other y i) (fit.small y (there i));
  }

  same_rest : (W : PerChannel) → map (change (add 0 G x d) W) cs ≡ map (change G W) cs
  same_rest W = map_same (change (add 0 G x d) W) (change G W) cs (λ y i. ap (symbol (in_cell W y.0 y.1)) (other y i))

  -- what the cell holds behind all of them
  here_is : (ds : List ℕ) → d < 2 ^ 32 → in_cell (adds 0 G (x ∷ cs) (d ∷ ds)) x.0 x.1 ≡ (in_cell G x.0 x.1 + unpack_signed d) % 2 ^ 32
  here_is ds w = adds_off 0 (add 0 G x d) cs ds x n ∙ ap (λ (l : List ℕ). get_or l x.1 0) (get_or-set_same G x.0 (gain 0 (get_or G x.0 []) x.1 d) [] (fit.channel x (here refl))) ∙ by d w
    where
      by : (d : ℕ) → d < 2 ^ 32 → get_or (gain 0 (get_or G x.0 []) x.1 d) x.1 0 ≡ (in_cell G x.0 x.1 + unpack_signed d) % 2 ^ 32
      by zero w = let h = fit.small x (here refl) in rw unpack_zero (omega arith)
      by (suc d) w =
          let u = unpack_lt (suc d) w in
          get_or-set_same (get_or G x.0 []) x.1 ((in_cell G x.0 x.1 + unpack_signed (suc d) * 2 ^ 0 % 2 ^ 32) % 2 ^ 32) 0 (fit.place x (here refl)) ∙ omega arith

-- symbols added to distinct cells are those that make of the start what it became
pub only_symbols : (G : PerChannel) (cs : List GridCell) (ds : List ℕ) → Distinct cs → Fit G cs → Words ds → length ds ≡ length cs → ds ≡ map (change G (adds 0 G cs ds)) cs
only_symbols G [] [] d f w e = refl
only_symbols G [] (u ∷ ds) d f w e = absurd (omega arith)
only_symbols G (x ∷ cs) [] d f w e = absurd (omega arith)
only_symbols G (x ∷ cs) (u ∷ ds) d f w e =
    let W = adds 0 G (x ∷ cs) (u ∷ ds) in
    ap₂ (λ (v : ℕ) (vs : List ℕ). v ∷ vs)
    (sym (symbol_of (in_cell W x.0 x.1) (in_cell G x.0 x.1) u w.0 (f.small x (here refl)) (here_is G x cs u f d.0 ds w.0)))
    (only_symbols (add 0 G x u) cs ds d.1 (fit_rest G x cs u f d.0) w.1 (omega arith) ∙ same_rest G x cs u f d.0 W)

-- and those symbols make it of the start
pub symbols_turn : (G W : PerChannel) (cs : List GridCell) → Distinct cs → Fit G cs → ((x : GridCell) → In x cs → in_cell W x.0 x.1 < 2 ^ 32) → (y : GridCell) → In y cs
    → in_cell (adds 0 G cs (map (change G W) cs)) y.0 y.1 ≡ in_cell W y.0 y.1
symbols_turn G W [] d f w y i = absurd (elim i [ ])
symbols_turn G W (x ∷ cs) d f w y i = go (Memᴰ.cases_cons i) (symbols_turn (add 0 G x u) W cs d.1 (fit_rest G x cs u f d.0) (λ z j. w z (there j)) y)
  where
    u : ℕ
    u = change G W x

    go : (y ≡ x) ⊎ In y cs → (In y cs → in_cell (adds 0 (add 0 G x u) cs (map (change (add 0 G x u) W) cs)) y.0 y.1 ≡ in_cell W y.0 y.1)
        → in_cell (adds 0 (add 0 G x u) cs (map (change G W) cs)) y.0 y.1 ≡ in_cell W y.0 y.1
    go (inl e) ih =
        rw e (here_is G x cs u f d.0 (map (change G W) cs) (symbol_lt (in_cell W x.0 x.1) (in_cell G x.0 x.1))
        ∙ symbol_adds (in_cell W x.0 x.1) (in_cell G x.0 x.1) (w x (here refl)) (f.small x (here refl)))
    go (inr j) ih = rw (← same_rest G x cs u f d.0 W) (ih j)
