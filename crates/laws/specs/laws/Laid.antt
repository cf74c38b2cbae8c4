-- Numbers laid into a list from the front on: what stands before them stays, what comes behind them may be anything until it is
-- laid too.
use Rattle.std.specs.Prelude.{◌≡◌, refl, List, [], ◌∷◌, ◌++◌, ℕ, ◌+◌, ◌-◌, ◌*◌, ◌≤◌, ◌<◌, length, take, set, drop}
use Rattle.std.proofs.Common.{ap, sym, ◌∙◌, append_assoc, append-nil, add-one, arith, length-append, length-set, length-drop, take_at, length-take-le, drop-drop}
use Rattle.std.proofs.Math.Decide.{dec_lt}
use Rattle.std.proofs.lemmas.List.Edits.{sets-eq}
use Rattle.std.proofs.lemmas.List.{take-set-le}

-- numbers laid from `start` on, up to r
pub record Laid (l₀ l : List ℕ) (start : ℕ) (numbers : List ℕ) (r : ℕ) : Type 0 where
  pub end : r ≡ start + length numbers
  pub long : length l ≡ length l₀
  pub front : take r l ≡ take start l₀ ++ numbers

-- laid up to `at`, with the rest still to come
pub record Halfway (l₀ l : List ℕ) (start : ℕ) (numbers : List ℕ) (at : ℕ) (rest : List ℕ) : Type 0 where
  pub end : at + length rest ≡ start + length numbers
  pub long : length l ≡ length l₀
  pub front : take at l ++ rest ≡ take start l₀ ++ numbers

pub laid_none : (l : List ℕ) (start : ℕ) (none : List ℕ) → none ≡ [] → Laid l l start none start
laid_none l start none e = record { end = omega (arith, ap length e); long = refl; front = rw e (sym (append-nil (take start l))) }

pub halfway_start : (l : List ℕ) (start : ℕ) (numbers : List ℕ) → Halfway l l start numbers start numbers
halfway_start l start numbers = record { end = refl; long = refl; front = refl }

-- a piece of what is left
pub halfway_turn : (l₀ l l' : List ℕ) (start : ℕ) (numbers : List ℕ) (at r : ℕ) (piece rest left : List ℕ) → left ≡ piece ++ rest
    → Halfway l₀ l start numbers at left → Laid l l' at piece r → Halfway l₀ l' start numbers r rest
halfway_turn l₀ l l' start numbers at r piece rest left e h p =
    record {
      end = omega (arith, h.end, p.end, ap length e, length-append piece rest);
      long = p.long ∙ h.long;
      front = rw p.front (append_assoc (take at l) piece rest ∙ rw (sym e) h.front);
    }

-- it fits
pub halfway_room : (l₀ l : List ℕ) (start : ℕ) (numbers : List ℕ) (at more : ℕ) (piece rest left : List ℕ) → left ≡ piece ++ rest
    → Halfway l₀ l start numbers at left → start + length numbers + more ≤ length l₀ → at + length piece + more ≤ length l
halfway_room l₀ l start numbers at more piece rest left e h f = omega (arith, h.end, h.long, ap length e, length-append piece rest)

-- nothing is left
pub halfway_end : (l₀ l : List ℕ) (start : ℕ) (numbers : List ℕ) (at : ℕ) (rest : List ℕ) → rest ≡ [] → Halfway l₀ l start numbers at rest → Laid l₀ l start numbers at
halfway_end l₀ l start numbers at rest e h =
    record { end = omega (arith, h.end, ap length e); long = h.long; front = sym (append-nil (take at l)) ∙ rw (sym e) h.front }

-- one piece behind the other
pub laid_on : (l₀ l₁ l₂ : List ℕ) (start r r' : ℕ) (first second numbers : List ℕ) → numbers ≡ first ++ second → Laid l₀ l₁ start first r → Laid l₁ l₂ r second r' → Laid l₀ l₂ start numbers r'
laid_on l₀ l₁ l₂ start r r' first second numbers e a b =
    halfway_end l₀ l₂ start numbers r' [] refl (halfway_turn l₀ l₁ l₂ start numbers r r' second [] second (sym (append-nil second)) (halfway_turn l₀ l₀ l₁ start numbers start r first second numbers e (halfway_start l₀ start numbers) a) b)

-- a part of the list that was lent, back in its place
pub laid_part : (l l' : List ℕ) (start r : ℕ) (part : List ℕ) → r ≤ length l → start ≤ r → length part ≡ r - start → l' ≡ take start l ++ (part ++ drop (r - start) (drop start l)) → Laid l l' start part r
laid_part l l' start r part h b n e =
    let z : start + (r - start) ≡ r = omega arith in
    let f : length (take start l ++ part) ≡ r = length-append (take start l) part ∙ omega (arith, length-take-le start l (omega arith)) in
    let v : l' ≡ take start l ++ part ++ drop r l = e ∙ rw (drop-drop (r - start) start l, z) (sym (append_assoc (take start l) part (drop r l))) in
    record {
      end = omega arith;
      long = ap length v ∙ length-append (take start l ++ part) (drop r l) ∙ omega (arith, f, length-drop r l);
      front = ap (take r) v ∙ take_at (take start l ++ part) (drop r l) r f;
    }

-- two stores
pub laid_two : (l : List ℕ) (at x y : ℕ) → at + 2 ≤ length l → Laid l (set (set l at x) (at + 1) y) at (x ∷ y ∷ []) (at + 2)
laid_two l at x y h =
    let vs = x ∷ y ∷ [] in
    let p : length (take at l ++ vs) ≡ at + 2 = length-append (take at l) vs ∙ omega (arith, length-take-le at l (omega arith)) in
    record {
      end = refl;
      long = length-set (set l at x) (at + 1) y ∙ length-set l at x;
      front = rw (add-one at, sets-eq vs l at h) (take_at (take at l ++ vs) (drop (at + 2) l) (at + 2) p);
    }

-- what is laid stays when two numbers behind it are stored
laid_stays : (l₀ l : List ℕ) (start : ℕ) (numbers : List ℕ) (r at x y : ℕ) → r ≤ at → Laid l₀ l start numbers r → Laid l₀ (set (set l at x) (at + 1) y) start numbers r
laid_stays l₀ l start numbers r at x y h p =
    record {
      end = p.end;
      long = length-set (set l at x) (at + 1) y ∙ length-set l at x ∙ p.long;
      front = take-set-le r (set l at x) (at + 1) y (omega arith) ∙ take-set-le r l at x h ∙ p.front;
    }

-- n pairs of numbers are laid one by one, j so far; from n on others are stored behind them
pub record LaidPairs (l₀ l : List ℕ) (start : ℕ) (numbers : List ℕ) (n j at : ℕ) (rest : List ℕ) : Type 0 where
  pub due : j ≤ n → Halfway l₀ l start numbers at rest
  pub done : n ≤ j → Laid l₀ l start numbers (start + 2 * n)

pub pairs_start : (l : List ℕ) (start : ℕ) (numbers : List ℕ) (n : ℕ) → 0 < n → LaidPairs l l start numbers n 0 start numbers
pairs_start l start numbers n h = record { due = λ z. halfway_start l start numbers; done = λ z. absurd (omega arith) }

module _ (l₀ l : List ℕ) (start : ℕ) (numbers : List ℕ) (n j at : ℕ) (rest : List ℕ) (x y : ℕ) (rest' : List ℕ) where
  abbrev l' : List ℕ
  l' = set (set l at x) (at + 1) y

  pub pairs_turn : at ≡ start + 2 * j → at + 2 ≤ length l → (j < n → rest ≡ (x ∷ y ∷ []) ++ rest') → (n ≤ j + 1 → rest' ≡ [])
      → LaidPairs l₀ l start numbers n j at rest → LaidPairs l₀ l' start numbers n (j + 1) (at + 2) rest'
  pairs_turn e room turn end i = record { due = λ h. pair (omega arith); done = λ h. go h (dec_lt j n) }
    where
      pair : j < n → Halfway l₀ l' start numbers (at + 2) rest'
      pair h = halfway_turn l₀ l l' start numbers at (at + 2) (x ∷ y ∷ []) rest' rest (turn h) (i.due (omega arith)) (laid_two l at x y room)

      go : n ≤ j + 1 → Dec (j < n) → Laid l₀ l' start numbers (start + 2 * n)
      go h (yes k) = let z : start + 2 * n ≡ at + 2 = omega arith in rw z (halfway_end l₀ l' start numbers (at + 2) rest' (end h) (pair k))
      go h (no k) = laid_stays l₀ l start numbers (start + 2 * n) at x y (omega arith) (i.done (omega arith))
