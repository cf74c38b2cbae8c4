-- Each cell by itself: what its kind and hf_mul must be, wherever it stands.
use Rattle.std.specs.Prelude.{◌≡◌, Bool, true, false, ◌&&◌, not, List, [], ◌∷◌, ltb, eqb, get_or}
use Rattle.std.proofs.Math.Path.{refl}
use Rattle.std.proofs.Common.{sym, ◌∙◌, ltb-true, ltb-false, eqb-true, lt-ltb, le-ltb, eq-eqb, ne_eqb}
use Rattle.std.proofs.Math.Logic.{⊎_elim}
use Prim.Native.Nat.{ℕ, zero, suc, ◌+◌, ◌*◌, ◌^◌, ◌≤◌, ◌<◌}
use native.Mathlib.Omega.{arith}
use Rattle.std.proofs.Math.ListN.{length}
use Rattle.std.proofs.lemmas.Bool.{eqb-false}
use Rattle.laws.specs.laws.Cases.{eq_or_ne, le_or_lt, and-true}
use Rattle.bytes_below.specs.Below.{bytes_below}
use Rattle.layout.specs.Grid.{block_at}
use Rattle.layout.proofs.laws.Grid.{place_lt, cell_at}
use Rattle.layout.specs.Valid.{Layout}
use Rattle.layout.specs.Check.{is_layout}
use Rattle.layout.proofs.laws.Theorems.{layout_iff}
use Rattle.lent_cells.specs.laws.Cells.{flag_of, flaw_of}

-- over the first n cells
unfoldable pub flaws : List ℕ → List ℕ → ℕ → ℕ
flaws ks ms zero = 0
flaws ks ms (suc n) = flaws ks ms n + flaw_of (get_or ks n 0) (get_or ms n 0)

unfoldable pub is_sound : List ℕ → List ℕ → Bool
is_sound ks ms = bytes_below 29 ks && eqb (flaws ks ms (length ks)) 0

-- what is known of a cell that is not flawed
pub record Sound (k m : ℕ) : Type 0 where
  pub known : k ≤ 28
  pub occupied : k ≡ 1 → m ≡ 0
  pub other : (k ≡ 1 → ⊥) → 1 ≤ m
  pub signed : m < 2 ^ 31

sound_of : (k m : ℕ) → k < 29 → flaw_of k m ≡ 0 → Sound k m
unfolding flaw_of
sound_of k m h e = go (eqb k 1) refl (eqb m 0) refl (ltb 2147483647 m) refl e
  where
    go : (a : Bool) → eqb k 1 ≡ a → (b : Bool) → eqb m 0 ≡ b → (c : Bool) → ltb 2147483647 m ≡ c → flag_of (not (eqb (flag_of a) (flag_of b))) + flag_of c ≡ 0 → Sound k m
    go a p b q true r e = absurd (omega arith)
    go true p true q false r e = let z = eqb-true m 0 q in let o = eqb-true k 1 p in record { known = omega arith; occupied = λ f. z; other = λ n. absurd (n o); signed = omega arith }
    go true p false q false r e = absurd (omega arith)
    go false p true q false r e = absurd (omega arith)
    go false p false q false r e =
        let z = eqb-false m 0 q in let o = eqb-false k 1 p in let l = ltb-false 2147483647 m r in record { known = omega arith; occupied = λ f. absurd (o f); other = λ n. omega arith; signed = omega arith }

flawless : (k m : ℕ) → Sound k m → flaw_of k m ≡ 0
unfolding flaw_of
flawless k m s =
    let l = s.signed in
    ⊎_elim
    (λ (e : k ≡ 1). rw (eq-eqb k 1 e, eq-eqb m 0 (s.occupied e), le-ltb 2147483647 m (omega arith)))
    (λ (n : k ≡ 1 → ⊥). let z = s.other n in rw (ne_eqb k 1 n, ne_eqb m 0 (λ q. omega arith), le-ltb 2147483647 m (omega arith)))
    (eq_or_ne k 1)

-- a count that is 0, and each of what it counts
module _ (ks ms : List ℕ) where
  each_flawless : (n : ℕ) → flaws ks ms n ≡ 0 → (i : ℕ) → i < n → flaw_of (get_or ks i 0) (get_or ms i 0) ≡ 0
  unfolding flaws
  each_flawless zero e i h = absurd (omega arith)
  each_flawless (suc n) e i h =
      ⊎_elim (λ (q : i ≡ n). rw q (let z : flaw_of (get_or ks n 0) (get_or ms n 0) ≡ 0 = omega arith in z)) (λ (q : i ≡ n → ⊥). each_flawless n (omega arith) i (omega arith)) (eq_or_ne i n)

  flawless_each : (n : ℕ) → ((i : ℕ) → i < n → flaw_of (get_or ks i 0) (get_or ms i 0) ≡ 0) → flaws ks ms n ≡ 0
  unfolding flaws
  flawless_each zero f = refl
  flawless_each (suc n) f = let a = flawless_each n (λ i h. f i (omega arith)) in let b = f n (omega arith) in omega arith

below_each : (n : ℕ) (ks : List ℕ) → bytes_below n ks ≡ true → (i : ℕ) → i < length ks → get_or ks i 0 < n
below_each n [] e i h = absurd (omega arith)
below_each n (k ∷ ks) e zero h = ltb-true k n (and-true (ltb k n) _ e).0
below_each n (k ∷ ks) e (suc i) h = below_each n ks (and-true (ltb k n) _ e).1 i (omega arith)

each_below : (n : ℕ) (ks : List ℕ) → ((i : ℕ) → i < length ks → get_or ks i 0 < n) → bytes_below n ks ≡ true
each_below n [] f = refl
each_below n (k ∷ ks) f = rw (lt-ltb k n (f 0 (omega arith))) (each_below n ks (λ i h. f (suc i) (omega arith)))

-- The code's count.
module _ (ks ms : List ℕ) where
  pub sound_unknown : bytes_below 29 ks ≡ false → is_sound ks ms ≡ false
  unfolding is_sound
  sound_unknown e = rw e

  pub sound_known : bytes_below 29 ks ≡ true → is_sound ks ms ≡ eqb (flaws ks ms (length ks)) 0
  unfolding is_sound
  sound_known e = rw e

  pub flaws_start : flaws ks ms 0 ≡ 0
  unfolding flaws
  flaws_start = refl

  pub flaws_step : (n : ℕ) → flaws ks ms (n + 1) ≡ flaws ks ms n + flaw_of (get_or ks n 0) (get_or ms n 0)
  unfolding flaws
  flaws_step n = let e : n + 1 ≡ suc n = omega arith in rw e

module _ (bw bh : ℕ) (ks ms : List ℕ) (a : length ks ≡ bh * bw) (b : length ms ≡ bh * bw) where
  pub sound_cells : is_sound ks ms ≡ true → (x y : ℕ) → x < bw → y < bh → Sound (block_at ks bw x y) (block_at ms bw x y)
  unfolding is_sound
  sound_cells e x y i j =
      let p = and-true (bytes_below 29 ks) _ e in
      let l : y * bw + x < length ks = omega (arith, place_lt bw bh x y i j) in
      sound_of (block_at ks bw x y) (block_at ms bw x y) (below_each 29 ks p.0 (y * bw + x) l) (each_flawless ks ms (length ks) (eqb-true (flaws ks ms (length ks)) 0 p.1) (y * bw + x) l)

  -- the cells of a layout are sound
  sound_layout : Layout bw bh ks ms → is_sound ks ms ≡ true
  unfolding is_sound
  sound_layout ok =
      rw (each_below 29 ks (λ i h. let s = at_place i h in let k = s.known in omega arith))
      (eq-eqb (flaws ks ms (length ks)) 0 (flawless_each ks ms (length ks) (λ i h. flawless (get_or ks i 0) (get_or ms i 0) (at_place i h))))
    where
      at_cell : (x y : ℕ) → x < bw → y < bh → Sound (block_at ks bw x y) (block_at ms bw x y)
      at_cell x y i j =
          ⊎_elim
          (λ (h : 2 ≤ block_at ks bw x y). let f = ok.valid.fits x y i j h in record { known = f.known; occupied = λ e. absurd (omega arith); other = λ n. f.positive; signed = f.signed })
          (λ (h : block_at ks bw x y < 2). let p = ok.valid.plain x y i j h in record { known = omega arith; occupied = λ e. p.1; other = λ n. absurd (n p.0); signed = omega arith })
          (le_or_lt 2 (block_at ks bw x y))

      at_place : (i : ℕ) → i < length ks → Sound (get_or ks i 0) (get_or ms i 0)
      at_place i h = let c = cell_at bw bh i (omega arith) in rw c.place (at_cell c.x c.y c.in_x c.in_y)

  pub unsound : is_sound ks ms ≡ false → is_layout bw bh ks ms ≡ false
  unsound e = go (is_layout bw bh ks ms) refl
    where
      go : (t : Bool) → is_layout bw bh ks ms ≡ t → t ≡ false
      go false f = refl
      go true f = sym (sound_layout ((layout_iff bw bh ks ms a b).0 f)) ∙ e
