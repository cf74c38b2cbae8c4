-- The digits that the table of orders 0 to 6 is written in (document 02, No. 3).
use Rattle.std.specs.Prelude.{◌≡◌, cond, List, map, ℕ, ◌+◌, ◌%◌, ◌<◌, ◌≤◌, length, get_or, take, set, ltb}
use Rattle.std.proofs.Common.{sym, ◌∙◌, add-one, arith, take_all, take-suc, take-suc-set, lt-ltb, le-ltb}
use Rattle.std.proofs.lemmas.List.{length-map}
use Rattle.std.proofs.Math.ListN.{get_or-map}

-- what a character stands for to the base 32: 0 to 9, then a to v
unfoldable pub coordinate_of : ℕ → ℕ
coordinate_of c = cond (ltb c 64) (c % 16) (c % 32 + 9)

pub numeral : (c : ℕ) → c < 64 → c % 16 ≡ coordinate_of c
unfolding coordinate_of
numeral c h = rw (lt-ltb c 64 h)

pub letter : (c : ℕ) → 64 ≤ c → c % 32 + 9 ≡ coordinate_of c
unfolding coordinate_of
letter c h = rw (le-ltb c 64 h)

-- one more number written
pub stretch_turn : (l stretch : List ℕ) (j : ℕ) → j < length l → length l ≡ length stretch → take j l ≡ take j (map coordinate_of stretch)
    → take (j + 1) (set l j (coordinate_of (get_or stretch j 0))) ≡ take (j + 1) (map coordinate_of stretch)
stretch_turn l stretch j h n e =
    let o : j < length (map coordinate_of stretch) = omega (arith, length-map stretch coordinate_of) in
    rw add-one (take-suc-set l j (coordinate_of (get_or stretch j 0)) h ∙ rw (e, sym (get_or-map coordinate_of stretch j 0)) (sym (take-suc (map coordinate_of stretch) j (coordinate_of 0) o)))

-- all of them
pub stretch_end : (l stretch : List ℕ) (j : ℕ) → length l ≤ j → length l ≡ length stretch → take j l ≡ take j (map coordinate_of stretch) → l ≡ map coordinate_of stretch
stretch_end l stretch j h n e = sym (take_all j l h) ∙ e ∙ take_all j (map coordinate_of stretch) (omega (arith, length-map stretch coordinate_of))
