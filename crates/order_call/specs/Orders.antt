-- Orders read from symbols (document 01, Orders; `HfPass::parse`).
use Rattle.std.specs.Prelude.{◌≡◌, ◌⊎◌, Bool, cond, List, [], ◌∷◌, ℕ, zero, suc, ◌+◌, ◌*◌, ◌-◌, ◌/◌, ◌%◌, ◌^◌, ◌<◌, ◌≤◌, ltb, leb, eqb}
use Rattle.refusal.specs.declared.Refusal.{Refusal}
use Rattle.refusal.specs.declared.Refusal.TheVariants.{Order, SymbolsEnd}
use Rattle.order_sizes.specs.BlockSizes.{BLOCK_SIZES}
use Rattle.order_natural.specs.Places.{Place}
use Rattle.order_natural.specs.Natural.{natural}
use Rattle.order_permutation.specs.Digits.{ordered}

-- what was read, the symbols left and how many were read; or a refusal
pub data FromSymbols (A : Type 0) : Type 0 where
  Given : A → List ℕ → ℕ → FromSymbols A
  Refused : Refusal → FromSymbols A

abbrev pub and_then : {A B : Type 0} → FromSymbols A → (A → List ℕ → ℕ → FromSymbols B) → FromSymbols B
and_then (Given a us at) k = k a us at
and_then (Refused why) k = Refused why

-- 13 at the number of symbols read, unless the test passes
abbrev pub check : {A : Type 0} → Bool → ℕ → FromSymbols A → FromSymbols A
check ok at r = cond ok r (Refused (Order at))

-- n digits, each below what remains
unfoldable pub digits : ℕ → ℕ → List ℕ → ℕ → FromSymbols (List ℕ)
digits zero left us at = Given [] us at
digits (suc n) left [] at = Refused (SymbolsEnd at)
digits (suc n) left (u ∷ us) at = check (ltb u left) (at + 1) (and_then (digits n (left - 1) us (at + 1)) (λ ds. Given (u ∷ ds)))

-- n digits choose an order; the first size / 64 places are fixed
abbrev pub by_digits : ℕ → ℕ → ℕ → List ℕ → ℕ → FromSymbols (List Place)
by_digits width height n us at =
    and_then (digits n (width * height - width * height / 64) us at) (λ ds. Given (ordered (0, 0) (width * height / 64) (natural width height) ds))

-- a list of a used order: a length, at most what is free, then that many digits
unfoldable pub one_list : ℕ → ℕ → List ℕ → ℕ → FromSymbols (List Place)
one_list width height [] at = Refused (SymbolsEnd at)
one_list width height (n ∷ us) at = check (leb n (width * height - width * height / 64)) (at + 1) (by_digits width height n us (at + 1))

-- a list of the store: whether its order is used, and its size
pub record Entry : Type 0 where
  pub used : Bool
  pub width : ℕ
  pub height : ℕ

abbrev pub entry : Bool → Place → Entry
entry b s = record { used = b; width = s.0; height = s.1 }

-- an unused order is the natural order, and uses no symbol
abbrev pub entry_list : Bool → ℕ → ℕ → List ℕ → ℕ → FromSymbols (List Place)
entry_list used width height us at = cond used (one_list width height us at) (Given (natural width height) us at)

abbrev pub lists : List Entry → List ℕ → ℕ → FromSymbols (List (List Place))
lists [] us at = Given [] us at
lists (e ∷ es) us at = and_then (entry_list e.used e.width e.height us at) (λ l us at. and_then (lists es us at) (λ ls. Given (l ∷ ls)))

-- bit k of the used orders
abbrev pub is_used : ℕ → ℕ → Bool
is_used used k = eqb (used / 2 ^ k % 2) 1

-- the orders from k on, each for channels 0, 1, 2: bit k for order k
abbrev pub plan : ℕ → ℕ → List Place → List Entry
plan used k [] = []
plan used k (s ∷ ss) = let e = entry (is_used used k) s in e ∷ e ∷ e ∷ plan used (k + 1) ss

-- the 39 lists, or a refusal
unfoldable pub orders : ℕ → List ℕ → FromSymbols (List (List Place))
orders used us = lists (plan used 0 BLOCK_SIZES) us 0

-- a refusal after `at` of `all` symbols: 15 with all of them read, or 13 with the one that was too large read
abbrev pub Stops : ℕ → ℕ → Refusal → Type 0
Stops at all why = (why ≡ SymbolsEnd all) ⊎ ((m : ℕ) × (why ≡ Order m) × (at < m) × (m ≤ all))
