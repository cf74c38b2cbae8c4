-- Laws on the lines of the varblocks (document 01, The lister).
use Rattle.std.specs.Prelude.{◌≡◌, List, [], ◌++◌, ℕ, ◌+◌, ◌≤◌, ◌<◌, length, ◌⊎◌}
use Rattle.std.proofs.Math.Path.{ap}
use Rattle.std.proofs.Common.{sym, subst, ◌∙◌, arith, le-leb, inl, inr}
use Rattle.std.proofs.lemmas.Bool.{lt-leb}
use Rattle.laws.specs.laws.Cases.{le_or_lt}
use Rattle.layout.specs.Grid.{block_at}
use Rattle.layout.specs.Varblocks.{varblocks_of}
use Rattle.layout.proofs.laws.Rest.{rest, rest_corner, rest_plain, rest_rows, rest_turn, rest_end}
use Rattle.text.specs.Text.{Puts}
use Rattle.text.specs.laws.Text.{puts_then, puts_none}
use Rattle.lister.specs.Texts.{lines_of}
use Rattle.lister.specs.laws.Texts.{line_at}

module _ (bw : ℕ) (kinds hf_mul : List ℕ) where
  module _ (bh : ℕ) where
    abbrev pub lines_left : ℕ → ℕ → List ℕ
    lines_left x y = lines_of (rest bw bh (block_at kinds bw) (block_at hf_mul bw) x y)

    pub lines_start : lines_of (varblocks_of bw bh kinds hf_mul) ≡ lines_left 0 0
    lines_start = ap lines_of (rest_rows bw bh (block_at kinds bw) (block_at hf_mul bw) bh 0 (omega arith))

    pub lines_next : (x y : ℕ) → x < bw → y < bh → lines_left x y ≡ line_at bw kinds hf_mul x y ++ lines_left (x + 1) y
    unfolding lines_of
    lines_next x y h l = go (le_or_lt 2 (block_at kinds bw x y))
      where
        go : (2 ≤ block_at kinds bw x y) ⊎ (block_at kinds bw x y < 2) → lines_left x y ≡ line_at bw kinds hf_mul x y ++ lines_left (x + 1) y
        go (inl c) = ap lines_of (rest_corner bw bh (block_at kinds bw) (block_at hf_mul bw) x y h l c) ∙ rw (le-leb 2 (block_at kinds bw x y) c)
        go (inr c) = ap lines_of (rest_plain bw bh (block_at kinds bw) (block_at hf_mul bw) x y h l c) ∙ rw (lt-leb 2 (block_at kinds bw x y) c)

    pub lines_turn : (y : ℕ) → y < bh → lines_left bw y ≡ lines_left 0 (y + 1)
    lines_turn y h = ap lines_of (rest_turn bw bh (block_at kinds bw) (block_at hf_mul bw) y h)

    pub lines_end : lines_left 0 bh ≡ []
    unfolding lines_of
    lines_end = ap lines_of (rest_end bw bh (block_at kinds bw) (block_at hf_mul bw))

-- what is yet to be put makes up what was to be put in all
pub record Continues (d : List ℕ) (i : ℕ) (s d₁ : List ℕ) (i₁ : ℕ) (t : List ℕ) : Type 0 where
  pub whole : (d₂ : List ℕ) (i₂ : ℕ) → Puts d₁ i₁ t d₂ i₂ → Puts d i s d₂ i₂

pub goes_start : (d s : List ℕ) (i : ℕ) → Continues d i s d i s
goes_start d s i = record { whole = λ d₂ i₂ p. p }

pub goes_same : (d s d₁ t u : List ℕ) (i i₁ : ℕ) → t ≡ u → Continues d i s d₁ i₁ t → Continues d i s d₁ i₁ u
goes_same d s d₁ t u i i₁ e c = record { whole = λ d₂ i₂ p. c.whole d₂ i₂ (subst (λ (z : List ℕ). Puts d₁ i₁ z d₂ i₂) (sym e) p) }

pub goes_on : (d s d₁ d₂ t u : List ℕ) (i i₁ i₂ : ℕ) → Continues d i s d₁ i₁ (t ++ u) → Puts d₁ i₁ t d₂ i₂ → Continues d i s d₂ i₂ u
goes_on d s d₁ d₂ t u i i₁ i₂ c p = record { whole = λ d₃ i₃ q. c.whole d₃ i₃ (puts_then d₁ d₂ d₃ t u i₁ i₂ i₃ p q) }

pub goes_far : (d s d₁ t d₂ u : List ℕ) (i i₁ i₂ : ℕ) → Continues d i s d₁ i₁ t → Continues d₁ i₁ t d₂ i₂ u → Continues d i s d₂ i₂ u
goes_far d s d₁ t d₂ u i i₁ i₂ c e = record { whole = λ d₃ i₃ p. c.whole d₃ i₃ (e.whole d₃ i₃ p) }

pub goes_end : (d s d₁ : List ℕ) (i i₁ : ℕ) → i₁ ≤ length d₁ → Continues d i s d₁ i₁ [] → Puts d i s d₁ i₁
goes_end d s d₁ i i₁ h c = c.whole d₁ i₁ (puts_none d₁ i₁ h)
