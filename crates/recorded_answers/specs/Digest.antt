-- The digest of a list (RECORD.md).
use Rattle.std.specs.Prelude.{◌≡◌, List, [], ◌∷◌, ℕ, ◌+◌, ◌*◌, ◌%◌, ◌^◌}

abbrev pub digested : ℕ → ℕ → ℕ
digested h e = (16777619 * h + e) % 2 ^ 32

-- of a list behind elements whose digest is h
unfoldable pub digest : ℕ → List ℕ → ℕ
digest h [] = h
digest h (e ∷ l) = digest (digested h e) l

-- of elements that are converted to numbers: d is the digest of their numbers
unfoldable pub Digests : {T : Type 0} → (T → ℕ → Type 0) → ℕ → List T → ℕ → Type 0
Digests converts h [] d = d ≡ h
Digests converts h (e ∷ l) d = (n : ℕ) × converts e n × Digests converts (digested h n) l d
