-- Contexts of 458 and more, which 17 refuses (document 01, Refused): where they are met.
use Rattle.std.specs.Prelude.{Bool, cond, ◌&&◌, ℕ, leb}
use Rattle.coeff_context.specs.laws.Contexts.{entries}

-- One test over the 3,969 pairs of entries.
abbrev pub parted : ℕ → ℕ → Bool
parted a c = cond (leb 32 a && leb 31 c) (leb 229 (entries a c)) (leb (entries a c) 228)
