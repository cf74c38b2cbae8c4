-- Marked examples M1 and M2 (document 01).
use Rattle.std.specs.Prelude.{◌≡◌, refl, [], ◌∷◌, take}
use Rattle.order_natural.specs.Natural.{natural}

pub m1 : take 6 (natural 8 8) ≡ (0, 0) ∷ (1, 0) ∷ (0, 1) ∷ (0, 2) ∷ (1, 1) ∷ (2, 0) ∷ []
unfolding natural
m1 = refl

pub m2 : take 6 (natural 16 8) ≡ (0, 0) ∷ (1, 0) ∷ (0, 1) ∷ (2, 0) ∷ (3, 0) ∷ (1, 1) ∷ []
unfolding natural
m2 = refl
