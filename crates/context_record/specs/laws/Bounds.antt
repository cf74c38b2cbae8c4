-- What a fit record keeps to.
use Rattle.std.specs.Prelude.{◌≡◌, refl, Bool, true, false, ◌&&◌, List, [], ◌∷◌, length, leb, ltb, take}
use Rattle.std.proofs.Common.{arith, ◌∙◌}
use Rattle.std.proofs.Common.{sym, subst, ltb→lt, lt→ltb, get_or-take}
use Prim.Native.Nat.{ℕ, ◌*◌, ◌≤◌, ◌<◌}
use Rattle.std.proofs.Math.Dec.{T, leb→le}
use Rattle.std.proofs.Math.ListN.{get_or}
use borrow.Author.Tests.{le-leb}
use Rattle.laws.specs.Tables.{every}
use Rattle.std.specs.List.{list_all}
use Rattle.context_record.specs.laws.Every.{each_get_d, every_is}
use Rattle.context_record.specs.declared.HfBlockContext.{HfBlockContext}
use Rattle.context_record.specs.Record.{bsize_of, qf_fit, fit_of, fit}
use Rattle.bytes_below.specs.Below.{bytes_below}

-- a list in its 15 places
abbrev pub short : ℕ → Bool
short n = leb n 15

short_four : (xs : List ℕ) → length xs ≡ 4 → get_or xs 0 0 ≤ 15 → get_or xs 1 0 ≤ 15 → get_or xs 2 0 ≤ 15 → get_or xs 3 0 ≤ 15 → list_all short xs ≡ true
short_four (a ∷ b ∷ c ∷ d ∷ []) e h0 h1 h2 h3 = rw (le-leb a 15 h0, le-leb b 15 h1, le-leb c 15 h2, le-leb d 15 h3)
short_four [] e h0 h1 h2 h3 = absurd (omega arith)
short_four (a ∷ []) e h0 h1 h2 h3 = absurd (omega arith)
short_four (a ∷ b ∷ []) e h0 h1 h2 h3 = absurd (omega arith)
short_four (a ∷ b ∷ c ∷ []) e h0 h1 h2 h3 = absurd (omega arith)
short_four (a ∷ b ∷ c ∷ d ∷ x ∷ xs) e h0 h1 h2 h3 = absurd (omega arith)

pub short_each : (xs : List ℕ) → list_all short xs ≡ true → (k : ℕ) → get_or xs k 0 ≤ 15
short_each xs e k = leb→le (get_or xs k 0) 15 (each_get_d short xs 0 tt (subst T (sym (every_is short xs ∙ e)) tt) k)

pub record Fit (clusters : ℕ) (lengths qf map : List ℕ) : Type 0 where
  pub short0 : get_or lengths 0 0 ≤ 15
  pub short1 : get_or lengths 1 0 ≤ 15
  pub short2 : get_or lengths 2 0 ≤ 15
  pub short3 : get_or lengths 3 0 ≤ 15
  pub size : bsize_of lengths ≤ 64
  pub some : 1 ≤ clusters
  pub few : clusters ≤ 16
  pub values : T (every qf_fit (take (get_or lengths 3 0) qf))
  pub bytes : T (bytes_below clusters (take (39 * bsize_of lengths) map))

nine : (a b c d e f g h i : Bool) → T (a && b && c && d && e && f && g && h && i) → T a × T b × T c × T d × T e × T f × T g × T h × T i
nine true true true true true true true true false t = elim t [ ]
nine true true true true true true true false i t = elim t [ ]
nine true true true true true true false h i t = elim t [ ]
nine true true true true true false g h i t = elim t [ ]
nine true true true true false f g h i t = elim t [ ]
nine true true true false e f g h i t = elim t [ ]
nine true true false d e f g h i t = elim t [ ]
nine true false c d e f g h i t = elim t [ ]
nine false b c d e f g h i t = elim t [ ]
nine true true true true true true true true true t = (tt, tt, tt, tt, tt, tt, tt, tt, tt)

module _ (clusters : ℕ) (lengths qf map : List ℕ) where
  pub fits : fit_of clusters lengths qf map ≡ true → Fit clusters lengths qf map
  unfolding fit_of
  fits e =
      let len : ℕ → ℕ = λ (k : ℕ). get_or lengths k 0 in
      let t =
      nine (leb (len 0) 15) (leb (len 1) 15) (leb (len 2) 15) (leb (len 3) 15) (leb (bsize_of lengths) 64) (leb 1 clusters) (leb clusters 16)
      (every qf_fit (take (len 3) qf)) (bytes_below clusters (take (39 * bsize_of lengths) map)) (subst T (sym e) tt)
      in
      record {
        short0 = leb→le (len 0) 15 t.0;
        short1 = leb→le (len 1) 15 t.1;
        short2 = leb→le (len 2) 15 t.2;
        short3 = leb→le (len 3) 15 t.3;
        size = leb→le (bsize_of lengths) 64 t.4;
        some = leb→le 1 clusters t.5;
        few = leb→le clusters 16 t.6;
        values = t.7;
        bytes = t.8;
      }

  pub fit_short : length lengths ≡ 4 → Fit clusters lengths qf map → list_all short lengths ≡ true
  fit_short e f = short_four lengths e f.short0 f.short1 f.short2 f.short3

  -- what is left to test once all else is fit
  pub fit_last : get_or lengths 0 0 ≤ 15 → get_or lengths 1 0 ≤ 15 → get_or lengths 2 0 ≤ 15 → get_or lengths 3 0 ≤ 15 → bsize_of lengths ≤ 64
      → 1 ≤ clusters → clusters ≤ 16 → every qf_fit (take (get_or lengths 3 0) qf) ≡ true
      → fit_of clusters lengths qf map ≡ bytes_below clusters (take (39 * bsize_of lengths) map)
  unfolding fit_of
  fit_last h0 h1 h2 h3 s m f v =
      rw (
        le-leb (get_or lengths 0 0) 15 h0,
        le-leb (get_or lengths 1 0) 15 h1,
        le-leb (get_or lengths 2 0) 15 h2,
        le-leb (get_or lengths 3 0) 15 h3,
        le-leb (bsize_of lengths) 64 s,
        le-leb 1 clusters m,
        le-leb clusters 16 f,
        v,
      )

  -- a byte of the used part of the map
  pub fit_byte : Fit clusters lengths qf map → (k : ℕ) → k < 39 * bsize_of lengths → get_or map k 0 < clusters
  fit_byte f k h =
      let m = 39 * bsize_of lengths in
      rw (← get_or-take m map k 0 h)
      (ltb→lt (get_or (take m map) k 0) clusters
      (each_get_d (λ (b : ℕ). ltb b clusters) (take m map) 0 (lt→ltb 0 clusters f.some) f.bytes k))

abbrev pub IsFit : HfBlockContext → Type 0
IsFit R = Fit R.num_block_clusters R.lengths R.qf_thresholds R.block_ctx_map

pub is_fit : (R : HfBlockContext) → fit R ≡ true → IsFit R
is_fit R = fits R.num_block_clusters R.lengths R.qf_thresholds R.block_ctx_map

pub refuted : (b : Bool) → (b ≡ true → ⊥) → false ≡ b
refuted true h = absurd (h refl)
refuted false h = refl

pub false_true : (b : Bool) → b ≡ false → T b → ⊥
false_true b e t = subst T e t
