-- What meets the premises of demand 3 with all that they speak of, as the calls themselves hand it on: M4's layout through the cut, thresholds on
-- all four lists, LF grids, permuted orders, the last of three presets, starting grids that are not zero; and a filling.
use Rattle.std.specs.Prelude.{true, List, [], ◌∷◌, ◌++◌, ℕ, zero, suc, ◌^◌, ◌-◌, set, drop, replicate}
use Rattle.order_sizes.specs.BlockSizes.{BLOCK_SIZES}
use Rattle.order_natural.specs.Places.{Place}
use Rattle.order_natural.specs.Natural.{natural}
use Rattle.order_permutation.specs.Digits.{ordered}
use Rattle.order_store.specs.Store.{stored}
use Rattle.order_naturals.specs.Naturals.{naturals}
use Rattle.context_record.specs.declared.HfBlockContext.{HfBlockContext}
use Rattle.context_thresholds.specs.Thresholds.{lists_of}
use Rattle.context_call.specs.Call as context
use Rattle.coeff_group.specs.Group.{PerChannel}
use Rattle.coeff_group.specs.PassGroup.{PassGroup}
use Rattle.coeff_call.specs.Call.{Lent}

-- Orders: order 0 alone is used, channel 0 with digit 1, channel 1 with digits 2, 0, channel 2 with none.
abbrev pub lists : List (List Place)
lists =
    ordered (0, 0) 1 (natural 8 8) (1 ∷ []) ∷ ordered (0, 0) 1 (natural 8 8) (2 ∷ 0 ∷ []) ∷ ordered (0, 0) 1 (natural 8 8) [] ∷ drop 3 (naturals BLOCK_SIZES)

unfoldable pub store : List ℕ
store = stored lists

-- Contexts: 2 clusters, a threshold on each list: 0, −2, 2 and qf 2; a map that tells the LF numbers of channel 1 apart.
unfoldable pub pairs : ℕ → List ℕ
pairs zero = []
pairs (suc n) = 0 ∷ 1 ∷ pairs n

abbrev pub map : List ℕ
map = pairs 312

abbrev pub contexts : HfBlockContext
contexts = context.contexts_of 2 (lists_of (0 ∷ []) (4294967294 ∷ []) (2 ∷ []) (2 ∷ [])) map

abbrev pub kinds : List ℕ
kinds = 8 ∷ 2 ∷ 1 ∷ 2 ∷ []

abbrev pub hf_mul : List ℕ
hf_mul = 5 ∷ 1 ∷ 0 ∷ 3 ∷ []

-- The group.
abbrev pub pass_group : PassGroup
pass_group = record {
  bw = 2;
  bh = 2;
  kinds = kinds;
  hf_mul = hf_mul;
  contexts = contexts;
  lf_there = true;
  lf0 = 1 ∷ 4294967295 ∷ 0 ∷ 5 ∷ [];
  lf1 = 4294967290 ∷ 3 ∷ 0 ∷ 4294967294 ∷ [];
  lf2 = 2 ∷ 3 ∷ 4294967293 ∷ 0 ∷ [];
  store = store;
}

-- channel 0 starts with 5, channel 1 with −1, channel 2 with 0
abbrev pub start : PerChannel
start = replicate 256 5 ∷ replicate 256 4294967295 ∷ replicate 256 0 ∷ []

-- three presets, of which the byte 2 takes the last
abbrev pub full : Lent
full = record {
  pass_group = pass_group;
  presets = 3;
  cluster_map = replicate 990 0 ++ (replicate 990 1 ++ replicate 990 2);
  shift = 0;
  bytes = 2 ∷ [];
  symbols = [];
  log = replicate 768 9;
  grids = start;
}

-- A filling: in channel 1 cell (1,0) becomes 2 and cell (9,0) −3, in channel 0 cell (8,9) becomes 6, in channel 2 cell (0,2) becomes 7.
abbrev pub changed : PerChannel
changed = set (replicate 256 5) 152 6 ∷ set (set (replicate 256 4294967295) 1 2) 9 (2 ^ 32 - 3) ∷ set (replicate 256 0) 32 7 ∷ []
