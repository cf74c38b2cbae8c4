use Rattle.coeff_group.proofs.laws.Steps.{in_first, in_second, in_third}
use Rattle.coeff_walk.specs.Item.{counted}
use Rattle.coeff_walk.specs.laws.Items.{item_at}
use native.Mathlib.Omega.{arith}
use lib.ListN.{drop}
use Rattle.coeff_varblock.proofs.channel.read_in_grid.Goals as goal

pub returns-then-c-eq0 : goal.returns-then-c-eq0
returns-then-c-eq0 c =
    let a = c.args in
    (in_first a.c _ _ (λ g. counted a.shift a.clusters a.preset_map.now (item_at a.v a.bw a.block_context a.list.now) a.row.now (drop a.at a.symbols.now) a.at a.log.now g) a.g0.now a.g1.now a.g2.now _ (omega arith) c.read_counted.ensures.0, c.read_counted.ensures.1)

pub returns-then-c-eq1 : goal.returns-then-c-eq1
returns-then-c-eq1 c =
    let a = c.args in
    (in_second a.c _ _ (λ g. counted a.shift a.clusters a.preset_map.now (item_at a.v a.bw a.block_context a.list.now) a.row.now (drop a.at a.symbols.now) a.at a.log.now g) a.g0.now a.g1.now a.g2.now _ (omega arith) c.read_counted-then-c-eq1.ensures.0, c.read_counted-then-c-eq1.ensures.1)

pub returns : goal.returns
returns c =
    let a = c.args in
    (in_third a.c _ _ (λ g. counted a.shift a.clusters a.preset_map.now (item_at a.v a.bw a.block_context a.list.now) a.row.now (drop a.at a.symbols.now) a.at a.log.now g) a.g0.now a.g1.now a.g2.now _ (omega arith) c.read_counted-2.ensures.0, c.read_counted-2.ensures.1)

pub read_counted-requires : goal.read_counted-requires
read_counted-requires c = c.requires.1

pub read_counted-requires-then-c-eq1 : goal.read_counted-requires-then-c-eq1
read_counted-requires-then-c-eq1 c = c.requires.1

pub read_counted-requires-2 : goal.read_counted-requires-2
read_counted-requires-2 c = c.requires.1
