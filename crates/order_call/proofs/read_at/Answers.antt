use Rattle.std.proofs.Common.{rules, ◌≡◌, Err}
use native.Mathlib.Omega.{arith}
use mathlib.Core.Path.{refl}
use Prim.Native.Nat.{◌-◌, ◌+◌, ◌*◌}
use borrow.Rule.Slice.PartMut.{put_mid}
use Rattle.order_call.proofs.laws.Progress.{ListAt, list_at, list_read, list_refused}
use Rattle.order_call.proofs.read_at.Goals.{After-is_used-u}
use Rattle.order_call.proofs.read_at.Goals as goal

-- where the list lies
list : (c : After-is_used-u) → let a = c.args in ListAt a.used a.symbols.now a.store.now a.i a.at c.requires.0 c.requires.2 c.block_size-size.result c.block_size-size.ensures a.first c.requires.1
list c = let a = c.args in list_at a.used a.symbols.now a.store.now a.i a.at c.requires.0 c.requires.2 c.block_size-size.result c.block_size-size.ensures a.first c.requires.1

pub overflow_mul-next : goal.overflow_mul-next
overflow_mul-next c = omega (arith, (list (goal.at.overflow_mul-next c).After-is_used-u).room, c.requires.0.size)

pub overflow_mul-next-2 : goal.overflow_mul-next-2
overflow_mul-next-2 c = omega (arith, (list (goal.at.overflow_mul-next-2 c).After-is_used-u).room, c.requires.0.size)

pub overflow_add-next : goal.overflow_add-next
overflow_add-next c = omega (arith, (list (goal.at.overflow_add-next c).After-is_used-u).room, c.requires.0.size)

pub offset_bounds-store-first : goal.offset_bounds-store-first
offset_bounds-store-first c = omega (arith, (list (goal.at.offset_bounds-store-first c).After-is_used-u).room, c.requires.0.size)

pub slice_bounds-read_list-end : goal.slice_bounds-read_list-end
slice_bounds-read_list-end c = omega (arith, (list (goal.at.slice_bounds-read_list-end c).After-is_used-u).room, c.requires.0.size)

pub read_list-requires : goal.read_list-requires
read_list-requires c = let s = list (goal.at.read_list-requires c).After-is_used-u in (s.size.size, s.size.narrow, s.size.most, c.requires.0.within, s.part)

pub returns-in_err-read : goal.returns-in_err-read
returns-in_err-read c =
    let a = c.args in
    let e = a.first + 2 * (c.block_size-size.result.width * c.block_size-size.result.height) in
    let f : c.from_residual.result ≡ Err c.in_err-read.field-0.0 = search rules in
    rw f (list_refused a.used a.symbols.now a.store.now a.i a.at c.requires.0 c.requires.2 c.block_size-size.result c.block_size-size.ensures a.first c.requires.1 c.is_used-u.result c.in_err-read.field-0.0 c.read_list.new.list (put_mid a.first (e - a.first) a.store.now c.read_list.new.list) c.is_used-u.ensures c.in_err-read.ensures)

pub returns : goal.returns
returns c =
    let a = c.args in
    let e = a.first + 2 * (c.block_size-size.result.width * c.block_size-size.result.height) in
    list_read a.used a.symbols.now a.store.now a.i a.at c.requires.0 c.requires.2 c.block_size-size.result c.block_size-size.ensures a.first c.requires.1 c.is_used-u.result c.in_ok-read.read c.read_list.new.list (put_mid a.first (e - a.first) a.store.now c.read_list.new.list) c.is_used-u.ensures c.in_ok-read.ensures refl
