-- `call_burst::hand_over_all` meets its contract. The invariant: what is left to do gives what all gives. Assumes nothing.
use mathlib.Core.Path.{◌≡◌, refl, sym, ◌∙◌}
use native.Mathlib.Omega.{arith}
use lib.ListN.{length}
use Rattle.call_burst_lists.specs.Lists.{Burst}
use Rattle.call_burst_lists.specs.Times.{lent_by}
use Rattle.call_burst_lists.proofs.Sums.{rest_next}
use Rattle.call_burst_lists.proofs.Whole.{Sized, sized, sums}
use Rattle.call_burst.proofs.Run.{going_start, going_next, table-end, numbers-end}
use Rattle.call_burst.proofs.hand_over_all.Goals as goal

pub loop-i-init : goal.loop-i-init
loop-i-init c =
    let lent : Burst = let x = c.args in
    lent_by x.low x.buffer.now x.lengths.now x.signers.now x.addresses.now x.ports.now x.millis.now x.readings.now x.unix.now in
    let is_sized : Sized lent (length c.args.numbers.now) = sized lent (length c.args.numbers.now) c.requires in
    let start = c in
    let x = start.args in
    (going_start x.low x.table.now lent x.numbers.now (sums lent (length x.numbers.now) start.requires) is_sized.list, refl)

pub hand_over-requires : goal.hand_over-requires
hand_over-requires c =
    let lent : Burst = let x = c.args in
    lent_by x.low x.buffer.now x.lengths.now x.signers.now x.addresses.now x.ports.now x.millis.now x.readings.now x.unix.now in
    let is_sized : Sized lent (length c.args.numbers.now) = sized lent (length c.args.numbers.now) c.requires in
    let start = c in
    let at_loop = c in
    let g = at_loop.loop-i.invariant.0 in
    let z = is_sized in
    let next = rest_next start.args.lengths.now at_loop.loop-i.i (omega arith) in record { i_bound = (omega (arith, z.count), omega (arith, g.list), omega arith, omega (arith, g.place, next)); i_in_bounds = (omega (arith, z.signers), omega (arith, z.addresses)); i_in_bounds_2 = (omega (arith, z.ports), omega (arith, z.millis), omega (arith, z.unix)) }

pub overflow_add-at : goal.overflow_add-at
overflow_add-at c = let start = c in
    let at_loop = c in
    let next = rest_next start.args.lengths.now at_loop.loop-i.i (omega arith) in
    record { fits = omega (arith, at_loop.loop-i.invariant.0.place, next) }

pub loop-i-preserved : goal.loop-i-preserved
loop-i-preserved c =
    let lent : Burst = let x = c.args in
    lent_by x.low x.buffer.now x.lengths.now x.signers.now x.addresses.now x.ports.now x.millis.now x.readings.now x.unix.now in
    let start = c in
    let at_loop = c in
    let done = c.hand_over in (
      going_next start.args.low start.args.table.now lent at_loop.loop-i.at at_loop.loop-i.i at_loop.loop-i.table at_loop.loop-i.numbers done.new.table done.new.numbers
          at_loop.loop-i.invariant.0 (omega arith) done.ensures.table_after done.ensures.numbers_after,
      omega (arith, at_loop.loop-i.invariant.1),
    )

pub shape_of-table : goal.shape_of-table
shape_of-table c = c.loop-i.invariant.1

pub shape_of-numbers : goal.shape_of-numbers
shape_of-numbers c =
    let lent : Burst = let x = c.args in
    lent_by x.low x.buffer.now x.lengths.now x.signers.now x.addresses.now x.ports.now x.millis.now x.readings.now x.unix.now in
    let is_sized : Sized lent (length c.args.numbers.now) = sized lent (length c.args.numbers.now) c.requires in
    c.loop-i.invariant.0.list ∙ sym is_sized.list

pub returns : goal.returns
returns c =
    let lent : Burst = let x = c.args in
    lent_by x.low x.buffer.now x.lengths.now x.signers.now x.addresses.now x.ports.now x.millis.now x.readings.now x.unix.now in
    let at_loop = c in
    let start = c in
    let end : at_loop.loop-i.i ≡ length start.args.lengths.now = omega (arith, at_loop.loop-i.invariant.0.upto) in record { table_after = table-end start.args.low start.args.table.now lent at_loop.loop-i.at at_loop.loop-i.i at_loop.loop-i.table at_loop.loop-i.numbers at_loop.loop-i.invariant.0 end; numbers_after = numbers-end start.args.low start.args.table.now lent at_loop.loop-i.at at_loop.loop-i.i at_loop.loop-i.table at_loop.loop-i.numbers at_loop.loop-i.invariant.0 end }
