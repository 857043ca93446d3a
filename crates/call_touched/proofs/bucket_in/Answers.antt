-- `call_touched::bucket_in` meets its contract. Assumes nothing.
use native.Mathlib.Omega.{arith}
use Rattle.call_touched.proofs.Slots.{fits, most, counts, is-ready}
use Rattle.call_touched.proofs.bucket_in.Goals as goal

pub overflow_mul-slot : goal.overflow_mul-slot
overflow_mul-slot c = omega (arith, fits c.args.table.now c.args.slot c.requires, most c.args.table.now c.args.slot c.requires, c.requires.kept)

pub overflow_add-slot : goal.overflow_add-slot
overflow_add-slot c = omega (arith, fits c.args.table.now c.args.slot c.requires, most c.args.table.now c.args.slot c.requires, c.requires.kept)

pub load-requires : goal.load-requires
load-requires c = let a = c.args in
    (omega (arith, fits a.table.now a.slot c.requires), counts a.table.now a.slot c.requires)

pub returns : goal.returns
returns c = let start = c in
    (c.load.ensures, is-ready start.args.table.now start.args.slot start.requires (λ k. (c.shared_slice_known-1.given k).fits) c.load.result c.load.ensures)
