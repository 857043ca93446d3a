-- `printout::held_in` meets its contract: what is counted so far, and what the buckets from `slot` on hold. Assumes nothing.
use Prim.Native.Nat.{◌+◌, ◌≤◌, ◌<◌}
use mathlib.Core.Path.{◌≡◌}
use native.Mathlib.Omega.{arith}
use lib.ListN.{length, get_or}
use Rattle.table_model.specs.Layout.{count_of, offset_of, buckets_of}
use Rattle.printout.specs.TableRow.{entry_total, replacement_total}
use Rattle.printout.proofs.Slots.{header_in, at-most, slot-in, counts}
use Rattle.printout.proofs.Counts.{no_entries, no-replacements, next-entries, next-replacements}
use Rattle.printout.proofs.held_in.Goals as goal

pub bucket_count-count-requires : goal.bucket_count-count-requires
bucket_count-count-requires c = header_in c.args.table.now c.requires

pub loop-slot-init : goal.loop-slot-init
loop-slot-init c = (omega arith, (omega arith, omega arith), (omega arith, omega arith))

pub overflow_mul-start : goal.overflow_mul-start
overflow_mul-start c =
    let kept : c.loop-slot.slot < count_of c.args.table.now = omega (arith, c.loop-slot-test.true, c.bucket_count-count.ensures) in
    omega (arith, kept, at-most c.args.table.now c.requires)

pub overflow_add-start : goal.overflow_add-start
overflow_add-start c =
    let kept : c.loop-slot.slot < count_of c.args.table.now = omega (arith, c.loop-slot-test.true, c.bucket_count-count.ensures) in
    omega (arith, kept, at-most c.args.table.now c.requires)

pub bounds-table-start : goal.bounds-table-start
bounds-table-start c =
    let kept : c.loop-slot.slot < count_of c.args.table.now = omega (arith, c.loop-slot-test.true, c.bucket_count-count.ensures) in
    let start_fits : offset_of (c.loop-slot.slot + 1) ≤ length c.args.table.now = slot-in c.args.table.now c.requires c.loop-slot.slot kept in
    omega (arith, start_fits)

pub overflow_add-entries : goal.overflow_add-entries
overflow_add-entries c =
    let kept : c.loop-slot.slot < count_of c.args.table.now = omega (arith, c.loop-slot-test.true, c.bucket_count-count.ensures) in
    let bounds : let s = c.args.table.now in let at = offset_of c.loop-slot.slot in (get_or s at 0 ≤ 16) × (get_or s (at + 1) 0 ≤ 4) = counts c.args.table.now c.requires c.loop-slot.slot kept in
    omega (arith, bounds.0, kept, at-most c.args.table.now c.requires, c.loop-slot.invariant.1.0)

pub overflow_add-replacements : goal.overflow_add-replacements
overflow_add-replacements c =
    let kept : c.loop-slot.slot < count_of c.args.table.now = omega (arith, c.loop-slot-test.true, c.bucket_count-count.ensures) in
    omega (arith, kept, at-most c.args.table.now c.requires)

pub bounds-table-start-in-loop-slot : goal.bounds-table-start-in-loop-slot
bounds-table-start-in-loop-slot c =
    let kept : c.loop-slot.slot < count_of c.args.table.now = omega (arith, c.loop-slot-test.true, c.bucket_count-count.ensures) in
    let start_fits : offset_of (c.loop-slot.slot + 1) ≤ length c.args.table.now = slot-in c.args.table.now c.requires c.loop-slot.slot kept in
    omega (arith, start_fits)

pub overflow_add-replacements-in-loop-slot : goal.overflow_add-replacements-in-loop-slot
overflow_add-replacements-in-loop-slot c =
    let kept : c.loop-slot.slot < count_of c.args.table.now = omega (arith, c.loop-slot-test.true, c.bucket_count-count.ensures) in
    let bounds : let s = c.args.table.now in let at = offset_of c.loop-slot.slot in (get_or s at 0 ≤ 16) × (get_or s (at + 1) 0 ≤ 4) = counts c.args.table.now c.requires c.loop-slot.slot kept in
    omega (arith, bounds.1, kept, at-most c.args.table.now c.requires, c.loop-slot.invariant.2.0)

pub loop-slot-preserved : goal.loop-slot-preserved
loop-slot-preserved c =
    let kept : c.loop-slot.slot < count_of c.args.table.now = omega (arith, c.loop-slot-test.true, c.bucket_count-count.ensures) in
    let bounds : let s = c.args.table.now in let at = offset_of c.loop-slot.slot in (get_or s at 0 ≤ 16) × (get_or s (at + 1) 0 ≤ 4) = counts c.args.table.now c.requires c.loop-slot.slot kept in
    let s = c.args.table.now in
    let l = c.loop-slot in
    let k = kept in
    let b = bounds in (
      omega arith,
      (omega (arith, l.invariant.1.0, b.0), omega (arith, l.invariant.1.1, next-entries s c.requires l.slot k)),
      (omega (arith, l.invariant.2.0, b.1), omega (arith, l.invariant.2.1, next-replacements s c.requires l.slot k)),
    )

pub returns : goal.returns
returns c = let s = c.args.table.now in
    let l = c.loop-slot in
    let passed : count_of s ≤ l.slot = omega (arith, c.loop-slot-test.false, c.bucket_count-count.ensures) in
    let entries : l.entries ≡ entry_total (buckets_of s) = omega (arith, l.invariant.1.1, no_entries s l.slot passed) in
    let replacements : l.replacements ≡ replacement_total (buckets_of s) = omega (arith, l.invariant.2.1, no-replacements s l.slot passed) in
    cc (entries, replacements)
