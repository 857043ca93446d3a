-- `printout::put_buckets` meets its contract: the rows of the buckets from `slot` on are still to come. Assumes nothing.
use Prim.Native.Nat.{◌<◌}
use mathlib.Core.Path.{refl, sym, ap, ◌∙◌}
use mathlib.Core.List.{[], ◌∷◌}
use native.Mathlib.Omega.{arith}
use Rattle.octets.specs.Octets.{Bytes}
use Rattle.table_model.specs.Layout.{count_of, buckets_of}
use Rattle.octets.proofs.Progress.{room, step, renamed}
use Rattle.printout.specs.Printout.{buckets_rows}
use Rattle.printout.proofs.Rows.{passed, start-one, finish-one, first_distance, all-buckets, no-buckets, due-rows}
use Rattle.printout.proofs.Slots.{header_in, at-most, bucket-in}
use Rattle.printout.proofs.put_buckets.Goals as goal

pub bucket_count-count-requires : goal.bucket_count-count-requires
bucket_count-count-requires c = header_in c.args.table.now c.requires.0

pub overflow_sub-first : goal.overflow_sub-first
overflow_sub-first c = omega (arith, c.bucket_count-count.ensures, at-most c.args.table.now c.requires.0)

pub loop-slot-init : goal.loop-slot-init
loop-slot-init c = let a = c.args in
    let s = a.table.now in (
      omega arith,
      refl,
      renamed (ap (λ (r : Bytes). r ∷ []) (sym (all-buckets s))) (start-one a.out.now a.at (buckets_rows (first_distance s) (buckets_of s)) c.requires.1),
    )

pub put_bucket-next-requires : goal.put_bucket-next-requires
put_bucket-next-requires c =
    let kept : c.loop-slot.slot < count_of c.args.table.now = omega (arith, c.loop-slot-test.true, c.bucket_count-count.ensures) in
    let s = c.args.table.now in
    let l = c.loop-slot in (
      bucket-in s c.requires.0 l.slot kept (λ k. (c.shared_slice_known-1.given k).fits),
      room (due-rows s l.slot kept (omega (arith, c.bucket_count-count.ensures)) l.invariant.2),
    )

pub loop-slot-preserved : goal.loop-slot-preserved
loop-slot-preserved c =
    let kept : c.loop-slot.slot < count_of c.args.table.now = omega (arith, c.loop-slot-test.true, c.bucket_count-count.ensures) in
    let s = c.args.table.now in
    let l = c.loop-slot in
    let w = c.put_bucket-next in (
      omega (arith, kept),
      w.auto.out ∙ l.invariant.1,
      step (due-rows s l.slot kept (omega (arith, c.bucket_count-count.ensures)) l.invariant.2) (w.ensures.next, w.ensures.bytes),
    )

pub shape_of-out : goal.shape_of-out
shape_of-out c = c.loop-slot.invariant.1

pub returns : goal.returns
returns c = let a = c.args in
    let s = a.table.now in
    let l = c.loop-slot in
    let none = no-buckets s l.slot (omega (arith, c.loop-slot-test.false, c.bucket_count-count.ensures)) in record { next = (finish-one a.out.now a.at (buckets_rows (first_distance s) (buckets_of s)) (passed none l.invariant.2)).0; bytes = (finish-one a.out.now a.at (buckets_rows (first_distance s) (buckets_of s)) (passed none l.invariant.2)).1 }
