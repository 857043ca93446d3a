-- `printout::put_table` meets its contract. Assumes nothing.
use Prim.Native.Nat.{◌-◌}
use mathlib.Core.Path.{◌≡◌, ap}
use mathlib.Core.List.{List, [], ◌∷◌, ◌++◌, append-nil}
use native.Mathlib.Omega.{arith}
use lib.ListN.{length}
use Rattle.octets.specs.Octets.{Bytes, IsBytes}
use Rattle.table_model.specs.Layout.{count_of, buckets_of}
use Rattle.octets.proofs.Progress.{Progress, concat, start, room, step, finish}
use Rattle.printout.specs.TableRow.{table_row}
use Rattle.printout.specs.Printout.{buckets_rows, printout}
use Rattle.printout.proofs.Sizes.{printout-fits}
use Rattle.printout.proofs.put_table.Goals as goal

pub put_head-next-requires : goal.put_head-next-requires
unfolding printout
put_head-next-requires c =
    let pieces : List Bytes = let s = c.args.table.now in table_row s ∷ buckets_rows (257 - count_of s) (buckets_of s) ∷ [] in
    let pieces_are : concat pieces ≡ printout c.args.table.now = let s = c.args.table.now in
    ap (λ (t : Bytes). table_row s ++ t) (append-nil (buckets_rows (257 - count_of s) (buckets_of s))) in
    let begun : IsBytes c.args.table.now → Progress c.args.out.now 0 pieces pieces c.args.out.now 0 = λ bs. start c.args.out.now 0 pieces
    (omega (arith, c.requires.1, ap length pieces_are, printout-fits c.args.table.now bs c.requires.0)) in
    (c.requires.0, omega (arith, room (begun (λ k. (c.shared_slice_known-1.given k).fits))))

pub put_buckets-requires : goal.put_buckets-requires
unfolding printout
put_buckets-requires c =
    let pieces : List Bytes = let s = c.args.table.now in table_row s ∷ buckets_rows (257 - count_of s) (buckets_of s) ∷ [] in
    let pieces_are : concat pieces ≡ printout c.args.table.now = let s = c.args.table.now in
    ap (λ (t : Bytes). table_row s ++ t) (append-nil (buckets_rows (257 - count_of s) (buckets_of s))) in
    let begun : IsBytes c.args.table.now → Progress c.args.out.now 0 pieces pieces c.args.out.now 0 = λ bs. start c.args.out.now 0 pieces
    (omega (arith, c.requires.1, ap length pieces_are, printout-fits c.args.table.now bs c.requires.0)) in
    let p = begun (λ k. (c.shared_slice_known-1.given k).fits) in
    (c.requires.0, room (step p (c.put_head-next.ensures.next, c.put_head-next.ensures.bytes)))

pub returns : goal.returns
unfolding printout
returns c =
    let pieces : List Bytes = let s = c.args.table.now in table_row s ∷ buckets_rows (257 - count_of s) (buckets_of s) ∷ [] in
    let pieces_are : concat pieces ≡ printout c.args.table.now = let s = c.args.table.now in
    ap (λ (t : Bytes). table_row s ++ t) (append-nil (buckets_rows (257 - count_of s) (buckets_of s))) in
    let begun : IsBytes c.args.table.now → Progress c.args.out.now 0 pieces pieces c.args.out.now 0 = λ bs. start c.args.out.now 0 pieces
    (omega (arith, c.requires.1, ap length pieces_are, printout-fits c.args.table.now bs c.requires.0)) in
    let p = begun (λ k. (c.shared_slice_known-1.given k).fits) in
    let w = finish (step (step p (c.put_head-next.ensures.next, c.put_head-next.ensures.bytes)) (c.put_buckets.ensures.next, c.put_buckets.ensures.bytes)) pieces_are in record { value = omega (arith, w.0); out_after = w.1 }
