-- `bucket::load_list` meets its contract. The invariant: the first i entries are loaded. Assumes nothing.
use mathlib.Core.Path.{◌≡◌, refl}
use native.Mathlib.Omega.{arith}
use borrow.Author.Rules.{rules}
use lib.ListN.{length-set}
use Rattle.bucket_model.specs.Contents.{entries_at}
use Rattle.bucket.proofs.Laws.{length_mapped, load_turn, loaded}
use Rattle.bucket.proofs.load_list.Goals as goal

pub loop-i-init : goal.loop-i-init
unfolding entries_at
loop-i-init c = (omega arith, (search (rules, length_mapped), refl))

pub loop-i-preserved : goal.loop-i-preserved
loop-i-preserved c = let at_loop = c in
    let args = at_loop.args in (
      omega arith,
      (
        simp length-set at_loop.loop-i.invariant.1.0,
        load_turn args.bytes.now args.at at_loop.loop-i.i at_loop.loop-i.l.items c.load_entry.result (omega arith) at_loop.loop-i.invariant.1.1 c.load_entry.ensures,
      ),
    )

pub returns : goal.returns
returns c = let at_loop = c in
    let start = at_loop in
    let args = start.args in
    let e : at_loop.loop-i.i ≡ args.n = omega arith in
    loaded args.bytes.now args.at args.n at_loop.loop-i.l.items start.requires.1 (rw e at at_loop.loop-i.invariant.1.1)
