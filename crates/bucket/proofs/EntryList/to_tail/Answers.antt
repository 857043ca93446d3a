-- `bucket::EntryList::to_tail` meets its contract. Assumes nothing.
use Rattle.bucket.proofs.Laws.{length_mapped, length-remove_at}
use native.Mathlib.Omega.{arith}
use borrow.Author.Rules.{rules}
use Rattle.bucket.proofs.EntryList.to_tail.Goals as goal

pub remove-requires : goal.remove-requires
remove-requires c = c.requires

pub push-requires : goal.push-requires
push-requires c = let args = c.args in
    omega (arith, c.remove.ensures.count, length-remove_at args.self args.i (search (rules, length_mapped)) (omega arith) (omega arith))

pub returns : goal.returns
returns c = rw c.remove.ensures.held at c.push.ensures
