-- `bucket::EntryList::replace` meets its contract. Assumes nothing.
use Rattle.bucket.proofs.Laws.{length_mapped, replace_holds}
use native.Mathlib.Omega.{arith}
use borrow.Author.Rules.{rules}
use Rattle.bucket.proofs.EntryList.replace.Goals as goal

pub returns : goal.returns
returns c = replace_holds c.args.self c.args.i c.args.e (search (rules, length_mapped)) (omega arith) (omega arith)
