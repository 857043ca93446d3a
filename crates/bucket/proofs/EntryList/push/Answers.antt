-- `bucket::EntryList::push` meets its contract. Assumes nothing.
use Rattle.bucket.proofs.Laws.{push_holds, length_mapped}
use borrow.Author.Rules.{rules}
use Rattle.bucket.proofs.EntryList.push.Goals as goal

pub returns : goal.returns
returns c = push_holds c.args.self c.args.e (search (rules, length_mapped)) (search rules)
