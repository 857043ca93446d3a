-- `bucket::Bucket::free_entry` meets its contract. Assumes nothing.
use mathlib.Core.Path.{◌≡◌, sym, ap}
use lib.Dec.{ltb}
use lib.ListN.{length}
use borrow.Author.Rules.{rules}
use Rattle.bucket.proofs.Laws.{length_mapped, length-listed}
use Rattle.bucket.proofs.Bucket.free_entry.Goals as goal

pub returns : goal.returns
returns c =
    let items_size : length c.args.self.entries.items ≡ 16 = search (rules, length_mapped) in
    let start = c in
    let b = start.args.self in
    sym (ap (λ n. ltb n 16) (length-listed b.entries items_size start.requires))
