-- `bucket::EntryList::find` meets its contract. Assumes nothing.
use mathlib.Core.Path.{◌≡◌, ap, ◌∙◌}
use borrow.Author.Rules.{rules}
use lib.ListN.{length}
use Rattle.std.specs.Option.{unwrap_or}
use Rattle.bucket_model.specs.Rules.{is_of}
use Rattle.bucket.specs.Steps.{listed}
use Rattle.bucket.proofs.Laws.{length_mapped, length-listed, index_found}
use Rattle.bucket.proofs.EntryList.find.Goals as goal

pub returns : goal.returns
returns c =
    let args = c.args in
    let items_size : length args.self.items ≡ 16 = search (rules, length_mapped) in
    c.unwrap_or.ensures
    ∙ ap (λ o. unwrap_or o args.self.len) c.place.ensures
    ∙ index_found (is_of args.key.now) (listed args.self) args.self.len (length-listed args.self items_size c.requires)
