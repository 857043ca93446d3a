-- `bucket_rules::join_line` meets its contract. Assumes nothing.
use mathlib.Core.Path.{◌≡◌}
use lib.ListN.{length}
use Rattle.bucket.proofs.Laws.{length_mapped}
use Rattle.bucket_rules.proofs.Laws.{with-replacements}
use borrow.Author.Rules.{rules}
use Rattle.bucket_rules.proofs.join_line.Goals as goal

pub returns : goal.returns
returns c =
    let entries_size : length c.args.b.entries.items ≡ 16 = search (rules, length_mapped) in
    let replacements_size : length c.args.b.replacements.items ≡ 16 = search (rules, length_mapped) in
    with-replacements c.args.b entries_size replacements_size c.requires c.push-replacements.result _ c.push-replacements.ensures
