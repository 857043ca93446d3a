-- `bucket_rules::promote_at` meets its contract. Assumes nothing.
use mathlib.Core.Path.{◌≡◌}
use lib.ListN.{length}
use Rattle.bucket.proofs.Laws.{length_mapped}
use Rattle.bucket_lookup.proofs.Laws.{in-entries, in-replacements}
use Rattle.bucket_rules.proofs.Laws.{unchanged}
use borrow.Author.Rules.{rules}
use Rattle.bucket_rules.proofs.promote_at.Goals as goal

pub to_tail-requires : goal.to_tail-requires
to_tail-requires c =
    let entries_size : length c.args.b.entries.items ≡ 16 = search (rules, length_mapped) in
    let replacements_size : length c.args.b.replacements.items ≡ 16 = search (rules, length_mapped) in
    (c.requires.0, in-entries c.args.b entries_size replacements_size c.requires.0 c.requires.1 c.in-InEntries.is)

pub promote-requires : goal.promote-requires
promote-requires c =
    let entries_size : length c.args.b.entries.items ≡ 16 = search (rules, length_mapped) in
    let replacements_size : length c.args.b.replacements.items ≡ 16 = search (rules, length_mapped) in
    (c.requires.0, in-replacements c.args.b entries_size replacements_size c.requires.0 c.requires.1 c.in-InReplacements.is)

pub returns-in-Absent : goal.returns-in-Absent
returns-in-Absent c =
    let entries_size : length c.args.b.entries.items ≡ 16 = search (rules, length_mapped) in
    let replacements_size : length c.args.b.replacements.items ≡ 16 = search (rules, length_mapped) in
    rw c.in-Absent.is (unchanged c.args.b entries_size replacements_size c.requires.0)

pub returns-in-InEntries : goal.returns-in-InEntries
returns-in-InEntries c = rw c.in-InEntries.is c.to_tail.ensures

pub returns-in-InReplacements : goal.returns-in-InReplacements
returns-in-InReplacements c = rw c.in-InReplacements.is c.promote.ensures
