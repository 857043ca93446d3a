-- `bucket_rules::put_at` meets its contract. Assumes nothing.
use mathlib.Core.Path.{◌≡◌}
use lib.ListN.{length}
use Rattle.bucket.proofs.Laws.{length_mapped}
use native.Mathlib.Omega.{arith}
use Rattle.bucket_lookup.proofs.Laws.{in-entries, in-replacements}
use Rattle.bucket_rules.proofs.Laws.{with_entries, with-replacements, unchanged}
use borrow.Author.Rules.{rules}
use Rattle.bucket_rules.proofs.put_at.Goals as goal

pub replace-entries-requires : goal.replace-entries-requires
replace-entries-requires c =
    let entries_size : length c.args.b.entries.items ≡ 16 = search (rules, length_mapped) in
    let replacements_size : length c.args.b.replacements.items ≡ 16 = search (rules, length_mapped) in
    (in-entries c.args.b entries_size replacements_size c.requires.0 c.requires.1 c.in-InEntries.is, c.requires.0.entries)

pub replace-replacements-requires : goal.replace-replacements-requires
replace-replacements-requires c =
    let entries_size : length c.args.b.entries.items ≡ 16 = search (rules, length_mapped) in
    let replacements_size : length c.args.b.replacements.items ≡ 16 = search (rules, length_mapped) in
    (in-replacements c.args.b entries_size replacements_size c.requires.0 c.requires.1 c.in-InReplacements.is, omega (arith, c.requires.0.replacements))

pub returns-in-Absent : goal.returns-in-Absent
returns-in-Absent c =
    let entries_size : length c.args.b.entries.items ≡ 16 = search (rules, length_mapped) in
    let replacements_size : length c.args.b.replacements.items ≡ 16 = search (rules, length_mapped) in
    rw c.in-Absent.is (unchanged c.args.b entries_size replacements_size c.requires.0)

pub returns-in-InEntries : goal.returns-in-InEntries
returns-in-InEntries c =
    let entries_size : length c.args.b.entries.items ≡ 16 = search (rules, length_mapped) in
    let replacements_size : length c.args.b.replacements.items ≡ 16 = search (rules, length_mapped) in
    rw c.in-InEntries.is (with_entries c.args.b entries_size replacements_size c.requires.0 c.replace-entries.result _ c.replace-entries.ensures)

pub returns-in-InReplacements : goal.returns-in-InReplacements
returns-in-InReplacements c =
    let entries_size : length c.args.b.entries.items ≡ 16 = search (rules, length_mapped) in
    let replacements_size : length c.args.b.replacements.items ≡ 16 = search (rules, length_mapped) in
    rw c.in-InReplacements.is (with-replacements c.args.b entries_size replacements_size c.requires.0 c.replace-replacements.result _ c.replace-replacements.ensures)
