-- `bucket_rules::entry_at` meets its contract. Assumes nothing.
use mathlib.Core.Path.{◌≡◌}
use native.Mathlib.Omega.{arith}
use lib.ListN.{length}
use Rattle.bucket.proofs.Laws.{length_mapped}
use Rattle.bucket_lookup.proofs.Laws.{in-entries, in-replacements, entry-there, replacement-there, nothing_there}
use borrow.Author.Rules.{rules}
use Rattle.bucket_lookup.proofs.entry_at.Goals as goal

pub offset_bounds-l-i : goal.offset_bounds-l-i
offset_bounds-l-i c =
    let entries_size : length c.args.b.entries.items ≡ 16 = search (rules, length_mapped) in
    let replacements_size : length c.args.b.replacements.items ≡ 16 = search (rules, length_mapped) in
    omega (arith, in-entries c.args.b entries_size replacements_size c.requires.0 c.requires.1 c.in-InEntries.is, c.requires.0.entries)

pub bounds-l-i : goal.bounds-l-i
bounds-l-i c =
    let entries_size : length c.args.b.entries.items ≡ 16 = search (rules, length_mapped) in
    let replacements_size : length c.args.b.replacements.items ≡ 16 = search (rules, length_mapped) in
    omega (arith, in-entries c.args.b entries_size replacements_size c.requires.0 c.requires.1 c.in-InEntries.is, c.requires.0.entries)

pub offset_bounds-l-i-in-InReplacements : goal.offset_bounds-l-i-in-InReplacements
offset_bounds-l-i-in-InReplacements c =
    let entries_size : length c.args.b.entries.items ≡ 16 = search (rules, length_mapped) in
    let replacements_size : length c.args.b.replacements.items ≡ 16 = search (rules, length_mapped) in
    omega (arith, in-replacements c.args.b entries_size replacements_size c.requires.0 c.requires.1 c.in-InReplacements.is, c.requires.0.replacements)

pub bounds-l-i-in-InReplacements : goal.bounds-l-i-in-InReplacements
bounds-l-i-in-InReplacements c =
    let entries_size : length c.args.b.entries.items ≡ 16 = search (rules, length_mapped) in
    let replacements_size : length c.args.b.replacements.items ≡ 16 = search (rules, length_mapped) in
    omega (arith, in-replacements c.args.b entries_size replacements_size c.requires.0 c.requires.1 c.in-InReplacements.is, c.requires.0.replacements)

pub returns-in-Absent : goal.returns-in-Absent
returns-in-Absent c = nothing_there _ _ c.in-Absent.is

pub returns-in-InEntries : goal.returns-in-InEntries
returns-in-InEntries c =
    let entries_size : length c.args.b.entries.items ≡ 16 = search (rules, length_mapped) in
    let replacements_size : length c.args.b.replacements.items ≡ 16 = search (rules, length_mapped) in
    entry-there c.args.b entries_size replacements_size c.requires.0 c.requires.1 c.in-InEntries.is

pub returns-in-InReplacements : goal.returns-in-InReplacements
returns-in-InReplacements c =
    let entries_size : length c.args.b.entries.items ≡ 16 = search (rules, length_mapped) in
    let replacements_size : length c.args.b.replacements.items ≡ 16 = search (rules, length_mapped) in
    replacement-there c.args.b entries_size replacements_size c.requires.0 c.requires.1 c.in-InReplacements.is
