-- `bucket::Bucket::find` meets its contract. Assumes nothing.
use mathlib.Core.Path.{◌≡◌}
use native.Mathlib.Omega.{arith}
use lib.ListN.{length}
use Rattle.bucket.specs.Steps.{listed}
use Rattle.bucket.proofs.Laws.{length_mapped, length-listed, in-entries, in-replacements, in-neither}
use borrow.Author.Rules.{rules}
use Rattle.bucket.proofs.Bucket.find.Goals as goal

pub returns-then-i-self : goal.returns-then-i-self
returns-then-i-self c =
    let entries_size : length (listed c.args.self.entries) ≡ c.args.self.entries.len = length-listed c.args.self.entries (search (rules, length_mapped)) c.requires.entries in
    let replacements_size : length (listed c.args.self.replacements) ≡ c.args.self.replacements.len = length-listed c.args.self.replacements (search (rules, length_mapped)) (omega (arith, c.requires.replacements)) in
    let start = c in
    in-entries start.args.self start.args.key.now entries_size replacements_size c.find-i.ensures c.if-i-self.true

pub returns-then-j-self : goal.returns-then-j-self
returns-then-j-self c =
    let entries_size : length (listed c.args.self.entries) ≡ c.args.self.entries.len = length-listed c.args.self.entries (search (rules, length_mapped)) c.requires.entries in
    let replacements_size : length (listed c.args.self.replacements) ≡ c.args.self.replacements.len = length-listed c.args.self.replacements (search (rules, length_mapped)) (omega (arith, c.requires.replacements)) in
    let at_find = c in
    let start = at_find in
    in-replacements start.args.self start.args.key.now entries_size replacements_size at_find.find-i.ensures
    c.if-i-self.false c.find-j.ensures c.if-j-self.true

pub returns : goal.returns
returns c =
    let entries_size : length (listed c.args.self.entries) ≡ c.args.self.entries.len = length-listed c.args.self.entries (search (rules, length_mapped)) c.requires.entries in
    let replacements_size : length (listed c.args.self.replacements) ≡ c.args.self.replacements.len = length-listed c.args.self.replacements (search (rules, length_mapped)) (omega (arith, c.requires.replacements)) in
    let at_find = c in
    let start = at_find in
    in-neither start.args.self start.args.key.now entries_size replacements_size at_find.find-i.ensures
    c.if-i-self.false c.find-j.ensures c.if-j-self.false
