-- `bucket_rules::promote` meets its contract. Assumes nothing.
use mathlib.Core.Path.{◌≡◌, sym, ◌∙◌}
use lib.ListN.{length}
use Rattle.bucket.proofs.Laws.{length_mapped}
use Rattle.bucket_range.proofs.Laws.{room_for_one}
use Rattle.bucket_rules.proofs.Laws.{promoted-free, promoted-full}
use borrow.Author.Rules.{rules}
use Rattle.bucket_rules.proofs.promote.Goals as goal

pub push-seated-requires : goal.push-seated-requires
push-seated-requires c =
    let entries_size : length c.args.b.entries.items ≡ 16 = search (rules, length_mapped) in
    let start = c in
    room_for_one start.args.b.entries start.args.e.endpoint entries_size start.requires.0.entries
    (sym c.may_take.ensures ∙ c.if-may_take.true)

pub returns-then-may_take : goal.returns-then-may_take
returns-then-may_take c =
    let entries_size : length c.args.b.entries.items ≡ 16 = search (rules, length_mapped) in
    let replacements_size : length c.args.b.replacements.items ≡ 16 = search (rules, length_mapped) in
    let start = c in
    promoted-free start.args.b entries_size replacements_size start.requires.0 start.args.i start.args.e
    c.push-seated.result c.remove-replacements.result (sym c.may_take.ensures ∙ c.if-may_take.true) c.push-seated.ensures c.remove-replacements.ensures

pub returns : goal.returns
returns c =
    let entries_size : length c.args.b.entries.items ≡ 16 = search (rules, length_mapped) in
    let replacements_size : length c.args.b.replacements.items ≡ 16 = search (rules, length_mapped) in
    let start = c in
    promoted-full start.args.b entries_size replacements_size start.requires.0 start.args.i start.args.e
    c.replace-replacements.result (sym c.may_take.ensures ∙ c.if-may_take.false) c.replace-replacements.ensures
