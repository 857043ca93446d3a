-- `closest_nearest::Nearest::insert` meets its contract. Assumes nothing.
use mathlib.Core.Path.{◌≡◌}
use borrow.Author.Rules.{rules}
use lib.ListN.{length}
use Rattle.closest_nearest.proofs.Shift.{length_mapped}
use Rattle.closest_nearest.proofs.Place.{insert_held, insert_none}
use Rattle.closest_nearest.proofs.Nearest.insert.Goals as goal

pub returns-then-k-ge16 : goal.returns-then-k-ge16
returns-then-k-ge16 c =
    let size : length c.args.self.list ≡ 16 = search (rules, length_mapped) in
    let start = c in
    let args = start.args in
    insert_none args.self args.x start.requires size (rw c.place-k.ensures at c.if-k-ge16.true)

pub returns : goal.returns
returns c =
    let size : length c.args.self.list ≡ 16 = search (rules, length_mapped) in
    let start = c in
    let args = start.args in
    insert_held args.self args.x start.requires size
    c.place-k.result c.place-k.ensures c.if-k-ge16.false
    c.one_more-count.ensures c.put_at.ensures
