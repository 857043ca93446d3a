-- `closest_nearest::put_at` meets its contract. Assumes nothing.
use mathlib.Core.Path.{◌≡◌, ap, ◌∙◌}
use native.Mathlib.Omega.{arith}
use borrow.Author.Rules.{rules}
use lib.ListN.{length, set}
use Rattle.closest_nearest.proofs.Place.{nowhere}
use Rattle.closest_nearest.proofs.Shift.{moved_up, put_last}
use Rattle.closest_nearest.proofs.put_at.Goals as goal

pub returns : goal.returns
returns c =
    let size : length c.args.list ≡ 16 = search rules in
    let args = c.args in
    ap (λ m. set m args.k args.x) (c.copy_within.ensures.after ∙ moved_up 15 args.list args.k (omega arith) size)
    ∙ put_last 15 args.list args.k args.x nowhere (omega arith) size
