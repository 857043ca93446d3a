-- `closest::closest_with` meets its contract. Assumes nothing.
use mathlib.Core.Path.{◌≡◌, ap, ap₂, ◌∙◌}
use mathlib.Core.List.{List}
use Prim.Native.Nat.{ℕ}
use borrow.Author.Rules.{rules}
use lib.ListN.{length}
use Rattle.node.specs.declared.Node.{Node}
use Rattle.closest_nodes.specs.declared.Listed.{Listed}
use Rattle.closest_nodes.specs.Listing.{listed}
use Rattle.closest.specs.declared.Found.{Found}
use Rattle.closest.proofs.closest_with.Goals as goal

abbrev both : Listed → List Node → Found
both r nodes = record { number = r.number; count = r.count; distances = r.distances; nodes = nodes }

pub returns : goal.returns
returns c =
    let list_size : length c.args.list ≡ 16 = search rules in
    let a = c.args in
    ap₂ both (c.closest-answer.ensures.0 ∙ ap (λ (n : ℕ). listed a.table.now a.target.now n) list_size) c.closest-answer.ensures.1
