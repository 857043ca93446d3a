-- `closest::store_nodes` meets its contract. The loop's invariant: the first i records are the chosen nodes, and the rest is as it was
-- (`Written.antt`'s `upto`). Assumes nothing.
use mathlib.Core.Path.{◌≡◌, refl, sym, ◌∙◌, ap}
use Prim.Native.Nat.{ℕ, suc, ◌<◌}
use native.Mathlib.Numerals.{add-one}
use native.Mathlib.Omega.{arith}
use borrow.Author.Rules.{rules}
use mathlib.Core.List.{List}
use lib.ListN.{length, set}
use Rattle.node.specs.declared.Node.{Node}
use Rattle.closest_nearest.proofs.Shift.{length_mapped}
use Rattle.closest_nodes.specs.Listing.{node_at, nowhere}
use Rattle.walk.proofs.Written.{upto, upto_next}
use Rattle.closest.proofs.store_nodes.Goals as goal

pub loop-i-init : goal.loop-i-init
loop-i-init c = (omega arith, refl)

pub chosen_node-requires : goal.chosen_node-requires
chosen_node-requires c = omega (arith, c.requires)

pub offset_bounds-list-i : goal.offset_bounds-list-i
offset_bounds-list-i c = omega (arith, c.requires)

pub bounds-list-i : goal.bounds-list-i
bounds-list-i c = omega (arith, c.requires)

pub loop-i-preserved : goal.loop-i-preserved
loop-i-preserved c =
    let a = c.args in
    let i : ℕ = c.loop-i.i in
    let more : i < a.choice.nearest.count = omega arith in
    let chosen_size : length a.choice.nearest.list ≡ 16 = search (rules, length_mapped) in
    let stored : set c.loop-i.list i c.chosen_node.result ≡ upto (node_at a.table.now) a.choice.nearest.list a.list.now (suc i) =
    ap (λ (l : List Node). set l i c.chosen_node.result) c.loop-i.invariant.1
    ∙ ap (set (upto (node_at a.table.now) a.choice.nearest.list a.list.now i) i) c.chosen_node.ensures
    ∙ upto_next (node_at a.table.now) a.choice.nearest.list a.list.now i nowhere
    (omega (arith, chosen_size, c.requires)) (omega (arith, c.requires)) in
    (omega arith, stored ∙ ap (upto (node_at a.table.now) a.choice.nearest.list a.list.now) (sym (add-one i)))

pub returns : goal.returns
returns c =
    let a = c.args in
    let all : c.loop-i.i ≡ a.choice.nearest.count = omega arith in
    c.loop-i.invariant.1 ∙ ap (upto (node_at a.table.now) a.choice.nearest.list a.list.now) all
