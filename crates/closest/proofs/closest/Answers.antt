-- `closest::closest` meets its contract. Assumes nothing.
use mathlib.Core.Path.{◌∙◌}
use lib.ListN.{length}
use Rattle.closest_nodes.proofs.Chosen.{fits, answers, writes}
use Rattle.closest.proofs.closest.Goals as goal

pub store_nodes-requires : goal.store_nodes-requires
store_nodes-requires c =
    let a = c.args in
    let choice = c.closest_on-choice in
    fits a.table.now a.target.now (length a.list.now) choice.result choice.ensures

pub returns : goal.returns
returns c =
    let a = c.args in
    let choice = c.closest_on-choice in (
      c.answer_of.ensures ∙ answers a.table.now a.target.now (length a.list.now) choice.result choice.ensures,
      c.store_nodes.ensures ∙ writes a.table.now a.target.now (length a.list.now) choice.result choice.ensures a.list.now,
    )
