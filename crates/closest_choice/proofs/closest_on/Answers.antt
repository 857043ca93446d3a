-- `closest_choice::closest_on` meets its contract. Assumes nothing.
use Rattle.closest_choice.proofs.Chosen.{unsound, wrong_target, short-list, all-chosen}
use Rattle.closest_choice.proofs.closest_on.Goals as goal

pub returns-then-not-chosen : goal.returns-then-not-chosen
returns-then-not-chosen c = let a = c.args in
    unsound a.table.now a.target.now a.room c.keccak256-hash.ensures c.closest-chosen.result c.closest-chosen.ensures
    c.if-not-chosen.true c.none_chosen.ensures

pub returns-then-target-ne64 : goal.returns-then-target-ne64
returns-then-target-ne64 c = let a = c.args in
    wrong_target a.table.now a.target.now a.room c.keccak256-hash.ensures c.closest-chosen.result c.closest-chosen.ensures
    c.if-not-chosen.false c.if-target-ne64.true c.none_chosen-then-target-ne64.ensures

pub returns-then-room-lt16 : goal.returns-then-room-lt16
returns-then-room-lt16 c = let a = c.args in
    short-list a.table.now a.target.now a.room c.keccak256-hash.ensures c.closest-chosen.result c.closest-chosen.ensures
    c.if-not-chosen.false c.if-target-ne64.false c.if-room-lt16.true c.none_chosen-then-room-lt16.ensures

pub returns : goal.returns
returns c = let a = c.args in
    all-chosen a.table.now a.target.now a.room c.keccak256-hash.ensures c.closest-chosen.result c.closest-chosen.ensures
    c.if-not-chosen.false c.if-target-ne64.false c.if-room-lt16.false
