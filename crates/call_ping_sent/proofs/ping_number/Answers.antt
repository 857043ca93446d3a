-- `call_ping_sent::ping_number` meets its contract. Assumes nothing.
use mathlib.Core.Path.{refl, ap}
use mathlib.Core.Bool.{not}
use borrow.Author.Tests.{eq-eqb, ne_eqb}
use Rattle.lists.proofs.First.{here, later, early, in_time}
use Rattle.call_ping_sent.proofs.ping_number.Goals as goal

pub returns-then-clock-last : goal.returns-then-clock-last
returns-then-clock-last c = early 2 _ c.clock-last.ensures _ c.if-clock-last.true

pub returns-then-hash-ne32 : goal.returns-then-hash-ne32
returns-then-hash-ne32 c = in_time 2 _ c.clock-last.ensures c.if-clock-last.false
    (here 4 refl _ (ap not (ne_eqb _ _ c.if-hash-ne32.true)))

pub returns : goal.returns
returns c = in_time 2 _ c.clock-last.ensures c.if-clock-last.false
    (later 4 refl (ap not (eq-eqb _ _ c.if-hash-ne32.false)) c.key_number.ensures)
