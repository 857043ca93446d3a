-- `call_datagram::pong_number` meets its contract. Assumes nothing.
use mathlib.Core.Path.{refl}
use Rattle.lists.proofs.First.{here, later}
use Rattle.call_packet.proofs.pong_number.Goals as goal

pub returns-then-not_awaited : goal.returns-then-not_awaited
returns-then-not_awaited c = λ key m h. here 14 (rw h.held at c.not_awaited.ensures) _ c.if-not_awaited.true

pub returns-then-is_late : goal.returns-then-is_late
returns-then-is_late c = λ key m h.
    later 14 (rw h.held at c.not_awaited.ensures) c.if-not_awaited.false
    (here 15 (rw h.held at c.is_late.ensures) _ c.if-is_late.true)

pub returns : goal.returns
returns c = λ key m h.
    later 14 (rw h.held at c.not_awaited.ensures) c.if-not_awaited.false
    (later 15 (rw h.held at c.is_late.ensures) c.if-is_late.false refl)
