-- `call_datagram::datagram_number` meets its contract. Assumes nothing.
use mathlib.Core.Path.{ap}
use mathlib.Core.Bool.{not}
use Rattle.lists.proofs.First.{here, later, early, in_time}
use Rattle.call_judge.proofs.datagram_number.Goals as goal

pub returns-then-clock-last : goal.returns-then-clock-last
returns-then-clock-last c = early 2 _ c.clock-last.ensures _ c.if-clock-last.true

pub returns-then-not-is_sized : goal.returns-then-not-is_sized
returns-then-not-is_sized c = in_time 2 _ c.clock-last.ensures c.if-clock-last.false
    (here 3 (ap not c.is_sized.ensures) _ (ap not c.if-not-is_sized.true))

pub returns-then-not-hash_matches : goal.returns-then-not-hash_matches
returns-then-not-hash_matches c = in_time 2 _ c.clock-last.ensures c.if-clock-last.false
    (later 3 (ap not c.is_sized.ensures) (ap not c.if-not-is_sized.false)
    (here 4 (ap not c.hash_matches.ensures) _ (ap not c.if-not-hash_matches.true)))

pub returns : goal.returns
returns c = in_time 2 _ c.clock-last.ensures c.if-clock-last.false
    (later 3 (ap not c.is_sized.ensures) (ap not c.if-not-is_sized.false)
    (later 4 (ap not c.hash_matches.ensures) (ap not c.if-not-hash_matches.false) c.key_number.ensures))
