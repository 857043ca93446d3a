-- `call_sweep::entry_stays` meets its contract. Assumes nothing.
use Rattle.call_sweep.proofs.Stays.{stays-entry, stays-replacement}
use Rattle.call_sweep.proofs.entry_stays.Goals as goal

pub returns-then-waiting : goal.returns-then-waiting
returns-then-waiting c = let args = c.args in
    stays-replacement args.bytes.now args.at args.time.0
    c.load_stamp.ensures c.ping_of-ping.ensures c.is_overdue-alive.ensures c.if-waiting.true
    c.load_stamp-then-waiting.ensures c.proof_of-proof.ensures c.proof_expired.ensures c.both.ensures

pub returns : goal.returns
returns c = let args = c.args in
    stays-entry args.bytes.now args.at args.time.0
    c.load_stamp.ensures c.ping_of-ping.ensures c.is_overdue-alive.ensures c.if-waiting.false
