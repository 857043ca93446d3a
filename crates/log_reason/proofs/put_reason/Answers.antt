-- `log_why::put_reason` meets its contract. Assumes nothing.
use Rattle.log_reason.specs.Row.{why_row}
use Rattle.log_reason.proofs.put_reason.Goals as goal

pub returns-in-Seated : goal.returns-in-Seated
unfolding why_row
returns-in-Seated c = record { len = rw c.in-Seated.is (c.put_two.ensures.len); bytes = rw c.in-Seated.is (c.put_two.ensures.bytes); room = c.put_two.ensures.room }

pub returns-in-Waiting : goal.returns-in-Waiting
unfolding why_row
returns-in-Waiting c = record { len = rw c.in-Waiting.is (c.put_one.ensures.len); bytes = rw c.in-Waiting.is (c.put_one.ensures.bytes); room = c.put_one.ensures.room }

pub returns-in-Ping : goal.returns-in-Ping
unfolding why_row
returns-in-Ping c = record { len = rw c.in-Ping.is (c.put_two-in-Ping.ensures.len); bytes = rw c.in-Ping.is (c.put_two-in-Ping.ensures.bytes); room = c.put_two-in-Ping.ensures.room }

pub returns-in-Proof : goal.returns-in-Proof
unfolding why_row
returns-in-Proof c = record { len = rw c.in-Proof.is (c.put_one-in-Proof.ensures.len); bytes = rw c.in-Proof.is (c.put_one-in-Proof.ensures.bytes); room = c.put_one-in-Proof.ensures.room }

pub returns-in-Never : goal.returns-in-Never
unfolding why_row
returns-in-Never c = record { len = rw c.in-Never.is (c.put_one-in-Never.ensures.len); bytes = rw c.in-Never.is (c.put_one-in-Never.ensures.bytes); room = c.put_one-in-Never.ensures.room }

pub returns-in-Unnamed : goal.returns-in-Unnamed
unfolding why_row
returns-in-Unnamed c = record { len = rw c.in-Unnamed.is (c.put_alone.ensures.len); bytes = rw c.in-Unnamed.is (c.put_alone.ensures.bytes); room = c.put_alone.ensures.room }
