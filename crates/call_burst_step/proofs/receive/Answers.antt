-- `call_burst_step::receive` meets its contract. Assumes nothing.
use Rattle.call_burst_step.proofs.Parts.{at-full, at-reading}
use Rattle.call_burst_step.proofs.receive.Goals as goal

pub returns-in-Full : goal.returns-in-Full
returns-in-Full c = let a = c.args in
    let on = c.datagram_on-received in record {
      value = (at-full a.table.now a.time a.unix.0 a.address.now a.port a.signer.now a.datagram.now c.in-Full.is
          on.ensures.value c.number.ensures on.ensures.table_after).0;
      table_after = (at-full a.table.now a.time a.unix.0 a.address.now a.port a.signer.now a.datagram.now c.in-Full.is
          on.ensures.value c.number.ensures on.ensures.table_after).1;
    }

pub returns-in-Reading : goal.returns-in-Reading
returns-in-Reading c = let a = c.args in
    let on = c.datagram_low_on-received in record {
      value = (at-reading a.table.now a.time a.unix.0 a.address.now a.port a.signer.now a.datagram.now c.in-Reading.is
          on.ensures.value c.number-in-Reading.ensures on.ensures.table_after).0;
      table_after = (at-reading a.table.now a.time a.unix.0 a.address.now a.port a.signer.now a.datagram.now c.in-Reading.is
          on.ensures.value c.number-in-Reading.ensures on.ensures.table_after).1;
    }
