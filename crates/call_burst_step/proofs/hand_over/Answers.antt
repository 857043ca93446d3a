-- `call_burst_step::hand_over` meets its contract. Assumes nothing.
use mathlib.Core.Path.{refl, ap}
use native.Mathlib.Omega.{arith}
use lib.ListN.{get_or, set}
use Rattle.call_burst_lists.specs.Lists.{Burst}
use Rattle.call_burst_lists.specs.Times.{lent_by}
use Rattle.call_burst_lists.proofs.Parts.{taken}
use Rattle.call_burst_step.proofs.Parts.{handed-bytes, handed-number}
use Rattle.call_burst_step.proofs.hand_over.Goals as goal

pub bounds-numbers-i : goal.bounds-numbers-i
bounds-numbers-i c = omega (arith, c.requires.i_bound.1)

pub returns : goal.returns
returns c = let x = c.args in
    let b : Burst =
    lent_by x.low x.buffer.now x.lengths.now x.signers.now x.addresses.now x.ports.now x.millis.now x.readings.now x.unix.now in
    let time = c.time_at in
    let address = c.address_at in
    let signer = c.signer_at in
    let done = c.receive in
    let g = taken x.buffer.now x.at (get_or x.lengths.now x.i 0) in record {
      table_after = handed-bytes x.low x.millis.now x.readings.now b refl x.i x.at x.table.now address.result.now signer.result.now _ time.result
          time.ensures address.ensures signer.ensures g done.ensures.table_after;
      numbers_after = ap (set x.numbers.now x.i)
          (handed-number x.low x.millis.now x.readings.now b refl x.i x.at x.table.now address.result.now signer.result.now _ time.result
          time.ensures address.ensures signer.ensures g done.ensures.value);
    }
