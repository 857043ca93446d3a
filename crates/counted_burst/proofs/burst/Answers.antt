-- `counted_burst::burst` meets its contract. Assumes nothing.
use mathlib.Core.Bool.{false}
use mathlib.Core.Path.{refl}
use lib.ListN.{length}
use Rattle.std.proofs.lemmas.Result.{err_from_is_err_and}
use Rattle.numbers.specs.Numbers.{number_of}
use Rattle.call_touched.proofs.Refusals.{refused}
use Rattle.call_burst_lists.specs.Lists.{Burst, burst_of}
use Rattle.counted_burst.proofs.Counted.{nothing-counted, all_counted}
use Rattle.counted_burst.proofs.burst.Goals as goal

pub returns-in_err-burst_on : goal.returns-in_err-burst_on
returns-in_err-burst_on c =
    let x = c.args in
    let lent : Burst = burst_of x.buffer.now x.lengths.now x.signers.now x.addresses.now x.ports.now x.millis.now x.unix.now in
    let on = c.burst_on in
    let n = number_of c.in_err-burst_on.field-0.0 in
    let p = err_from_is_err_and c.from_residual.result c.from_residual.ensures.1 in
    record {
      value = rw (p.1, p.2) c.in_err-burst_on.ensures.value;
      table_after = on.ensures.table_after;
      numbers_after = on.ensures.numbers_after;
      counters_after = nothing-counted false x.counters.now x.table.now lent (length x.numbers.now) n c.in_err-burst_on.ensures.value (refused c.in_err-burst_on.field-0.0);
    }

pub returns : goal.returns
returns c =
    let x = c.args in
    let lent : Burst = burst_of x.buffer.now x.lengths.now x.signers.now x.addresses.now x.ports.now x.millis.now x.unix.now in
    let on = c.burst_on in
    record {
      value = c.in_ok-burst_on.ensures.value;
      table_after = on.ensures.table_after;
      numbers_after = on.ensures.numbers_after;
      counters_after = all_counted false x.counters.now x.table.now lent x.numbers.now on.new.numbers 0 c.raise_all.result
          c.in_ok-burst_on.ensures.value refl on.ensures.numbers_after c.raise_all.ensures;
    }
