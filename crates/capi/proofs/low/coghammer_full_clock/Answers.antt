-- `capi::low::coghammer_full_clock` meets its contract. Assumes nothing.
use mathlib.Core.Path.{ap, ◌∙◌}
use Rattle.std.specs.Prelude.{Result}
use Rattle.node.specs.declared.MonotonicMillis.{MonotonicMillis}
use Rattle.call_low.specs.declared.ClockError.{ClockError}
use Rattle.call_low.specs.Got.{full_clock_number}
use Rattle.capi_calls.specs.Told.{told_clock}
use Rattle.capi.proofs.low.coghammer_full_clock.Goals as goal

pub returns : goal.returns
returns c = let a = c.args in
    let e = c.full_clock-full.ensures in
    record {
      value = c.tell_clock.ensures.0 ∙ ap full_clock_number e;
      clock_after = c.tell_clock.ensures.1 ∙ ap (λ (f : Result MonotonicMillis ClockError). told_clock f a.clock.now) e;
    }
