-- `capi_calls::datagram_on` meets its contract. Assumes nothing.
use mathlib.Core.Path.{ap, ◌∙◌}
use Rattle.capi_codes.specs.Codes.{received_code}
use Rattle.capi_calls.proofs.datagram_on.Goals as goal

pub returns : goal.returns
returns c =
    let on = c.datagram_on-received.ensures in
    record { value = c.outcome_code.ensures ∙ ap received_code on.value; table_after = on.table_after }
