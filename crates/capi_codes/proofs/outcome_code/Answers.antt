-- `capi_codes::outcome_code` meets its contract. Assumes nothing.
use mathlib.Core.Path.{ap, ◌∙◌}
use Rattle.capi_codes.specs.Codes.{accepted}
use Rattle.capi_codes.proofs.outcome_code.Goals as goal

pub returns-in-Refused : goal.returns-in-Refused
returns-in-Refused c = rw c.in-Refused.is c.code.ensures

pub returns-in-Ping : goal.returns-in-Ping
returns-in-Ping c = rw c.in-Ping.is (c.accepted.ensures ∙ ap (accepted 1) c.due_value.ensures.0)

pub returns-in-Pong : goal.returns-in-Pong
returns-in-Pong c = rw c.in-Pong.is (c.accepted-in-Pong.ensures ∙ ap (accepted 2) c.standing_value.ensures.0)
