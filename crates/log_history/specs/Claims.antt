-- What is claimed of the reason told.
use Rattle.std.specs.Prelude.{◌≡◌}
use Rattle.octets.specs.Octets.{Bytes}
use Rattle.log_history.specs.Past.{Past, past_of}
use Rattle.log_history.specs.Why.{told, WhyHolds}
use Rattle.log_history.specs.Trail.{trail_of, reason_of}

-- "the reason told is the one the log's run .. gives, and .. one always is": of every key and every log
abbrev pub WhyAlways : Type 0
WhyAlways = (X log : Bytes) → WhyHolds X (past_of log)

-- what is carried from line to line tells it
abbrev pub TrailTells : Type 0
TrailTells = (X : Bytes) (p : Past) → reason_of (trail_of X p.lines) ≡ told X p
