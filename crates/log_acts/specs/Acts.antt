-- What a line does to a node, as the code finds it: by the line's answer number and by where the node stood before the line.
use Rattle.std.specs.Prelude.{ℕ, Bool, true, false, cond, ◌&&◌, ◌||◌, eqb}
use Rattle.octets.specs.Octets.{Bytes, same_bytes}
use Rattle.lists.specs.Lists.{any}
use Rattle.bucket_model.specs.Rules.{is_verified, is_overdue}
use Rattle.bucket_lookup.specs.declared.Lookup.{Lookup}
use Rattle.bucket_lookup.specs.Steps.{found, in_entries}
use Rattle.call_history.specs.Model.{Call, datagram, ping_sent, sweep, closest, unclocked}
use Rattle.call_history.specs.Words.{is_pong}
use Rattle.call_model.specs.Reading.{reading}
use Rattle.call_answer.specs.declared.Outcome.{Outcome}
use Rattle.call_answer.specs.declared.Outcome.TheVariants.{Refused, Ping, Pong, FindNode, Neighbors, EnrRequest, EnrResponse}
use Rattle.call_answer.specs.declared.Received.{Received}
use Rattle.call_answer.specs.Answer.{number_of}
use Rattle.log_history.specs.Past.{Asked, own, call, unreadable}
use Rattle.log_history.specs.Why.{is_of}
use Rattle.log_acts.specs.declared.Acted.{Acted}

abbrev pub is_pong_outcome : Outcome → Bool
is_pong_outcome (Refused n) = false
is_pong_outcome (Ping p due) = false
is_pong_outcome (Pong p s) = true
is_pong_outcome (FindNode p) = false
is_pong_outcome (Neighbors p) = false
is_pong_outcome (EnrRequest p) = false
is_pong_outcome (EnrResponse p) = false

-- ---- a line that got the number n, where the node X stood at l

-- it is nothing to X
abbrev pub idle : ℕ → Acted
idle n = record { number = n; named = false; moves = false; pings = false; overdue = false; looks = false }

-- a datagram of X
abbrev pub from_it : Lookup → ℕ → Bool → ℕ → Bytes → ℕ → Acted
from_it l n pong now address udp =
    record {
      number = n;
      named = true;
      moves = eqb n 0 && (in_entries l.position && (pong || any (is_verified now address udp) (found l)));
      pings = false;
      overdue = false;
      looks = true;
    }

abbrev pub heard_acts : Lookup → Received → ℕ → Bytes → ℕ → Acted
heard_acts l r now address udp = from_it l (number_of r) (is_pong_outcome r.outcome) now address udp

-- a ping to X
abbrev pub pinged_acts : ℕ → Acted
pinged_acts n = record { number = n; named = true; moves = false; pings = eqb n 0; overdue = false; looks = true }

abbrev pub swept_acts : Lookup → ℕ → ℕ → Acted
swept_acts l n now =
    record { number = n; named = false; moves = false; pings = false; overdue = any (λ e. is_overdue now e.ping) (found l); looks = true }

unfoldable pub acts_by : Bytes → Lookup → ℕ → Call → Acted
acts_by X l n (datagram now unix address udp key bytes) =
    cond (same_bytes X key) (from_it l n (is_pong (reading bytes unix)) now address udp) (idle n)
acts_by X l n (ping_sent now key address udp tcp hash) = cond (same_bytes X key) (pinged_acts n) (idle n)
acts_by X l n (sweep now) = swept_acts l n now
acts_by X l n (closest target room) = idle n
acts_by X l n (unclocked c) = record { number = n; named = is_of X c; moves = false; pings = false; overdue = false; looks = false }

unfoldable pub acts_of : Bytes → Lookup → ℕ → Asked → Acted
acts_of X l n (own buckets key) = idle n
acts_of X l n (call c) = acts_by X l n c
acts_of X l n unreadable = idle n
