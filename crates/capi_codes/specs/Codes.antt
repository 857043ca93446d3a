-- The answers of the C boundary in one number: the answer number, and a value above it.
use Rattle.std.specs.Prelude.{ℕ, ◌+◌, ◌*◌, ◌%◌, Bool, true, false, Option, Some, None, Result}
use Rattle.call_answer.specs.declared.Standing.{Standing}
use Rattle.call_answer.specs.declared.Standing.TheVariants.{Tail, TookEntry, RangeFull, Waiting}
use Rattle.call_answer.specs.declared.Outcome.{Outcome}
use Rattle.call_answer.specs.declared.Outcome.TheVariants.{Refused, Ping, Pong, FindNode, Neighbors, EnrRequest, EnrResponse}
use Rattle.call_answer.specs.declared.Received.{Received}
use Rattle.written.specs.declared.WriteError.{WriteError}
use Rattle.closest_nodes.specs.declared.Listed.{Listed}
use Rattle.written.specs.Written.{written_number, written_size}

-- the answer number in the low byte, and the value above it
abbrev pub code : ℕ → ℕ → ℕ
code number value = number + 256 * value

-- the answer number of a code
abbrev pub number_in : ℕ → ℕ
number_in c = c % 256

-- ---- a datagram's answer: the packet type, 0 where refused, and 256 times the outcome

-- of an accepted Ping: 1 if a ping is due
abbrev pub due_value : Bool → ℕ
due_value true = 1
due_value false = 0

-- of an accepted Pong: its sender was an entry, took an entry, waits for a free one, or waits since its range is full
abbrev pub standing_value : Standing → ℕ
standing_value Tail = 0
standing_value TookEntry = 1
standing_value (Waiting ping) = 2
standing_value RangeFull = 3

abbrev pub accepted : ℕ → ℕ → ℕ
accepted kind outcome = code 0 (kind + 256 * outcome)

abbrev pub outcome_code : Outcome → ℕ
outcome_code (Refused n) = code n 0
outcome_code (Ping p due) = accepted 1 (due_value due)
outcome_code (Pong p s) = accepted 2 (standing_value s)
outcome_code (FindNode p) = accepted 3 0
outcome_code (Neighbors p) = accepted 4 0
outcome_code (EnrRequest p) = accepted 5 0
outcome_code (EnrResponse p) = accepted 6 0

abbrev pub received_code : Received → ℕ
received_code r = outcome_code r.outcome

-- ---- the other answers

-- a closest call's: the value is how many nodes the list received, and 256 times how many distances were worked out
abbrev pub listed_code : Listed → ℕ
listed_code l = code l.number (l.count + 256 * l.distances)

-- a write's: the value is how many bytes were written
abbrev pub written_code : Result ℕ WriteError → ℕ
written_code w = code (written_number w) (written_size w)

-- ---- enr-seq as C passes it

abbrev pub seq_of : Bool → ℕ → Option ℕ
seq_of true n = Some n
seq_of false n = None
