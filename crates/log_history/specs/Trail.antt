-- What is carried from line to line to tell the reason at the end: one value, of the same size however long the log is: the lines read; the standing,
-- by the latest line that seated the node, put it in line or removed it; the latest lines that put it at the tail and that recorded a ping; whether it is
-- named, and the last answer number.
use Rattle.std.specs.Prelude.{ℕ, suc, Bool, false, cond, ◌||◌, List, [], ◌∷◌}
use Rattle.octets.specs.Octets.{Bytes}
use Rattle.log_history.specs.declared.Reason.{Reason}
use Rattle.log_history.specs.declared.Reason.TheVariants.{Seated, Waiting, Ping, Proof, Never, Unnamed}
use Rattle.log_history.specs.declared.Standing.{Standing}
use Rattle.log_history.specs.declared.Standing.TheVariants.{NotYet, SeatedAt, WaitingSince, PingLost, ProofLost}
use Rattle.log_history.specs.declared.Trail.{Trail}
use Rattle.log_history.specs.Past.{number_at, Moment}
use Rattle.log_history.specs.Why.{seats, joins, removes, tails, names, pings, overdue_at}

abbrev pub no_trail : Trail
no_trail = record { lines = 0; standing = NotYet; tail = 0; pinged = 0; named = false; number = 0 }

abbrev pub standing_after : Bytes → Trail → Moment → Standing
standing_after X t v =
    cond (seats X v)
    (SeatedAt (suc t.lines))
    (cond (joins X v)
    (WaitingSince (suc t.lines))
    (cond (removes X v) (cond (overdue_at X v.given v.asks) (PingLost (suc t.lines) t.pinged) (ProofLost (suc t.lines))) t.standing))

-- one line more
unfoldable pub trail_after : Bytes → Trail → Moment → Trail
trail_after X t v =
    record {
      lines = suc t.lines;
      standing = standing_after X t v;
      tail = cond (tails X v) (suc t.lines) t.tail;
      pinged = cond (pings X v) (suc t.lines) t.pinged;
      named = names X v || t.named;
      number = cond (names X v) (number_at v.given v.asks) t.number;
    }

-- of lines, latest first
unfoldable pub trail_of : Bytes → List Moment → Trail
trail_of X [] = no_trail
trail_of X (v ∷ log) = trail_after X (trail_of X log) v

abbrev pub reason_for : Trail → Standing → Reason
reason_for t NotYet = cond t.named (Never t.number) Unnamed
reason_for t (SeatedAt n) = Seated n t.tail
reason_for t (WaitingSince n) = Waiting n
reason_for t (PingLost n m) = Ping n m
reason_for t (ProofLost n) = Proof n

abbrev pub reason_of : Trail → Reason
reason_of t = reason_for t t.standing
