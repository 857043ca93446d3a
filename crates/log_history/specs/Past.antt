-- A log's run under the rules: each line by what it asks for, the rules' table that it was given, and its answer number. Line numbers count
-- every line, from 1.
use Rattle.std.specs.Prelude.{ℕ, Bool, true, false, cond, List, [], ◌∷◌, map, eqb}
use Rattle.octets.specs.Octets.{Bytes}
use Rattle.keccak.specs.Sponge.{keccak256}
use Rattle.text.specs.Lines.{lines_of}
use Rattle.log_lines.specs.Lines.{Held, whole, too_long, held}
use Rattle.log_line.specs.declared.Line.{Line}
use Rattle.log_line.specs.declared.Line.TheVariants.{Own, Rx, Sent, Sweep, Unreadable}
use Rattle.log_line.specs.Fields.{said}
use Rattle.log_line.specs.Forms.{line_of}
use Rattle.call_history.specs.Model.{Env, Call, datagram, ping_sent, sweep, Table, fresh, answer, next}
use Rattle.call_history.specs.Keccak.{with_keccak}
use Rattle.call_model.specs.Reading.{reading}
use Rattle.log_own.specs.OwnLine.{own_number}

-- what a line asks for, its fields decoded
pub data Asked : Type 0 where
  own : ℕ → Bytes → Asked
  call : Call → Asked
  unreadable : Asked

abbrev pub asked_by : Bytes → Line → Asked
asked_by line (Own buckets key) = own buckets (said line key)
asked_by line (Rx now unix address port signer bytes) = call (datagram now unix (said line address) port (said line signer) (said line bytes))
asked_by line (Sent now key address udp tcp hash) = call (ping_sent now (said line key) (said line address) udp tcp (said line hash))
asked_by line (Sweep now) = call (sweep now)
asked_by line Unreadable = unreadable

unfoldable pub asked : Held → Asked
asked (whole line) = asked_by line (line_of line)
asked too_long = unreadable

-- no table, and whether a well-formed `own` has come; or the rules and the table
pub data Stage : Type 0 where
  before : Bool → Stage
  running : Env → Table → Stage

-- the rules for an accepted `own`
abbrev pub rules_for : ℕ → Bytes → Env
rules_for buckets key = with_keccak reading (keccak256 key) buckets

-- "A line of any other form, or an `own` after any well-formed one, gets 21; else a call line before an accepted `own` gets 1"
unfoldable pub number_at : Stage → Asked → ℕ
number_at (before owned) (own buckets key) = cond owned 21 (own_number buckets key)
number_at (before owned) (call c) = 1
number_at (before owned) unreadable = 21
number_at (running e s) (own buckets key) = 21
number_at (running e s) (call c) = answer e s c
number_at (running e s) unreadable = 21

-- the first well-formed `own`
abbrev pub opened : ℕ → Bytes → Stage
opened buckets key = cond (eqb (own_number buckets key) 0) (running (rules_for buckets key) (fresh (rules_for buckets key))) (before true)

unfoldable pub stage_after : Stage → Asked → Stage
stage_after (before owned) (own buckets key) = cond owned (before owned) (opened buckets key)
stage_after (before owned) (call c) = before owned
stage_after (before owned) unreadable = before owned
stage_after (running e s) (own buckets key) = running e s
stage_after (running e s) (call c) = running e (next e s c)
stage_after (running e s) unreadable = running e s

-- a line, and what it was given
pub record Moment : Type 0 where
  pub given : Stage
  pub asks : Asked

-- what a line leaves
abbrev pub leaves : Moment → Stage
leaves v = stage_after v.given v.asks

-- the lines read so far, latest first, and what they left. The number of the latest is how many they are.
pub record Past : Type 0 where
  pub stage : Stage
  pub lines : List Moment

abbrev pub nothing_read : Past
nothing_read = record { stage = before false; lines = [] }

abbrev pub read_one : Past → Asked → Past
read_one p a = record { stage = stage_after p.stage a; lines = record { given = p.stage; asks = a } ∷ p.lines }

abbrev pub read_all : Past → List Asked → Past
read_all p [] = p
read_all p (a ∷ more) = read_all (read_one p a) more

-- the run of a whole log
abbrev pub past_of : Bytes → Past
past_of log = read_all nothing_read (map (λ l. asked (held l)) (lines_of log))
