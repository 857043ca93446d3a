-- The answer to a line of a log, as a line of text. Document 01, "Log and printout": "Each line is answered by its number; after 0 an `rx` adds a
-- tab and these, parted by tabs: ping `pong`, then `ping` if due; pong `tail` (was seated), `seat` (now seated), or `wait`, the head's first 8
-- key bytes, `quiet` or its millisecond; the others `find`, `nodes`, `enr`, `record`."
use Rattle.std.specs.Prelude.{List, [], ◌∷◌}
use Rattle.octets.specs.Octets.{Bytes}
use Rattle.text.specs.Decimals.{decimal}
use Rattle.text.specs.Rows.{row}
use Rattle.call_answer.specs.declared.Outcome.{Outcome}
use Rattle.call_answer.specs.declared.Outcome.TheVariants.{Refused, Ping, Pong, FindNode, Neighbors, EnrRequest, EnrResponse}
use Rattle.call_answer.specs.declared.Received.{Received}
use Rattle.call_answer.specs.Answer.{number_of}
use Rattle.log_answer.specs.AnswerRows.{ping_fields, pong_fields}

-- ---- the words

-- `find`
abbrev pub find_word : Bytes
find_word = 0x66 ∷ 0x69 ∷ 0x6e ∷ 0x64 ∷ []

-- `nodes`
abbrev pub nodes_word : Bytes
nodes_word = 0x6e ∷ 0x6f ∷ 0x64 ∷ 0x65 ∷ 0x73 ∷ []

-- `enr`
abbrev pub enr_word : Bytes
enr_word = 0x65 ∷ 0x6e ∷ 0x72 ∷ []

-- `record`
abbrev pub record_word : Bytes
record_word = 0x72 ∷ 0x65 ∷ 0x63 ∷ 0x6f ∷ 0x72 ∷ 0x64 ∷ []

-- ---- the lines

-- what follows the number
abbrev pub added_fields : Outcome → Bytes → List Bytes
added_fields (Refused n) key = []
added_fields (Ping p due) key = ping_fields due
added_fields (Pong p standing) key = pong_fields standing key
added_fields (FindNode p) key = find_word ∷ []
added_fields (Neighbors p) key = nodes_word ∷ []
added_fields (EnrRequest p) key = enr_word ∷ []
added_fields (EnrResponse p) key = record_word ∷ []

-- the answer to an `rx`
unfoldable pub received_row : Received → Bytes
received_row r = row (decimal (number_of r)) (added_fields r.outcome r.head.key)
