-- Rows of an answer to a line of a log, as text: a number alone, and what a ping and a pong add after 0. Document 01, "Log and printout": "ping `pong`,
-- then `ping` if due; pong `tail` (was seated), `seat` (now seated), or `wait`, the head's first 8 key bytes, `quiet` or its millisecond".
use Rattle.std.specs.Prelude.{ℕ, Bool, cond, List, [], ◌∷◌}
use Rattle.octets.specs.Octets.{Bytes}
use Rattle.text.specs.Decimals.{decimal}
use Rattle.text.specs.Rows.{row}
use Rattle.printout_rows.specs.Rows.{entry_word, replacement_word, key_text, ping_text}
use Rattle.call_answer.specs.declared.Standing.{Standing}
use Rattle.call_answer.specs.declared.Standing.TheVariants.{Tail, TookEntry, RangeFull, Waiting}

-- ---- the words

-- `pong`
abbrev pub pong_word : Bytes
pong_word = 0x70 ∷ 0x6f ∷ 0x6e ∷ 0x67 ∷ []

-- `ping`
abbrev pub ping_word : Bytes
ping_word = 0x70 ∷ 0x69 ∷ 0x6e ∷ 0x67 ∷ []

-- `tail`
abbrev pub tail_word : Bytes
tail_word = 0x74 ∷ 0x61 ∷ 0x69 ∷ 0x6c ∷ []

-- ---- the lines

-- as many bytes as a line takes at most, and some more
abbrev pub answer_room : ℕ
answer_room = 64

-- a number alone
abbrev pub number_row : ℕ → Bytes
number_row n = row (decimal n) []

-- of a ping
abbrev pub ping_fields : Bool → List Bytes
ping_fields due = pong_word ∷ cond due (ping_word ∷ []) []

-- of a pong, where the head has this key
abbrev pub pong_fields : Standing → Bytes → List Bytes
pong_fields Tail key = tail_word ∷ []
pong_fields TookEntry key = entry_word ∷ []
pong_fields RangeFull key = replacement_word ∷ []
pong_fields (Waiting ping) key = replacement_word ∷ key_text key ∷ ping_text ping ∷ []
