-- What is told of a key, and its row (document 02, C-17): "the reason as one line, fields parted by tabs".
use Rattle.std.specs.Prelude.{Bool, cond, ◌&&◌, [], ◌∷◌, eqb, length, Option, Some, None}
use Rattle.octets.specs.Octets.{Bytes}
use Rattle.text.specs.Hex.{is_hex, unhex}
use Rattle.text.specs.Decimals.{decimal}
use Rattle.text.specs.Rows.{row}
use Rattle.log_history.specs.declared.Reason.{Reason}
use Rattle.log_history.specs.declared.Reason.TheVariants.{Seated, Waiting, Ping, Proof, Never, Unnamed}
use Rattle.log_history.specs.Why.{why}

-- "one key (64 bytes as in a log, else 5)": 128 lower-case hex digits
unfoldable pub is_key_text : Bytes → Bool
is_key_text digits = eqb (length digits) 128 && is_hex digits

-- what is told of the key that the digits spell, over a log; nothing where they are none
unfoldable pub why_of : Bytes → Bytes → Option Reason
why_of log digits = cond (is_key_text digits) (Some (why (unhex digits) log)) None

-- ---- the row

-- `seated`
abbrev pub seated_word : Bytes
seated_word = 0x73 ∷ 0x65 ∷ 0x61 ∷ 0x74 ∷ 0x65 ∷ 0x64 ∷ []

-- `waiting`
abbrev pub waiting_word : Bytes
waiting_word = 0x77 ∷ 0x61 ∷ 0x69 ∷ 0x74 ∷ 0x69 ∷ 0x6e ∷ 0x67 ∷ []

-- `ping`
abbrev pub ping_word : Bytes
ping_word = 0x70 ∷ 0x69 ∷ 0x6e ∷ 0x67 ∷ []

-- `proof`
abbrev pub proof_word : Bytes
proof_word = 0x70 ∷ 0x72 ∷ 0x6f ∷ 0x6f ∷ 0x66 ∷ []

-- `never`
abbrev pub never_word : Bytes
never_word = 0x6e ∷ 0x65 ∷ 0x76 ∷ 0x65 ∷ 0x72 ∷ []

-- `unnamed`
abbrev pub unnamed_word : Bytes
unnamed_word = 0x75 ∷ 0x6e ∷ 0x6e ∷ 0x61 ∷ 0x6d ∷ 0x65 ∷ 0x64 ∷ []

abbrev pub reason_row : Reason → Bytes
reason_row (Seated n m) = row seated_word (decimal n ∷ decimal m ∷ [])
reason_row (Waiting n) = row waiting_word (decimal n ∷ [])
reason_row (Ping n m) = row ping_word (decimal n ∷ decimal m ∷ [])
reason_row (Proof n) = row proof_word (decimal n ∷ [])
reason_row (Never a) = row never_word (decimal a ∷ [])
reason_row Unnamed = row unnamed_word []

unfoldable pub why_row : Option Reason → Bytes
why_row None = row (decimal 5) []
why_row (Some reason) = reason_row reason
