-- What the rows of a printout and of answers share. Document 01, "Log and printout".
use Rattle.std.specs.Prelude.{[], ◌∷◌, take}
use Rattle.octets.specs.Octets.{Bytes}
use Rattle.text.specs.Decimals.{decimal}
use Rattle.text.specs.Hex.{hex}
use Rattle.entry.specs.declared.PingState.{PingState}
use Rattle.entry.specs.declared.PingState.TheVariants.{Quiet, Out}

-- ---- the words

-- `seat`, of document 01's seats
abbrev pub entry_word : Bytes
entry_word = 0x73 ∷ 0x65 ∷ 0x61 ∷ 0x74 ∷ []

-- `wait`, of document 01's waiting line
abbrev pub replacement_word : Bytes
replacement_word = 0x77 ∷ 0x61 ∷ 0x69 ∷ 0x74 ∷ []

-- `quiet`
abbrev pub quiet_word : Bytes
quiet_word = 0x71 ∷ 0x75 ∷ 0x69 ∷ 0x65 ∷ 0x74 ∷ []

-- ---- fields

-- "first 8 key bytes"
abbrev pub key_text : Bytes → Bytes
key_text key = hex (take 8 key)

-- "`quiet` or the millisecond", "`quiet` or its millisecond"
abbrev pub ping_text : PingState → Bytes
ping_text Quiet = quiet_word
ping_text (Out t) = decimal t.0
