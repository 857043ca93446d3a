-- The parts of an enode line as its functions write them.
use Rattle.std.specs.Prelude.{ℕ, cond, [], ◌∷◌, ◌++◌, eqb, take}
use Rattle.octets.specs.Octets.{Bytes}
use Rattle.text.specs.Decimals.{decimal}
use Rattle.text.specs.Hex.{hex}
use Rattle.enode.specs.Text.{scheme, discport, dotted, ports_text}

-- `enode://` and the key
abbrev pub key_text : Bytes → Bytes
key_text key = scheme ++ hex key

-- `@` and the first four bytes of an address
unfoldable pub address_text : Bytes → Bytes
address_text address = 0x40 ∷ dotted (take 4 address)

-- the UDP port where it differs
unfoldable pub discport_text : ℕ → ℕ → Bytes
discport_text udp tcp = cond (eqb udp tcp) [] (discport ++ decimal udp)

-- `:`, the ports and the 0A
abbrev pub ports_end : ℕ → ℕ → Bytes
ports_end udp tcp = (0x3a ∷ ports_text udp tcp) ++ (0x0a ∷ [])
