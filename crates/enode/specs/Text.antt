-- A node record as an enode line. Request C-11: "`enode://`, 128 hex digits, `@`, a dotted IPv4 address, `:`, the TCP port, and optionally
-- `?discport=` with the UDP port if it differs".
use Rattle.std.specs.Prelude.{ℕ, Bool, cond, [], ◌∷◌, ◌++◌, eqb}
use Rattle.octets.specs.Octets.{Bytes}
use Rattle.text.specs.Decimals.{decimal}
use Rattle.text.specs.Hex.{hex}
use Rattle.node.specs.Nodes.{address_of}
use Rattle.node.specs.declared.Node.{Node}

-- `enode://`
abbrev pub scheme : Bytes
scheme = 0x65 ∷ 0x6e ∷ 0x6f ∷ 0x64 ∷ 0x65 ∷ 0x3a ∷ 0x2f ∷ 0x2f ∷ []

-- `?discport=`
abbrev pub discport : Bytes
discport = 0x3f ∷ 0x64 ∷ 0x69 ∷ 0x73 ∷ 0x63 ∷ 0x70 ∷ 0x6f ∷ 0x72 ∷ 0x74 ∷ 0x3d ∷ []

-- numbers with `.` between them
abbrev pub dotted : Bytes → Bytes
dotted [] = []
dotted (b ∷ []) = decimal b
dotted (b ∷ c ∷ s) = decimal b ++ (0x2e ∷ dotted (c ∷ s))

-- "`?discport=` is written only if the ports differ"
unfoldable pub ports_text : ℕ → ℕ → Bytes
ports_text udp tcp = decimal tcp ++ cond (eqb udp tcp) [] (discport ++ decimal udp)

-- the line of a node, without its 0A; hex "is lower case on writing"
unfoldable pub enode_text : Node → Bytes
enode_text n =
    scheme ++ hex n.key ++ (0x40 ∷ dotted (address_of n.endpoint)) ++ (0x3a ∷ ports_text n.endpoint.udp n.endpoint.tcp)

-- "A 16-byte address isn't writable (20)"; nor is one of any length but 4
abbrev pub can_enode : Node → Bool
can_enode n = eqb n.endpoint.len 4

-- what is written: the line and its 0A
abbrev pub enode_line : Node → Bytes
enode_line n = enode_text n ++ (0x0a ∷ [])
