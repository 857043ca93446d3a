-- What a line, without its 0A, says: a node, or that it doesn't fit.
use Rattle.std.specs.Prelude.{ℕ, ◌+◌, ◌-◌, ◌^◌, Bool, cond, ◌&&◌, List, [], ◌∷◌, ◌++◌, ltb, leb, eqb, length, drop, get_or, replicate, Option, Some, None}
use Rattle.octets.specs.Octets.{Bytes, part, same_bytes}
use Rattle.lists.specs.Lists.{all}
use Rattle.text.specs.Decimals.{decimal_of}
use Rattle.text.specs.Hex.{is_any_hex_digit, unhex}
use Rattle.text.specs.Marks.{until}
use Rattle.node.specs.declared.Node.{Node}
use Rattle.enode.specs.Text.{scheme, discport}
use Rattle.enode.specs.declared.Field.{Field}
use Rattle.enode.specs.declared.Ports.{Ports}

abbrev pub number : ℕ → ℕ → Option Field
number n next = Some (record { value = n; next = next })

abbrev pub numbered : Option ℕ → ℕ → Option Field
numbered (Some n) next = number n next
numbered None next = None

-- the decimal of at most limit from index at up to the next mark, which must be there
unfoldable pub field_at : ℕ → ℕ → Bytes → ℕ → Option Field
field_at mark limit s at =
    cond (ltb (at + length (until mark at s)) (length s))
    (numbered (decimal_of limit (until mark at s)) (at + length (until mark at s) + 1))
    None

-- the greatest port
abbrev pub max_port : ℕ
max_port = 2 ^ 16 - 1

abbrev pub both : ℕ → ℕ → Option Ports
both udp tcp = Some (record { udp = udp; tcp = tcp })

-- "on reading one that equals the TCP port is refused"
abbrev pub differing : ℕ → Option ℕ → Option Ports
differing tcp (Some udp) = cond (eqb udp tcp) None (both udp tcp)
differing tcp None = None

-- the ports where the TCP port ended at index at: there is the end, or `?discport=` and a UDP port that differs
unfoldable pub udp_from : Bytes → ℕ → ℕ → Option Ports
udp_from s at tcp =
    cond (eqb at (length s))
    (both tcp tcp)
    (cond (same_bytes (part s at 10) discport) (differing tcp (decimal_of max_port (drop (at + 10) s))) None)

abbrev pub with_tcp : Option ℕ → (ℕ → Option Ports) → Option Ports
with_tcp (Some tcp) f = f tcp
with_tcp None f = None

-- the ports from index at: the TCP port up to `?` or the end, and then the UDP port
unfoldable pub ports_of : Bytes → ℕ → Option Ports
ports_of s at = with_tcp (decimal_of max_port (until 0x3f at s)) (udp_from s (at + length (until 0x3f at s)))

-- a node with this key, IPv4 address and ports
abbrev pub node_of : Bytes → Bytes → ℕ → ℕ → Node
node_of key address udp tcp =
    record { key = key; endpoint = record { len = 4; address = address ++ replicate 12 0; udp = udp; tcp = tcp } }

abbrev pub with_ports : Bytes → Bytes → Option Ports → Option Node
with_ports key address (Some p) = Some (node_of key address p.udp p.tcp)
with_ports key address None = None

abbrev pub on_field : Option Field → (ℕ → ℕ → Option Node) → Option Node
on_field (Some x) f = f x.value x.next
on_field None f = None

-- the octets before each of these marks, and then the ports
unfoldable pub octets_from : Bytes → Bytes → List ℕ → Bytes → ℕ → Option Node
octets_from key address [] s at = with_ports key address (ports_of s at)
octets_from key address (mark ∷ marks) s at =
    on_field (field_at mark 255 s at) (λ n next. octets_from key (address ++ (n ∷ [])) marks s next)

-- `enode://`, 128 hex digits of either case and `@`
abbrev pub is_keyed : Bytes → Bool
is_keyed l = leb 137 (length l) && (same_bytes (part l 0 8) scheme && (all is_any_hex_digit (part l 8 128) && eqb (get_or l 136 0) 0x40))

unfoldable pub enode_of : Bytes → Option Node
enode_of l = cond (is_keyed l) (octets_from (unhex (part l 8 128)) [] (0x2e ∷ 0x2e ∷ 0x2e ∷ 0x3a ∷ []) l 137) None
