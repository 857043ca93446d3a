-- "Then text and record agree both ways, up to hex case".
use Rattle.std.specs.Prelude.{◌<◌, ◌^◌, ◌≡◌, ◌↔◌, Some, ◌++◌, map, length, take, drop, replicate}
use Rattle.octets.specs.Octets.{Bytes, IsBytes, part}
use Rattle.text.specs.Hex.{lower}
use Rattle.node.specs.Nodes.{address_of}
use Rattle.node.specs.declared.Node.{Node}
use Rattle.enode.specs.Text.{enode_text}
use Rattle.enode.specs.Reading.{enode_of}

-- a line with the hex digits of its key in lower case
unfoldable pub lowered : Bytes → Bytes
lowered l = take 8 l ++ map lower (part l 8 128) ++ drop 136 l

-- the record of a line: a key, a 4-byte address with zeros behind it, two ports
pub record IsEnode (n : Node) : Type 0 where
  pub key : length n.key ≡ 64
  pub key_bytes : IsBytes n.key
  pub len : n.endpoint.len ≡ 4
  pub address : n.endpoint.address ≡ address_of n.endpoint ++ replicate 12 0
  pub octets : length (address_of n.endpoint) ≡ 4
  pub octet_bytes : IsBytes (address_of n.endpoint)
  pub udp : n.endpoint.udp < 2 ^ 16
  pub tcp : n.endpoint.tcp < 2 ^ 16

-- a line is read as a node exactly if it is that node's line, up to hex case
abbrev pub Spelling : Type 0
Spelling = (l : Bytes) (n : Node) → (enode_of l ≡ Some n) ↔ ((lowered l ≡ enode_text n) × IsEnode n)
