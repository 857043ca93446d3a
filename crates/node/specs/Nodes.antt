-- Node records, and addresses.
use Rattle.std.specs.Prelude.{ℕ, Bool, ◌||◌, eqb, length, take, replicate}
use Rattle.octets.specs.Octets.{Bytes}
use Rattle.node.specs.declared.Endpoint.{Endpoint}
use Rattle.node.specs.declared.Node.{Node}

-- "Addresses are 4 or 16 bytes"
abbrev pub is_address_size : ℕ → Bool
is_address_size n = eqb n 4 || eqb n 16

abbrev pub is_address : Bytes → Bool
is_address s = is_address_size (length s)

-- the address of an endpoint: as many of the 16 bytes as it has
abbrev pub address_of : Endpoint → Bytes
address_of e = take e.len e.address

-- a node of zeros
abbrev pub no_node : Node
no_node = record { key = replicate 64 0; endpoint = record { len = 0; address = replicate 16 0; udp = 0; tcp = 0 } }
