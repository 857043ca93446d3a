-- A datagram: hash (32), signature (65), body (type and data).
use Rattle.std.specs.Prelude.{Bool, ◌&&◌, ◌++◌, eqb, leb, length}
use Rattle.octets.specs.Octets.{Bytes}
use Rattle.keccak.specs.Sponge.{keccak256}

-- a signature of 65 bytes and a body of 1 to 1,183: a datagram of 98 to 1,280
abbrev pub can_join : Bytes → Bytes → Bool
can_join signature body = eqb (length signature) 65 && (leb 1 (length body) && leb (length body) 1183)

-- the hash covers what follows it
unfoldable pub datagram : Bytes → Bytes → Bytes
datagram signature body = keccak256 (signature ++ body) ++ (signature ++ body)
