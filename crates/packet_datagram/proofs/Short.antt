-- Datagrams that are too short for a type.
use Prim.Native.Nat.{ℕ, ◌<◌}
use mathlib.Core.Path.{◌≡◌, sym, ap}
use native.Mathlib.Omega.{arith}
use lib.ListN.{length, drop, get_or-eq_default}
use Rattle.octets.specs.Octets.{Bytes}
use Rattle.packet.specs.Packets.{type_of, read_data}
use Rattle.packet.specs.declared.Parsed.TheVariants.{Refused}
use Rattle.packet_datagram.specs.Datagram.{packet_in}

pub short_packet : (g : Bytes) → length g < 98 → Refused 8 ≡ packet_in g
unfolding packet_in type_of
short_packet g h = ap (λ (b : ℕ). read_data b 98 (drop 98 g)) (sym (get_or-eq_default g 0 {n = 97} (omega arith)))
