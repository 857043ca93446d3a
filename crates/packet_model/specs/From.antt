-- The address that a Ping comes from, which may be unknown.
use Rattle.std.specs.Prelude.{ℕ, Bool, true, ◌||◌, [], ◌∷◌, eqb, length}
use Rattle.octets.specs.Octets.{Bytes}
use Rattle.node.specs.Nodes.{is_address, is_address_size}

-- C-13: "Reading an endpoint must allow 0, 4 or 16 bytes [..] in Ping's `from` only"
abbrev pub is_sender_size : ℕ → Bool
is_sender_size n = eqb n 0 || is_address_size n

abbrev pub is_sender_address : Bytes → Bool
is_sender_address s = is_sender_size (length s)

-- "and say 'unknown' for 0"
pub data From : Type 0 where
  unknown : From
  known : Bytes → From

abbrev pub from_said : Bytes → From
from_said [] = unknown
from_said (b ∷ s) = known (b ∷ s)

-- the bytes that stand for it
abbrev pub from_bytes : From → Bytes
from_bytes unknown = []
from_bytes (known a) = a

-- an address of 4 or 16 bytes where it is known
abbrev pub is_from : From → Bool
is_from unknown = true
is_from (known a) = is_address a
