-- A datagram's length, hash and signature.
use Rattle.std.specs.Prelude.{Bool, ◌&&◌, leb, length, drop}
use Rattle.octets.specs.Octets.{Bytes, same_bytes}
use Rattle.keccak.specs.Sponge.{keccak256}
use Rattle.packet_span.specs.Parts.{bytes_of}

-- 98 to 1,280 bytes; answer 3 if not
abbrev pub is_sized : Bytes → Bool
is_sized g = leb 98 (length g) && leb (length g) 1280

abbrev pub hash_of : Bytes → Bytes
hash_of g = bytes_of g (record { start = 0; len = 32 })

abbrev pub signature_of : Bytes → Bytes
signature_of g = bytes_of g (record { start = 32; len = 65 })

-- the first 32 bytes are Keccak-256 of the rest; answer 4 if not
unfoldable pub hash_matches : Bytes → Bool
hash_matches g = same_bytes (hash_of g) (keccak256 (drop 32 g))
