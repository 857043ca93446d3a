-- Which datagrams are accepted, with which fields, and which answer the others get.
use Rattle.std.specs.Prelude.{◌≡◌, ◌↔◌, drop, get_or}
use Rattle.octets.specs.Octets.{Bytes, Slice}
use Rattle.packet_schema.specs.Torn.{TornData}
use Rattle.packet.specs.Packets.{byte_of, schema_of}
use Rattle.packet.specs.Accepted.{Fields, type_of_fields, fields_of, Encoded}
use Rattle.packet.specs.declared.PacketType.{PacketType}
use Rattle.packet.specs.declared.Packet.{Packet}
use Rattle.packet.specs.declared.Parsed.TheVariants as parsed
use Rattle.packet_datagram.specs.Datagram.{packet_in}

-- reading g gives a packet with the fields f
pub record Reads (g : Bytes) (f : Fields) : Type 0 where
  pub packet : Packet
  pub is : packet_in g ≡ parsed.Packet packet
  pub fields : fields_of g packet ≡ f

-- byte 97 is the type of f, and the data after it begins with the encoding of f
pub record EncodedIn (g : Bytes) (f : Fields) : Type 0 where
  pub type_byte : get_or g 97 0 ≡ byte_of (type_of_fields f)
  pub begins : Encoded (drop 98 g) f

-- "a packet is accepted exactly if ..": read with certain fields exactly if it encodes them
abbrev pub Acceptance : Type 0
Acceptance = (g : Bytes) → Slice g → (f : Fields) → Reads g f ↔ EncodedIn g f

-- byte 97 is one of the six
abbrev pub TypeKnown : Bytes → Type 0
TypeKnown g = (t : PacketType) × (get_or g 97 0 ≡ byte_of t)

-- the data of a known type is not the encoding of a list of whole items, or a list in it that is read is not
abbrev pub TornIn : Bytes → Type 0
TornIn g = (t : PacketType) × (get_or g 97 0 ≡ byte_of t) × TornData (schema_of t) (drop 98 g)

abbrev pub EightExactly : Type 0
EightExactly = (g : Bytes) → (packet_in g ≡ parsed.Refused 8) ↔ (¬ TypeKnown g)

abbrev pub NineExactly : Type 0
NineExactly = (g : Bytes) → Slice g → (packet_in g ≡ parsed.Refused 9) ↔ TornIn g

-- 10: the type is known, nothing is torn, and no fields are encoded
abbrev pub TenExactly : Type 0
TenExactly = (g : Bytes) → Slice g → (packet_in g ≡ parsed.Refused 10) ↔ (TypeKnown g × (¬ TornIn g) × (¬ ((f : Fields) × EncodedIn g f)))
