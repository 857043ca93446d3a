-- What the test of a record to write means.
use Rattle.std.specs.Prelude.{◌≤◌, ◌≡◌, ◌↔◌, true, length}
use Rattle.octets.specs.Octets.{Bytes, Slice}
use Rattle.rlp.specs.Encoding.{list, encode}
use Rattle.packet_bodies.specs.Writers.{is_record}

-- one whole list, and at most 300 bytes
abbrev pub RecordExactly : Type 0
RecordExactly = (r : Bytes) → Slice r → (is_record r ≡ true) ↔ (((p : Bytes) × (r ≡ encode (list p))) × (length r ≤ 300))
