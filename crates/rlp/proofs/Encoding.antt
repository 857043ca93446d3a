-- The strict reader reads exactly what the encoding writes, by topic.
pub mod Reads
pub mod Sound
pub mod Items
pub mod Integers
pub use Reads.{encode_is, encode-length, read_item, read_payload, read_rest}
pub use Sound.{head_none, read_is_encoding, read_sound}
pub use Items.{small-first, small-rest, read_first, whole-encodes, count-encodes, offset-encodes, ReadsAs, nth_item, whole_is_encodes, small_items}
pub use Integers.{uint_read, uint-sound}
