-- Document 01's "Both sides of each line", P1 to P12: one claim about the definitions that the contracts cite.
use Rattle.std.specs.Prelude.{ℕ, ◌+◌, ◌^◌, ◌≡◌, true, false, [], ◌∷◌, None, length, take, drop, get_or}
use Rattle.octets.specs.Octets.{Bytes}
use Rattle.rlp.specs.Numbers.{uint_bytes}
use Rattle.rlp.specs.Encoding.{encode, string, list}
use Rattle.rlp.specs.Reading.{head, uint_of}
use Rattle.distance.specs.Distance.{in_bucket, number_of_distance}
use Rattle.entry.specs.declared.Entry.{Entry}
use Rattle.entry.specs.declared.EndpointProof.TheVariants.{At}
use Rattle.entry.specs.declared.PingState.TheVariants.{Out}
use Rattle.bucket_model.specs.Contents.{Contents}
use Rattle.bucket_model.specs.Rules.{millis, held, proof_holds, proof_expired, is_overdue, is_at, is_verified, is_late}
use Rattle.packet_laws.specs.Sizes.{ReplySizes}
use Rattle.packet.specs.declared.Packet.TheVariants.{EnrRequest}
use Rattle.packet.specs.declared.Parsed.TheVariants.{Packet, Refused}
use Rattle.packet_datagram.specs.Datagram.{packet_in, expired, read_at}

pub record Limits : Type 0 where
  -- P1 "integer 0 is 80"
  pub p1 : encode (string (uint_bytes 0)) ≡ 0x80 ∷ []
  -- P2 "127 is 7f, 128 is 81 80"
  pub p2_127 : encode (string (uint_bytes 127)) ≡ 0x7f ∷ []
  pub p2_128 : encode (string (uint_bytes 128)) ≡ 0x81 ∷ 0x80 ∷ []
  -- P3 "1,024 is 82 04 00"
  pub p3 : encode (string (uint_bytes 1024)) ≡ 0x82 ∷ 0x04 ∷ 0x00 ∷ []
  -- P4 "00 and 81 7f are refused as integers": the first as an integer, the second by its header; as a packet's item 10 and 9
  pub p4_00 : uint_of (0x00 ∷ []) ≡ None
  pub p4_81_7f : head (0x81 ∷ 0x7f ∷ []) ≡ None
  pub p4_00_read : (g : Bytes) → get_or g 97 0 ≡ 5 → drop 98 g ≡ 0xc1 ∷ 0x00 ∷ [] → packet_in g ≡ Refused 10
  pub p4_81_7f_read : (g : Bytes) → get_or g 97 0 ≡ 5 → drop 98 g ≡ 0xc2 ∷ 0x81 ∷ 0x7f ∷ [] → packet_in g ≡ Refused 9
  -- P5 "a string of 55 bytes starts b7, of 56 starts b8 38"
  pub p5_55 : (s : Bytes) → length s ≡ 55 → take 1 (encode (string s)) ≡ 0xb7 ∷ []
  pub p5_56 : (s : Bytes) → length s ≡ 56 → take 2 (encode (string s)) ≡ 0xb8 ∷ 0x38 ∷ []
  -- P6 "a list of 55 starts f7, of 56 f8 38"
  pub p6_55 : (p : Bytes) → length p ≡ 55 → take 1 (encode (list p)) ≡ 0xf7 ∷ []
  pub p6_56 : (p : Bytes) → length p ≡ 56 → take 2 (encode (list p)) ≡ 0xf8 ∷ 0x38 ∷ []
  -- P7 "the empty list is c0"
  pub p7 : encode (list []) ≡ 0xc0 ∷ []
  -- P8 "distances 1, 2, 3, 2^255 fall in buckets 0, 1, 1, 255": by the rule, and the number that a call works out
  pub p8_1 : in_bucket 0 1 ≡ true
  pub p8_2 : in_bucket 1 2 ≡ true
  pub p8_3 : in_bucket 1 3 ≡ true
  pub p8_top : in_bucket 255 (2 ^ 255) ≡ true
  pub p8_used_1 : number_of_distance 1 ≡ 0
  pub p8_used_2 : number_of_distance 2 ≡ 1
  pub p8_used_3 : number_of_distance 3 ≡ 1
  pub p8_used_top : number_of_distance (2 ^ 255) ≡ 255
  -- P9 "a proof 43,200,000 ms old holds, 43,200,001 doesn't": for a packet's sender, which is verified or not, and for a replacement at a sweep
  pub p9_holds : (t : ℕ) → proof_holds (t + 43200000) (At (millis t)) ≡ true
  pub p9_kept : (t : ℕ) → proof_expired (t + 43200000) (At (millis t)) ≡ false
  pub p9_fails : (t : ℕ) → proof_holds (t + 43200001) (At (millis t)) ≡ false
  pub p9_dropped : (t : ℕ) → proof_expired (t + 43200001) (At (millis t)) ≡ true
  pub p9_verified : (t : ℕ) (address : Bytes) (udp : ℕ) (e : Entry) → is_at address udp e ≡ true → e.proof ≡ At (millis t)
      → is_verified (t + 43200000) address udp e ≡ true
  pub p9_unverified : (t : ℕ) (address : Bytes) (udp : ℕ) (e : Entry) → is_at address udp e ≡ true → e.proof ≡ At (millis t)
      → is_verified (t + 43200001) address udp e ≡ false
  -- P10 "a pong after 500 ms is in time, after 501 late": the ping, and the pong of the node that a bucket holds
  pub p10_500 : (t : ℕ) → is_overdue (t + 500) (Out (millis t)) ≡ false
  pub p10_501 : (t : ℕ) → is_overdue (t + 501) (Out (millis t)) ≡ true
  pub p10_in_time : (t : ℕ) (key : Bytes) (b : Contents) (e : Entry) → held key b ≡ e ∷ [] → e.ping ≡ Out (millis t) → is_late (t + 500) key b ≡ false
  pub p10_late : (t : ℕ) (key : Bytes) (b : Contents) (e : Entry) → held key b ≡ e ∷ [] → e.ping ≡ Out (millis t) → is_late (t + 501) key b ≡ true
  -- P11 "the sizes 1,205 and 1,296", and that they are the largest
  pub p11 : ReplySizes
  -- P12 "expiration 9 at Unix time 9 passes, at 10 doesn't": the test, and a datagram that is an ENRRequest with this expiration
  pub p12_passes : expired 9 (record { 0 = 9 }) ≡ false
  pub p12_fails : expired 9 (record { 0 = 10 }) ≡ true
  pub p12_accepted : (g : Bytes) → packet_in g ≡ Packet (EnrRequest (record { expiration = 9 }))
      → read_at g (record { 0 = 9 }) ≡ Packet (EnrRequest (record { expiration = 9 }))
  pub p12_refused : (g : Bytes) → packet_in g ≡ Packet (EnrRequest (record { expiration = 9 })) → read_at g (record { 0 = 10 }) ≡ Refused 11
