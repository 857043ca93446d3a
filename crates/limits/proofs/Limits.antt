-- P1 to P12 hold. Assumes nothing.
use Prim.Native.Nat.{ℕ}
use mathlib.Core.Path.{◌≡◌, refl, ap, ◌∙◌}
use mathlib.Core.Bool.{Bool, false, ◌||◌}
use mathlib.Core.List.{◌++◌}
use native.Mathlib.Omega.{arith}
use lib.ListN.{length, take, drop, get_or}
use lib.Count.{count_leading_zeros}
use Rattle.octets.specs.Octets.{Bytes, big_endian}
use Rattle.rlp.specs.Numbers.{divisions, width}
use Rattle.rlp.specs.Encoding.{encode, header, string, list}
use Rattle.rlp.specs.Reading.{head, sized, strict, uint_of}
use Rattle.rlp.proofs.Writing.{encode_framed, encode_list}
use Rattle.distance.specs.Distance.{in_bucket, bit_length}
use Rattle.bucket_model.proofs.BothSides.{proof-holds, proof-kept, proof-fails, proof-dropped, ping-in-time, ping-overdue}
use Rattle.packet.specs.Packets.{read_data}
use Rattle.packet.specs.declared.Parsed.{Parsed}
use Rattle.packet.proofs.Examples.{examples}
use Rattle.packet_datagram.specs.Datagram.{packet_in}
use Rattle.packet_laws.proofs.Sizes.{reply_sizes}
use Rattle.limits.specs.Limits.{Limits}

string_header : (s : Bytes) (n : ℕ) → length s ≡ n → (n ≡ 1 → ⊥) → encode (string s) ≡ header 0x80 n ++ s
string_header s n e ne = encode_framed s (λ (o : length s ≡ 1). absurd (omega arith)) ∙ ap (λ (k : ℕ). header 0x80 k ++ s) e

list_header : (p : Bytes) (n : ℕ) → length p ≡ n → encode (list p) ≡ header 0xc0 n ++ p
list_header p n e = encode_list p ∙ ap (λ (k : ℕ). header 0xc0 k ++ p) e

-- a datagram by its type byte and data
read_is : (g : Bytes) {b : ℕ} {d : Bytes} {x : Parsed} → get_or g 97 0 ≡ b → drop 98 g ≡ d → read_data b 98 d ≡ x → packet_in g ≡ x
unfolding packet_in
read_is g b d e = (λ i. read_data (b i) 98 (d i)) ∙ e

pub limits : Limits
unfolding encode header big_endian width divisions uint_of head sized strict in_bucket bit_length count_leading_zeros
limits =
    record {
      p1 = refl;
      p2_127 = refl;
      p2_128 = refl;
      p3 = refl;
      p4_00 = refl;
      p4_81_7f = refl;
      p4_00_read = λ g b d. read_is g b d examples.lone_zero;
      p4_81_7f_read = λ g b d. read_is g b d examples.plain_with_header;
      p5_55 = λ s e. ap (take 1) (string_header s 55 e (λ (o : 55 ≡ 1). omega arith));
      p5_56 = λ s e. ap (take 2) (string_header s 56 e (λ (o : 56 ≡ 1). omega arith));
      p6_55 = λ p e. ap (take 1) (list_header p 55 e);
      p6_56 = λ p e. ap (take 2) (list_header p 56 e);
      p7 = refl;
      p8_1 = refl;
      p8_2 = refl;
      p8_3 = refl;
      p8_top = refl;
      p8_used_1 = refl;
      p8_used_2 = refl;
      p8_used_3 = refl;
      p8_used_top = refl;
      p9_holds = proof-holds;
      p9_kept = proof-kept;
      p9_fails = proof-fails;
      p9_dropped = proof-dropped;
      p9_verified = λ t address udp e at is. rw (at, is) (proof-holds t);
      p9_unverified = λ t address udp e at is. rw (at, is) (proof-fails t);
      p10_500 = ping-in-time;
      p10_501 = ping-overdue;
      p10_in_time = λ t key b e is out. rw (is, out) (ap (λ (x : Bool). x || false) (ping-in-time t));
      p10_late = λ t key b e is out. rw (is, out) (ap (λ (x : Bool). x || false) (ping-overdue t));
      p11 = reply_sizes;
      p12_passes = refl;
      p12_fails = refl;
      p12_accepted = λ g e. rw e;
      p12_refused = λ g e. rw e;
    }
