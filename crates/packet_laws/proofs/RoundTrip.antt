-- What is written reads back as the same fields.
use Prim.Native.Nat.{ℕ, ◌+◌, ◌≤◌}
use mathlib.Core.Path.{◌≡◌, refl, sym, ap, subst, ◌∙◌}
use mathlib.Core.Bool.{true}
use mathlib.Core.List.{List, [], ◌∷◌, ◌++◌, append_assoc, append-nil}
use native.Mathlib.Omega.{arith}
use borrow.Author.Tests.{eqb-true, le-leb}
use lib.Dec.{eqb}
use lib.ListN.{length, take, drop, get_or, length-append}
use lib.Seq.{take_at, drop_at, drop-append-add, get_or-append-add}
use Rattle.octets.specs.Octets.{Bytes, IsBytes, Slice, part}
use Rattle.octets.proofs.Laws.{same_refl, bytes_append, slice_drop}
use Rattle.keccak.specs.Sponge.{keccak256}
use Rattle.keccak.proofs.Laws.{keccak256-length, keccak256_bytes}
use Rattle.rlp.specs.Encoding.{Item}
use Rattle.packet_model.specs.Items.{data_of, endpoint, ping_items, pong_items, enr_seq_items}
use Rattle.std.specs.Prelude.{Option, Some, None}
use Rattle.packet_model.specs.From.{from_bytes}
use Rattle.packet_schema.specs.Shapes.{Begins}
use Rattle.packet.specs.Packets.{byte_of, schema_of}
use Rattle.packet.specs.Accepted.{trailing, Fields, ping, pong, find_node, neighbors, enr_request, enr_response, type_of_fields}
use Rattle.packet.specs.declared.PacketType.{PacketType}
use Rattle.packet_envelope.specs.Envelope.{is_sized, hash_matches, signature_of}
use Rattle.packet_datagram.specs.Acceptance.{EncodedIn}
use Rattle.packet_datagram.proofs.Acceptance.{acceptance}
use Rattle.packet_bodies.specs.Parts.{body}
use Rattle.lists.proofs.Laws.{and_left, and_right}
use Rattle.packet_bodies.specs.Writers.{is_record, content}
use Rattle.packet_bodies.proofs.Records.{record_bound, content_is}
use Rattle.packet_join.specs.Join.{datagram}
use Rattle.packet_join.proofs.Datagrams.{datagram-length}
use Rattle.packet_laws.specs.RoundTrip.{body_of, Writable, list_in, NothingAfter, FormOf, RoundTrip, RoundTrips, WritersReadBack}
use Rattle.packet_laws.proofs.Items.{written_items, body_is, all_known}
use Rattle.packet_laws.proofs.Form.{no_more, tcp_is}
use Rattle.packet_laws.proofs.Written.{wrote}
use Rattle.packet_laws.proofs.Sizes.{size_of}
use Rattle.packet_laws.proofs.Bytes.{bodies_are_bytes}

-- ---- the parts of a datagram

module _ (s : Bytes) (kind : ℕ) (data' : Bytes) (sized : length s ≡ 65) where
  abbrev b : Bytes
  b = kind ∷ data'

  abbrev k : Bytes
  k = keccak256 (s ++ b)

  abbrev g : Bytes
  g = datagram s b

  g-is : g ≡ k ++ (s ++ b)
  unfolding datagram
  g-is = refl

  k-length : length k ≡ 32
  k-length = keccak256-length (s ++ b)

  after-hash : drop 32 g ≡ s ++ b
  after-hash = ap (drop 32) g-is ∙ drop_at k (s ++ b) 32 k-length

  before-body : g ≡ (k ++ s) ++ b
  before-body = g-is ∙ sym (append_assoc k s b)

  head-length : length (k ++ s) ≡ 97
  head-length = omega (arith, length-append k s, k-length)

  pub data_is : drop 98 g ≡ data'
  data_is =
      let n : 98 ≡ length (k ++ s) + 1 = omega (arith, head-length) in
      ap (drop 98) before-body ∙ ap (λ (m : ℕ). drop m ((k ++ s) ++ b)) n ∙ drop-append-add (k ++ s) b 1

  pub type-is : get_or g 97 0 ≡ kind
  type-is =
      let n : 97 ≡ length (k ++ s) + 0 = omega (arith, head-length) in
      ap (λ (x : Bytes). get_or x 97 0) before-body ∙ ap (λ (m : ℕ). get_or ((k ++ s) ++ b) m 0) n ∙ get_or-append-add (k ++ s) b 0 0

  g-length : length g ≡ 98 + length data'
  g-length = omega (arith, datagram-length s b)

  pub long-enough : 98 ≤ length g
  long-enough = omega (arith, g-length)

  pub signature-is : signature_of g ≡ s
  unfolding part
  signature-is = rw (le-leb (32 + 65) (length g) (omega (arith, g-length))) (ap (take 65) after-hash ∙ take_at s b 65 sized)

  pub hash-is : hash_matches g ≡ true
  unfolding hash_matches part
  hash-is =
      rw (le-leb (0 + 32) (length g) (omega (arith, g-length)), after-hash, ap (take 32) g-is ∙ take_at k (s ++ b) 32 k-length) (same_refl k)

  pub sized-is : length data' ≤ 1182 → is_sized g ≡ true
  sized-is h = rw (le-leb 98 (length g) long-enough, le-leb (length g) 1280 (omega (arith, g-length)))

-- ---- the six packets

trailing-nil : (e : Option ℕ) → trailing e [] ≡ enr_seq_items e
trailing-nil None = refl
trailing-nil (Some n) = refl

module _ (s : Bytes) (sized : length s ≡ 65) where
  -- the data of a packet begins with its items
  begins : (kind : ℕ) (is : List Item) → Begins (drop 98 (datagram s (body kind is))) is
  begins kind is = record { rest = []; begins = data_is s kind (data_of is) sized ∙ sym (append-nil (data_of is)) }

  typed : (kind : ℕ) (is : List Item) → get_or (datagram s (body kind is)) 97 0 ≡ kind
  typed kind is = type-is s kind (data_of is) sized

  -- what is written of fields encodes them
  encoded : (f : Fields) → Writable f → EncodedIn (datagram s (body_of f)) f
  encoded (ping f) w =
      let is : List Item = written_items (ping f) in
      let from : Item = endpoint (from_bytes f.from_address) f.from_udp f.from_tcp in
      let to : Item = endpoint f.to_address f.to_udp 0 in
      let named : is ≡ ping_items f.version from to f.expiration (trailing f.enr-seq []) =
      λ i. ping_items (sym w.version i) from to f.expiration (sym (trailing-nil f.enr-seq) i) in
      record {
        type_byte = typed 1 is;
        begins =
            record {
              to_tcp = 0;
              more = [];
              begins = subst (Begins (drop 98 (datagram s (body 1 is)))) named (begins 1 is);
              version_fits = omega (arith, w.version);
              from_good = w.from;
              to_good = w.to;
              expiration_fits = w.expiration;
              enr_seq_fits = w.enr-seq;
            };
      }
  encoded (pong f) w =
      let is : List Item = written_items (pong f) in
      let named : is ≡ pong_items (endpoint f.to_address f.to_udp 0) f.ping-hash f.expiration (trailing f.enr-seq []) =
      ap (pong_items (endpoint f.to_address f.to_udp 0) f.ping-hash f.expiration) (sym (trailing-nil f.enr-seq)) in
      record {
        type_byte = typed 2 is;
        begins =
            record {
              to_tcp = 0;
              more = [];
              begins = subst (Begins (drop 98 (datagram s (body 2 is)))) named (begins 2 is);
              to_good = w.to;
              hash_sized = w.hash;
              expiration_fits = w.expiration;
              enr_seq_fits = w.enr-seq;
            };
      }
  encoded (find_node f) w =
      let is : List Item = written_items (find_node f) in
      record { type_byte = typed 3 is; begins = record { more = []; begins = begins 3 is; target_sized = w.target; expiration_fits = w.expiration } }
  encoded (neighbors f) w =
      let is : List Item = written_items (neighbors f) in
      record { type_byte = typed 4 is; begins = record { more = []; begins = begins 4 is; nodes_good = w.nodes; expiration_fits = w.expiration } }
  encoded (enr_request f) w =
      let is : List Item = written_items (enr_request f) in
      record { type_byte = typed 5 is; begins = record { more = []; begins = begins 5 is; expiration_fits = w } }
  encoded (enr_response f) w =
      let is : List Item = written_items (enr_response f) in
      let ok = and_right (eqb (length f.request-hash) 32) (is_record f.enr) w.can in
      record {
        type_byte = typed 6 is;
        begins =
            record {
              content = content f.enr;
              more = [];
              begins = begins 6 is;
              enr_is = sym (content_is f.enr w.enr ok);
              hash_sized = eqb-true (length f.request-hash) 32 (and_left (eqb (length f.request-hash) 32) (is_record f.enr) w.can);
              enr_sized = record_bound f.enr ok;
            };
      }

  -- and has the form that is written
  formed : (f : Fields) → Writable f → Slice (datagram s (body_of f)) → FormOf (list_in (drop 98 (datagram s (body_of f)))) f
  formed (ping f) w sl =
      let is : List Item = written_items (ping f) in
      (w.version, tcp_is (datagram s (body 1 is)) sl (long-enough s 1 (data_of is) sized) is (begins 1 is) 2 refl w.to)
  formed (pong f) w sl =
      let is : List Item = written_items (pong f) in
      tcp_is (datagram s (body 2 is)) sl (long-enough s 2 (data_of is) sized) is (begins 2 is) 0 refl w.to
  formed (find_node f) w sl = tt
  formed (neighbors f) w sl = w.few
  formed (enr_request f) w sl = tt
  formed (enr_response f) w sl = tt

  -- nothing stands after items that are all known
  bare : (t : PacketType) (kind : ℕ) (is : List Item) → length is ≤ length (schema_of t) → Slice (datagram s (body kind is)) → NothingAfter t (drop 98 (datagram s (body kind is)))
  bare t kind is h sl = no_more (drop 98 (datagram s (body kind is))) (slice_drop 98 (datagram s (body kind is)) sl) is (begins kind is) t (data_is s kind (data_of is) sized) h

-- ---- the whole

-- a datagram of bytes is a slice
joined_slice : (s b : Bytes) → length s ≡ 65 → length b ≤ 1108 → IsBytes s → IsBytes b → Slice (datagram s b)
unfolding datagram
joined_slice s b h l hs hb =
    record {
      bytes = bytes_append (keccak256 (s ++ b)) (s ++ b) (keccak256_bytes (s ++ b)) (bytes_append s b hs hb);
      size = omega (arith, datagram-length s b);
    }

pub round_trips : RoundTrips
round_trips s sized bs f w bf =
    let kind : ℕ = byte_of (type_of_fields f) in
    let is : List Item = written_items f in
    let e : body_of f ≡ body kind is = body_is f in
    let n = size_of f w in
    let sl : Slice (datagram s (body_of f)) = joined_slice s (body_of f) sized n bs (bodies_are_bytes f w bf) in
    record {
      form =
          record {
            sized = subst (λ (b : Bytes). is_sized (datagram s b) ≡ true) (sym e) (sized-is s kind (data_of is) sized (omega (arith, n, ap length e)));
            hash = subst (λ (b : Bytes). hash_matches (datagram s b) ≡ true) (sym e) (hash-is s kind (data_of is) sized);
            reads = (acceptance (datagram s (body_of f)) sl f).1 (encoded s sized f w);
            nothing_after =
                subst (λ (b : Bytes). NothingAfter (type_of_fields f) (drop 98 (datagram s b))) (sym e)
                (bare s sized (type_of_fields f) kind is (all_known f) (subst (λ (b : Bytes). Slice (datagram s b)) e sl));
            form = formed s sized f w sl;
          };
      signed = subst (λ (b : Bytes). signature_of (datagram s b) ≡ s) (sym e) (signature-is s kind (data_of is) sized);
    }

pub writers_read_back : WritersReadBack
writers_read_back s sized bs b f w bf =
    let r = wrote w in
    subst (λ (x : Bytes). RoundTrip s x f) r.is (round_trips s sized bs f r.can bf)
