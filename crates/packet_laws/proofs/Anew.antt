-- A packet of the form that is written, written anew with its signature, is the same bytes.
use Prim.Native.Nat.{ℕ, ◌≤◌, ◌<◌, ◌^◌}
use mathlib.Core.Path.{◌≡◌, refl, sym, ap, ◌∙◌}
use mathlib.Core.Bool.{true}
use mathlib.Core.List.{List, [], ◌∷◌, ◌++◌, map}
use native.Mathlib.Omega.{arith}
use borrow.Author.Tests.{eq-eqb}
use lib.ListN.{length, take, drop, get_or, take-append-drop}
use lib.Seq.{drop-drop, drop-cons}
use Rattle.octets.specs.Octets.{Bytes, Slice, part}
use Rattle.octets.proofs.Laws.{slice_drop, same_eq}
use Rattle.keccak.specs.Sponge.{keccak256}
use Rattle.lists.proofs.Laws.{nil}
use Rattle.rlp.specs.Encoding.{Item, string, list, encode}
use Rattle.packet_model.specs.Items.{data_of, uint, endpoint, ping_items, pong_items, find_node_items, neighbors_items, enr_request_items, enr_response_items, enr_seq_items, node_item}
use Rattle.packet_model.specs.From.{from_bytes}
use Rattle.std.specs.Prelude.{Option, Some, None}
use Rattle.packet_schema.proofs.Torn.{slices-begun}
use Rattle.packet_span.proofs.Parts.{bytes_in}
use Rattle.packet.specs.Accepted.{trailing, Fields, ping, pong, find_node, neighbors, enr_request, enr_response, type_of_fields, PingEncoded, PongEncoded, EnrResponseEncoded}
use Rattle.packet.specs.declared.PacketType.TheVariants as type
use Rattle.packet_envelope.specs.Envelope.{hash_of, hash_matches, signature_of}
use Rattle.packet_envelope.proofs.Laws.{sized}
use Rattle.packet_datagram.specs.Acceptance.{EncodedIn}
use Rattle.packet_datagram.proofs.Acceptance.{acceptance}
use Rattle.packet_bodies.specs.Parts.{body}
use Rattle.packet_bodies.specs.Writers.{is_record, content}
use Rattle.packet_bodies.proofs.Records.{content_is, record_exactly}
use Rattle.packet_join.specs.Join.{datagram}
use Rattle.packet_laws.specs.RoundTrip.{body_of, Writable, list_in, NothingAfter, FormOf, WrittenAnew}
use Rattle.packet_laws.proofs.Bytes.{encode_bytes}
use Rattle.packet_laws.proofs.Sizes.{both_true}
use Rattle.packet_laws.proofs.Form.{data-all, known-items, tcp_is}

-- ---- the parts of a datagram

module _ (g : Bytes) (long : 98 ≤ length g) where
  signature-is : signature_of g ≡ take 65 (drop 32 g)
  unfolding part
  signature-is = bytes_in g (record { start = 32; len = 65 }) (omega arith)

  hash-is : hash_of g ≡ take 32 g
  unfolding part
  hash-is = bytes_in g (record { start = 0; len = 32 }) (omega arith)

  signed : (b : Bytes) → get_or g 97 0 ∷ drop 98 g ≡ b → signature_of g ++ b ≡ drop 32 g
  signed b e =
      let rest : drop 65 (drop 32 g) ≡ b = drop-drop 65 32 g ∙ drop-cons g 97 0 (omega arith) ∙ e in
      (λ i. signature-is i ++ sym rest i) ∙ take-append-drop 65 (drop 32 g)

  -- the signature and the body of a datagram whose hash matches make it
  joined : hash_matches g ≡ true → (b : Bytes) → get_or g 97 0 ∷ drop 98 g ≡ b → datagram (signature_of g) b ≡ g
  unfolding datagram hash_matches
  joined h b e =
      let k : hash_of g ≡ keccak256 (drop 32 g) = same_eq (hash_of g) (keccak256 (drop 32 g)) h in
      ap (λ (x : Bytes). keccak256 x ++ x) (signed b e)
      ∙ ap (λ (x : Bytes). x ++ drop 32 g) (sym k ∙ hash-is)
      ∙ take-append-drop 32 g

-- ---- the six packets

trailing_is : (e : Option ℕ) (more : List Item) → length (trailing e more) ≤ 1 → trailing e more ≡ enr_seq_items e
trailing_is None more h = refl
trailing_is (Some n) more h = ap (λ (l : List Item). uint n ∷ l) (nil more (omega arith))

module _ (g : Bytes) (sl : Slice g) (long : 98 ≤ length g) where
  -- fields that can be written, and the body that the datagram has
  abbrev Holds : Fields → Type 0
  Holds f = Writable f × (get_or g 97 0 ∷ drop 98 g ≡ body_of f)

  same_body : (kind : ℕ) {is js : List Item} → get_or g 97 0 ≡ kind → drop 98 g ≡ data_of is → is ≡ js → get_or g 97 0 ∷ drop 98 g ≡ body kind js
  same_body kind b e q = λ i. b i ∷ (e ∙ ap data_of q) i

  written : (f : Fields) → EncodedIn g f → NothingAfter (type_of_fields f) (drop 98 g) → FormOf (list_in (drop 98 g)) f → Holds f
  written (ping f) h n form =
      let e : PingEncoded (drop 98 g) f = h.begins in
      let is : List Item = ping_items f.version (endpoint (from_bytes f.from_address) f.from_udp f.from_tcp) (endpoint f.to_address f.to_udp e.to_tcp) f.expiration (trailing f.enr-seq e.more) in
      let zero : e.to_tcp ≡ 0 = sym (tcp_is g sl long is e.begins 2 refl e.to_good) ∙ form.1 in
      let k : length is ≤ 5 = known-items (drop 98 g) (slice_drop 98 g sl) is e.begins type.Ping n in
      let last = trailing_is f.enr-seq e.more (omega arith) in (
        record {
          version = form.0;
          from = e.from_good;
          to = record { sized = e.to_good.sized; udp_fits = e.to_good.udp_fits; tcp_fits = omega arith };
          expiration = e.expiration_fits;
          enr-seq = e.enr_seq_fits;
        },
        same_body 1 h.type_byte (data-all (drop 98 g) (slice_drop 98 g sl) is e.begins type.Ping n)
            (λ i. ping_items (form.0 i) (endpoint (from_bytes f.from_address) f.from_udp f.from_tcp) (endpoint f.to_address f.to_udp (zero i)) f.expiration (last i)),
      )
  written (pong f) h n form =
      let e : PongEncoded (drop 98 g) f = h.begins in
      let is : List Item = pong_items (endpoint f.to_address f.to_udp e.to_tcp) f.ping-hash f.expiration (trailing f.enr-seq e.more) in
      let zero : e.to_tcp ≡ 0 = sym (tcp_is g sl long is e.begins 0 refl e.to_good) ∙ form in
      let k : length is ≤ 4 = known-items (drop 98 g) (slice_drop 98 g sl) is e.begins type.Pong n in
      let last = trailing_is f.enr-seq e.more (omega arith) in (
        record {
          to = record { sized = e.to_good.sized; udp_fits = e.to_good.udp_fits; tcp_fits = omega arith };
          hash = e.hash_sized;
          expiration = e.expiration_fits;
          enr-seq = e.enr_seq_fits;
        },
        same_body 2 h.type_byte (data-all (drop 98 g) (slice_drop 98 g sl) is e.begins type.Pong n)
            (λ i. pong_items (endpoint f.to_address f.to_udp (zero i)) f.ping-hash f.expiration (last i)),
      )
  written (find_node f) h n form =
      let e = h.begins in
      let is : List Item = find_node_items f.target f.expiration e.more in
      let k : length is ≤ 2 = known-items (drop 98 g) (slice_drop 98 g sl) is e.begins type.FindNode n in (
        record { target = e.target_sized; expiration = e.expiration_fits },
        same_body 3 h.type_byte (data-all (drop 98 g) (slice_drop 98 g sl) is e.begins type.FindNode n)
            (ap (find_node_items f.target f.expiration) (nil e.more (omega arith))),
      )
  written (neighbors f) h n form =
      let e = h.begins in
      let is : List Item = neighbors_items (map node_item f.nodes) f.expiration e.more in
      let k : length is ≤ 2 = known-items (drop 98 g) (slice_drop 98 g sl) is e.begins type.Neighbors n in (
        record { few = form; nodes = e.nodes_good; expiration = e.expiration_fits },
        same_body 4 h.type_byte (data-all (drop 98 g) (slice_drop 98 g sl) is e.begins type.Neighbors n)
            (ap (neighbors_items (map node_item f.nodes) f.expiration) (nil e.more (omega arith))),
      )
  written (enr_request f) h n form =
      let e = h.begins in
      let is : List Item = enr_request_items f.expiration e.more in
      let k : length is ≤ 1 = known-items (drop 98 g) (slice_drop 98 g sl) is e.begins type.EnrRequest n in (
        e.expiration_fits,
        same_body 5 h.type_byte (data-all (drop 98 g) (slice_drop 98 g sl) is e.begins type.EnrRequest n)
            (ap (enr_request_items f.expiration) (nil e.more (omega arith))),
      )
  written (enr_response f) h n form =
      let e : EnrResponseEncoded (drop 98 g) f = h.begins in
      let is : List Item = enr_response_items f.request-hash e.content e.more in
      let k : length is ≤ 2 = known-items (drop 98 g) (slice_drop 98 g sl) is e.begins type.EnrResponse n in
      let slices = slices-begun (drop 98 g) (slice_drop 98 g sl) is e.begins in
      let small : length e.content < 2 ^ 64 = omega (arith, slices.1.0.size) in
      let enr : Slice f.enr = record { bytes = rw e.enr_is (encode_bytes (list e.content) small slices.1.0.bytes); size = omega (arith, e.enr_sized) } in
      let ok : is_record f.enr ≡ true = (record_exactly f.enr enr).1 ((e.content, e.enr_is), e.enr_sized) in
      let inside : encode (list e.content) ≡ encode (list (content f.enr)) = sym e.enr_is ∙ sym (content_is f.enr enr ok) in
      let all = data-all (drop 98 g) (slice_drop 98 g sl) is e.begins type.EnrResponse n ∙ ap (λ (l : List Item). data_of (enr_response_items f.request-hash e.content l)) (nil e.more (omega arith)) in (
        record { can = both_true (eq-eqb (length f.request-hash) 32 e.hash_sized) ok; enr = enr },
        (λ i. h.type_byte i ∷ (all ∙ ap (λ (x : Bytes). encode (list (encode (string f.request-hash) ++ (x ++ [])))) inside) i),
      )

pub written_anew : WrittenAnew
written_anew g sl f w =
    let long = (sized g w.sized).0 in
    let r = written g sl long f ((acceptance g sl f).0 w.reads) w.nothing_after w.form in
    record { writable = r.0; same = joined g long w.hash (body_of f) r.1 }
