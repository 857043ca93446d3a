-- A packet is accepted with certain fields exactly if its data begins with the encoding of these fields.
use Prim.Native.Nat.{ℕ, zero, suc, ◌-◌, ◌≤◌, ◌<◌, ◌^◌}
use mathlib.Core.Path.{◌≡◌, refl, sym, ap, subst, ◌∙◌}
use mathlib.Core.Logic.{◌↔◌}
use mathlib.Core.Bool.{true}
use mathlib.Core.List.{List, [], ◌∷◌}
use native.Mathlib.Omega.{arith}
use lib.ListN.{length, get_or, drop, length-drop}
use Rattle.octets.specs.Octets.{Bytes, Slice}
use Rattle.rlp.specs.Encoding.{Item, string, list, encode, encodes, payload_of, Small}
use Rattle.rlp.proofs.Encoding.{small-first, small-rest}
use Rattle.packet_model.specs.Items.{uint, endpoint, ping_items, pong_items, find_node_items, enr_request_items, enr_response_items}
use Rattle.std.specs.Prelude.{Option, Some, None}
use Rattle.packet_model.specs.From.{From, from_bytes, is_from}
use Rattle.packet_schema.specs.Shapes.{Shapes, Begins, Accepted}
use Rattle.packet_span.specs.Parts.{bytes_of, moved}
use Rattle.packet_fields.specs.Spans.{span_of, item_span, uint_item, enr_seq_item}
use Rattle.packet.specs.Packets.{any_uint, schema_of, endpoint_of, sender_of, ping_of, pong_of, find_node_of, enr_request_of, enr_response_of, read_as}
use Rattle.packet.specs.Accepted.{trailing, SeqFits, from_of, PingFields, ping_fields, PingEncoded, PongFields, pong_fields, PongEncoded, FindNodeFields, find_node_fields, FindNodeEncoded, EnrRequestFields, enr_request_fields, EnrRequestEncoded, EnrResponseFields, enr_response_fields, EnrResponseEncoded}
use Rattle.packet.specs.declared.PacketType.TheVariants as type
use Rattle.packet.specs.declared.Packet.TheVariants as packet
use Rattle.packet.specs.declared.Parsed.TheVariants as parsed
use Rattle.packet.specs.declared.Ping.{Ping}
use Rattle.packet.specs.declared.Pong.{Pong}
use Rattle.packet.specs.declared.FindNode.{FindNode}
use Rattle.packet.specs.declared.EnrRequest.{EnrRequest}
use Rattle.packet.specs.declared.EnrResponse.{EnrResponse}
use Rattle.packet.proofs.Values.{bytes-is, uint-is, present-is, absent-is, whole_is, address_is, udp-is, tcp_is, from_is}
use Rattle.packet.proofs.Accepted.{bytes_from, payload, start, payload-lies, small_items, payload-items, both}

-- ---- the optional enr-seq

pub fits_64 : {n : ℕ} → n < 2 ^ 64 → n ≤ 2 ^ 64 - 1
fits_64 h = omega arith

pub fits-any : {n : ℕ} → n ≤ 2 ^ 64 - 1 → n < 2 ^ 64
fits-any h = omega arith

seq_shapes : (e : Option ℕ) (more : List Item) → SeqFits e → Shapes 0 (any_uint ∷ []) (trailing e more)
seq_shapes None more h = refl
seq_shapes (Some n) more h = (record { value = n; is = refl; fits = fits_64 h }, tt)

seq_found : (is : List Item) → Shapes 0 (any_uint ∷ []) is → (e : Option ℕ) × (more : List Item) × (is ≡ trailing e more) × SeqFits e
seq_found [] h = (None, [], refl, tt)
seq_found (i ∷ is) h = (Some h.0.value, is, ap (λ (x : Item). x ∷ is) h.0.is, fits-any h.0.fits)

-- each item of a small list is small
nth_small : (is : List Item) → Small is → (n : ℕ) → length (payload_of (get_or is n (string []))) < 2 ^ 64
nth_small [] h n = omega arith
nth_small (i ∷ is) h zero = small-first i is h
nth_small (i ∷ is) h (suc n) = nth_small is (small-rest i is h) n

get_d_of_drop : (is : List Item) (n : ℕ) {i : Item} {more : List Item} → drop n is ≡ i ∷ more → get_or is n (string []) ≡ i
get_d_of_drop [] zero q = absurd (omega (arith, ap length q))
get_d_of_drop [] (suc n) q = absurd (omega (arith, ap length q))
get_d_of_drop (j ∷ is) zero q = cc
get_d_of_drop (j ∷ is) (suc n) q = get_d_of_drop is n q

-- a field that must be there is there
pub missing : {n : ℕ} {A : Type 0} → suc n ≡ 0 → A
missing e = absurd (omega arith)

module _ (g : Bytes) (base : ℕ) (sl : Slice g) (fits : base ≤ length g) where
  abbrev d : Bytes
  d = bytes_from g base sl fits

  abbrev s : Bytes
  s = payload g base sl fits

  abbrev at : ℕ
  at = start g base sl fits

  -- what is read of the items that the data begins with
  module _ (is : List Item) (b : Begins d is) where
    small : Small is
    small = small_items g base sl fits is b

    items : s ≡ encodes is
    items = payload-items g base sl fits is b

    pub bytes-at : (n : ℕ) {i : Item} → get_or is n (string []) ≡ i → bytes_of g (moved at (span_of n s)) ≡ payload_of i
    bytes-at n e = bytes-is g at s is (payload-lies g base sl fits) items small n e

    pub uint-at : (n : ℕ) {v : ℕ} → get_or is n (string []) ≡ uint v → v < 2 ^ 64 → uint_item n s ≡ v
    uint-at n e h = uint-is g at s is (payload-lies g base sl fits) items small n e h

    record-at : (n : ℕ) {i : Item} → n < length is → get_or is n (string []) ≡ i → bytes_of g (moved at (item_span n s)) ≡ encode i
    record-at n l e = whole_is g at s is (payload-lies g base sl fits) items small n l e

    -- the endpoint that is item n
    module _ (n : ℕ) (a : Bytes) (u t : ℕ) (e : get_or is n (string []) ≡ endpoint a u t) where
      part_small : length (payload_of (endpoint a u t)) < 2 ^ 64
      part_small = subst (λ (i : Item). length (payload_of i) < 2 ^ 64) e (nth_small is small n)

      address-at : bytes_of g (endpoint_of at n s).address ≡ a
      address-at = address_is g at s is (payload-lies g base sl fits) items small n a u t e part_small

      udp-at : u ≤ 65535 → (endpoint_of at n s).udp ≡ u
      udp-at = udp-is g at s is (payload-lies g base sl fits) items small n a u t e part_small

      pub tcp-at : t ≤ 65535 → (endpoint_of at n s).tcp ≡ t
      tcp-at = tcp_is g at s is (payload-lies g base sl fits) items small n a u t e part_small

    from_at : (n : ℕ) (f : From) (u t : ℕ) → get_or is n (string []) ≡ endpoint (from_bytes f) u t → is_from f ≡ true → from_of g (sender_of at n s).address ≡ f
    from_at n f u t e h = from_is g at s is (payload-lies g base sl fits) items small n f u t e (part_small n (from_bytes f) u t e) h

    -- the enr-seq that is item n, after the first n
    seq-at : (n : ℕ) (e : Option ℕ) (more : List Item) → drop n is ≡ trailing e more → n ≤ length is → SeqFits e → enr_seq_item n s ≡ e
    seq-at n None more q l h =
        absent-is g at s is (payload-lies g base sl fits) items small n (omega (arith, ap length q, length-drop n is))
    seq-at n (Some v) more q l h =
        let first : get_or is n (string []) ≡ uint v = get_d_of_drop is n q in
        present-is g at s is (payload-lies g base sl fits) items small n (omega (arith, ap length q, length-drop n is)) first h

  -- ---- 1 Ping

  ping-found : Accepted 4 (schema_of type.Ping) d → (f : PingFields) × PingEncoded d f
  ping-found a = go a.items a.begins a.shapes
    where
      go : (is : List Item) → Begins d is → Shapes 4 (schema_of type.Ping) is → (f : PingFields) × PingEncoded d f
      go [] b h = missing h
      go (i ∷ []) b h = missing h.1
      go (i ∷ j ∷ []) b h = missing h.1.1
      go (i ∷ j ∷ k ∷ []) b h = missing h.1.1.1
      go (i ∷ j ∷ k ∷ l ∷ more) b h =
          let v = h.0 in
          let from = h.1.0 in
          let to = h.1.1.0 in
          let x = h.1.1.1.0 in
          let q = seq_found more h.1.1.1.1 in (
            record {
              version = v.value;
              from_address = from.from;
              from_udp = from.udp;
              from_tcp = from.tcp;
              to_address = to.address;
              to_udp = to.udp;
              expiration = x.value;
              enr-seq = q.0;
            },
            record {
              to_tcp = to.tcp;
              more = q.1;
              begins = subst (Begins d) (λ y. v.is y ∷ from.is y ∷ to.is y ∷ x.is y ∷ q.2 y) b;
              version_fits = fits-any v.fits;
              from_good = from.good;
              to_good = to.good;
              expiration_fits = fits-any x.fits;
              enr_seq_fits = q.3;
            },
          )

  ping-accepted' : (f : PingFields) → PingEncoded d f → Accepted 4 (schema_of type.Ping) d
  ping-accepted' f e =
      record {
        items = ping_items f.version (endpoint (from_bytes f.from_address) f.from_udp f.from_tcp) (endpoint f.to_address f.to_udp e.to_tcp) f.expiration (trailing f.enr-seq e.more);
        begins = e.begins;
        shapes = (
          record { value = f.version; is = refl; fits = fits_64 e.version_fits },
          (
            record { from = f.from_address; udp = f.from_udp; tcp = f.from_tcp; is = refl; good = e.from_good },
            (
              record { address = f.to_address; udp = f.to_udp; tcp = e.to_tcp; is = refl; good = e.to_good },
              (record { value = f.expiration; is = refl; fits = fits_64 e.expiration_fits }, seq_shapes f.enr-seq e.more e.enr_seq_fits),
            ),
          ),
        );
      }

  ping-values : (f : PingFields) → PingEncoded d f → ping_fields g (ping_of at s) ≡ f
  unfolding ping_of
  ping-values f e =
      let b = e.begins in
      let a : Bytes = from_bytes f.from_address in
      λ i. record {
        version = uint-at _ b 0 refl e.version_fits i;
        from_address = from_at _ b 1 f.from_address f.from_udp f.from_tcp refl e.from_good.sized i;
        from_udp = udp-at _ b 1 a f.from_udp f.from_tcp refl e.from_good.udp_fits i;
        from_tcp = tcp-at _ b 1 a f.from_udp f.from_tcp refl e.from_good.tcp_fits i;
        to_address = address-at _ b 2 f.to_address f.to_udp e.to_tcp refl i;
        to_udp = udp-at _ b 2 f.to_address f.to_udp e.to_tcp refl e.to_good.udp_fits i;
        expiration = uint-at _ b 3 refl e.expiration_fits i;
        enr-seq = seq-at _ b 4 f.enr-seq e.more refl (omega arith) e.enr_seq_fits i;
      }

  pub ping-accepted : (f : PingFields) → ((p : Ping) × (read_as type.Ping base d ≡ parsed.Packet (packet.Ping p)) × (ping_fields g p ≡ f)) ↔ PingEncoded d f
  ping-accepted =
      both g base sl fits type.Ping packet.Ping (λ p q e. cc) (ping_of at s) refl (ping_fields g) (PingEncoded d) ping-found ping-accepted' ping-values

  -- ---- 2 Pong

  pong-found : Accepted 3 (schema_of type.Pong) d → (f : PongFields) × PongEncoded d f
  pong-found a = go a.items a.begins a.shapes
    where
      go : (is : List Item) → Begins d is → Shapes 3 (schema_of type.Pong) is → (f : PongFields) × PongEncoded d f
      go [] b h = missing h
      go (i ∷ []) b h = missing h.1
      go (i ∷ j ∷ []) b h = missing h.1.1
      go (i ∷ j ∷ k ∷ more) b h =
          let to = h.0 in
          let hash = h.1.0 in
          let x = h.1.1.0 in
          let q = seq_found more h.1.1.1 in (
            record { to_address = to.address; to_udp = to.udp; ping-hash = hash.bytes; expiration = x.value; enr-seq = q.0 },
            record {
              to_tcp = to.tcp;
              more = q.1;
              begins = subst (Begins d) (λ y. to.is y ∷ hash.is y ∷ x.is y ∷ q.2 y) b;
              to_good = to.good;
              hash_sized = hash.sized;
              expiration_fits = fits-any x.fits;
              enr_seq_fits = q.3;
            },
          )

  pong-accepted' : (f : PongFields) → PongEncoded d f → Accepted 3 (schema_of type.Pong) d
  pong-accepted' f e =
      record {
        items = pong_items (endpoint f.to_address f.to_udp e.to_tcp) f.ping-hash f.expiration (trailing f.enr-seq e.more);
        begins = e.begins;
        shapes = (
          record { address = f.to_address; udp = f.to_udp; tcp = e.to_tcp; is = refl; good = e.to_good },
          (
            record { bytes = f.ping-hash; is = refl; sized = e.hash_sized },
            (record { value = f.expiration; is = refl; fits = fits_64 e.expiration_fits }, seq_shapes f.enr-seq e.more e.enr_seq_fits),
          ),
        );
      }

  pong-values : (f : PongFields) → PongEncoded d f → pong_fields g (pong_of at s) ≡ f
  unfolding pong_of
  pong-values f e =
      let b = e.begins in
      λ i. record {
        to_address = address-at _ b 0 f.to_address f.to_udp e.to_tcp refl i;
        to_udp = udp-at _ b 0 f.to_address f.to_udp e.to_tcp refl e.to_good.udp_fits i;
        ping-hash = bytes-at _ b 1 refl i;
        expiration = uint-at _ b 2 refl e.expiration_fits i;
        enr-seq = seq-at _ b 3 f.enr-seq e.more refl (omega arith) e.enr_seq_fits i;
      }

  pub pong-accepted : (f : PongFields) → ((p : Pong) × (read_as type.Pong base d ≡ parsed.Packet (packet.Pong p)) × (pong_fields g p ≡ f)) ↔ PongEncoded d f
  pong-accepted =
      both g base sl fits type.Pong packet.Pong (λ p q e. cc) (pong_of at s) refl (pong_fields g) (PongEncoded d) pong-found pong-accepted' pong-values

  -- ---- 5 ENRRequest

  request-found : Accepted 1 (schema_of type.EnrRequest) d → (f : EnrRequestFields) × EnrRequestEncoded d f
  request-found a = go a.items a.begins a.shapes
    where
      go : (is : List Item) → Begins d is → Shapes 1 (schema_of type.EnrRequest) is → (f : EnrRequestFields) × EnrRequestEncoded d f
      go [] b h = missing h
      go (i ∷ more) b h = (
        record { expiration = h.0.value },
        record {
          more = more;
          begins = subst (λ (x : Item). Begins d (x ∷ more)) h.0.is b;
          expiration_fits = fits-any h.0.fits;
        },
      )

  request-accepted : (f : EnrRequestFields) → EnrRequestEncoded d f → Accepted 1 (schema_of type.EnrRequest) d
  request-accepted f e =
      record {
        items = enr_request_items f.expiration e.more;
        begins = e.begins;
        shapes = (record { value = f.expiration; is = refl; fits = fits_64 e.expiration_fits }, tt);
      }

  request-values : (f : EnrRequestFields) → EnrRequestEncoded d f → enr_request_fields (enr_request_of s) ≡ f
  unfolding enr_request_of
  request-values f e = λ i. record { expiration = uint-at _ e.begins 0 refl e.expiration_fits i }

  pub enr-request-accepted : (f : EnrRequestFields) → ((p : EnrRequest) × (read_as type.EnrRequest base d ≡ parsed.Packet (packet.EnrRequest p)) × (enr_request_fields p ≡ f)) ↔ EnrRequestEncoded d f
  enr-request-accepted =
      both g base sl fits type.EnrRequest packet.EnrRequest (λ p q e. cc) (enr_request_of s) refl enr_request_fields (EnrRequestEncoded d) request-found request-accepted request-values

  -- ---- 3 FindNode

  find-found : Accepted 2 (schema_of type.FindNode) d → (f : FindNodeFields) × FindNodeEncoded d f
  find-found a = go a.items a.begins a.shapes
    where
      go : (is : List Item) → Begins d is → Shapes 2 (schema_of type.FindNode) is → (f : FindNodeFields) × FindNodeEncoded d f
      go [] b h = missing h
      go (i ∷ []) b h = missing h.1
      go (i ∷ j ∷ more) b h = (
        record { target = h.0.bytes; expiration = h.1.0.value },
        record {
          more = more;
          begins = subst (Begins d) (λ x. h.0.is x ∷ h.1.0.is x ∷ more) b;
          target_sized = h.0.sized;
          expiration_fits = fits-any h.1.0.fits;
        },
      )

  find-accepted : (f : FindNodeFields) → FindNodeEncoded d f → Accepted 2 (schema_of type.FindNode) d
  find-accepted f e =
      record {
        items = find_node_items f.target f.expiration e.more;
        begins = e.begins;
        shapes = (
          record { bytes = f.target; is = refl; sized = e.target_sized },
          (record { value = f.expiration; is = refl; fits = fits_64 e.expiration_fits }, tt),
        );
      }

  find-values : (f : FindNodeFields) → FindNodeEncoded d f → find_node_fields g (find_node_of at s) ≡ f
  unfolding find_node_of
  find-values f e =
      λ i. record { target = bytes-at _ e.begins 0 refl i; expiration = uint-at _ e.begins 1 refl e.expiration_fits i }

  pub find-node-accepted : (f : FindNodeFields) → ((p : FindNode) × (read_as type.FindNode base d ≡ parsed.Packet (packet.FindNode p)) × (find_node_fields g p ≡ f)) ↔ FindNodeEncoded d f
  find-node-accepted =
      both g base sl fits type.FindNode packet.FindNode (λ p q e. cc) (find_node_of at s) refl (find_node_fields g) (FindNodeEncoded d) find-found find-accepted find-values

  -- ---- 6 ENRResponse

  response-found : Accepted 2 (schema_of type.EnrResponse) d → (f : EnrResponseFields) × EnrResponseEncoded d f
  response-found a = go a.items a.begins a.shapes
    where
      go : (is : List Item) → Begins d is → Shapes 2 (schema_of type.EnrResponse) is → (f : EnrResponseFields) × EnrResponseEncoded d f
      go [] b h = missing h
      go (i ∷ []) b h = missing h.1
      go (i ∷ j ∷ more) b h = (
        record { request-hash = h.0.bytes; enr = encode (list h.1.0.content) },
        record {
          content = h.1.0.content;
          more = more;
          begins = subst (Begins d) (λ x. h.0.is x ∷ h.1.0.is x ∷ more) b;
          enr_is = refl;
          hash_sized = h.0.sized;
          enr_sized = h.1.0.sized;
        },
      )

  response-accepted : (f : EnrResponseFields) → EnrResponseEncoded d f → Accepted 2 (schema_of type.EnrResponse) d
  response-accepted f e =
      record {
        items = enr_response_items f.request-hash e.content e.more;
        begins = e.begins;
        shapes = (
          record { bytes = f.request-hash; is = refl; sized = e.hash_sized },
          (record { content = e.content; is = refl; sized = subst (λ (x : Bytes). length x ≤ 300) e.enr_is e.enr_sized }, tt),
        );
      }

  response-values : (f : EnrResponseFields) → EnrResponseEncoded d f → enr_response_fields g (enr_response_of at s) ≡ f
  unfolding enr_response_of
  response-values f e =
      let r = record-at _ e.begins 1 (omega arith) refl ∙ sym e.enr_is in
      λ i. record { request-hash = bytes-at _ e.begins 0 refl i; enr = r i }

  pub enr-response-accepted : (f : EnrResponseFields) → ((p : EnrResponse) × (read_as type.EnrResponse base d ≡ parsed.Packet (packet.EnrResponse p)) × (enr_response_fields g p ≡ f)) ↔ EnrResponseEncoded d f
  enr-response-accepted =
      both g base sl fits type.EnrResponse packet.EnrResponse (λ p q e. cc) (enr_response_of at s) refl (enr_response_fields g) (EnrResponseEncoded d) response-found response-accepted response-values
