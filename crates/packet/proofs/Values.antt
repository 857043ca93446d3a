-- The values that are read of a payload whose items are known.
use Prim.Native.Nat.{ℕ, suc, ◌+◌, ◌≤◌, ◌<◌, ◌^◌}
use Rattle.std.specs.Prelude.{Some, None}
use mathlib.Core.Path.{◌≡◌, refl, sym, ap, ◌∙◌}
use mathlib.Core.Bool.{true}
use mathlib.Core.List.{List, [], ◌∷◌, ◌++◌}
use native.Mathlib.Omega.{arith}
use borrow.Author.Tests.{le-leb, lt-ltb, le-ltb, eq-eqb, ne_eqb}
use lib.ListN.{length, take, drop, get_or, length-drop}
use lib.Seq.{drop-cons, take-append_seam}
use Rattle.octets.specs.Octets.{Bytes, part}
use Rattle.octets.proofs.Laws.{length_part, part-part, part_rest}
use Rattle.rlp.specs.Encoding.{Item, string, list, encode, encodes, payload_of, Small}
use Rattle.rlp.specs.Reading.{head, extent, offset, count, uint_of}
use Rattle.rlp.proofs.Encoding.{read_item, read_payload, encode-length, uint_read, count-encodes, offset-encodes, nth_item}
use Rattle.packet_model.specs.Items.{data_of, uint, endpoint}
use Rattle.std.specs.Prelude.{Some, None}
use Rattle.packet_kinds.specs.Payload.{items_of}
use Rattle.packet_model.specs.From.{From, unknown, known, from_bytes, is_from}
use Rattle.packet_model.proofs.From.{address_range}
use Rattle.packet_schema.specs.Shapes.{Begins}
use Rattle.packet_kinds.proofs.Payload.{items_item, items_encodes}
use Rattle.packet_span.specs.Parts.{bytes_of, moved}
use Rattle.packet_fields.specs.Spans.{span_of, item_span, item_at, value_of, uint_item, port_item, enr_seq_item}
use Rattle.packet.specs.Packets.{endpoint_of, sender_of, said}
use Rattle.packet.specs.Accepted.{from_of}
use Rattle.packet_span.specs.declared.Span.{Span}
use Rattle.packet_span.proofs.Parts.{bytes_in}
use Rattle.packet_fields.proofs.Spans.{span-bound, item-span-bound, span_payload}

span-length : (n : ℕ) (s : Bytes) → length (bytes_of s (span_of n s)) ≡ (span_of n s).len
span-length n s =
    let sp : Span = span_of n s in
    ap length (bytes_in s sp (span-bound n s)) ∙ length_part s sp.start sp.len (span-bound n s)

-- s is the bytes of g from `at` on
pub record Lies (g : Bytes) (at : ℕ) (s : Bytes) : Type 0 where
  pub inside : at + length s ≤ length g
  pub bytes : part g at (length s) ≡ s

pub lies_drop : (g : Bytes) (at : ℕ) → at ≤ length g → Lies g at (drop at g)
lies_drop g at h =
    let l = length-drop at g in
    record { inside = omega arith; bytes = ap (part g at) l ∙ part_rest g at }

module _ (g : Bytes) (at : ℕ) (s : Bytes) (lies : Lies g at s) where
  -- a span inside s names the same bytes of g
  pub lies-span : (span : Span) → span.start + span.len ≤ length s → bytes_of g (moved at span) ≡ bytes_of s span
  lies-span span h =
      bytes_in g (moved at span) (omega (arith, lies.inside))
      ∙ sym (part-part g at (length s) span.start span.len h)
      ∙ ap (λ (x : Bytes). part x span.start span.len) lies.bytes
      ∙ sym (bytes_in s span h)

  pub lies-payload : (n : ℕ) → bytes_of g (moved at (span_of n s)) ≡ payload_of (item_at n s)
  lies-payload n = lies-span (span_of n s) (span-bound n s) ∙ span_payload n s

  pub lies-inner : (n : ℕ) → Lies g (at + (span_of n s).start) (bytes_of s (span_of n s))
  lies-inner n =
      let sp : Span = span_of n s in
      let b = span-bound n s in
      let l : length (bytes_of s sp) ≡ sp.len = span-length n s in
      let i : at + sp.start + sp.len ≤ length g = omega (arith, lies.inside) in
      record {
        inside = omega arith;
        bytes = ap (part g (at + sp.start)) l ∙ sym (bytes_in g (moved at sp) i) ∙ lies-span sp b;
      }

-- a payload whose items are known
module _ (g : Bytes) (at : ℕ) (s : Bytes) (is : List Item) (lies : Lies g at s) (items : s ≡ encodes is) (small : Small is) where
  pub item_is : (n : ℕ) → item_at n s ≡ get_or is n (string [])
  item_is n = ap (λ (l : List Item). get_or l n (string [])) (ap items_of items ∙ items_encodes is small)

  pub bytes-is : (n : ℕ) {i : Item} → get_or is n (string []) ≡ i → bytes_of g (moved at (span_of n s)) ≡ payload_of i
  bytes-is n e = lies-payload g at s lies n ∙ ap payload_of (item_is n ∙ e)

  pub uint-is : (n : ℕ) {v : ℕ} → get_or is n (string []) ≡ uint v → v < 2 ^ 64 → uint_item n s ≡ v
  unfolding uint_item
  uint-is n {v} e h = ap (λ (i : Item). value_of (uint_of (payload_of i))) (item_is n ∙ e) ∙ ap value_of (uint_read v h)

  pub port-is : (n : ℕ) {v : ℕ} → get_or is n (string []) ≡ uint v → v ≤ 65535 → port_item n s ≡ v
  unfolding port_item
  port-is n {v} e h = rw (uint-is n e (omega arith), le-leb v 65535 h)

  pub present-is : (n : ℕ) {v : ℕ} → n < length is → get_or is n (string []) ≡ uint v → v < 2 ^ 64 → enr_seq_item n s ≡ Some v
  unfolding enr_seq_item
  present-is n {v} l e h =
      let c : count s ≡ length is = ap count items ∙ count-encodes is small in
      rw (c, lt-ltb n (length is) l) (ap Some (uint-is n e h))

  pub absent-is : (n : ℕ) → length is ≤ n → enr_seq_item n s ≡ None
  unfolding enr_seq_item
  absent-is n l =
      let c : count s ≡ length is = ap count items ∙ count-encodes is small in
      rw (c, le-ltb n (length is) l)

  -- an item with its header
  pub whole_is : (n : ℕ) {i : Item} → n < length is → get_or is n (string []) ≡ i → bytes_of g (moved at (item_span n s)) ≡ encode i
  unfolding item_span part
  whole_is n {i} l e =
      let r = nth_item n is (string []) small l in
      let j : Item = get_or is n (string []) in
      let o : Bytes = drop (offset n (encodes is)) (encodes is) in
      let k : extent (head o) ≡ length (encode j) = ap extent r.header ∙ sym (encode-length j) in
      lies-span g at s lies (item_span n s) (item-span-bound n s)
      ∙ bytes_in s (item_span n s) (item-span-bound n s)
      ∙ ap (λ (x : Bytes). take (extent (head (drop (offset n x) x))) (drop (offset n x) x)) items
      ∙ ap (λ (m : ℕ). take m o) k
      ∙ ap (take (length (encode j))) (offset-encodes n is small ∙ ap encodes (drop-cons is n (string []) l))
      ∙ take-append_seam (encode j) (encodes (drop (suc n) is))
      ∙ ap encode e

-- the payload of packet data
pub data_payload : (d : Bytes) (is : List Item) → Small is → Begins d is → bytes_of d (span_of 0 d) ≡ encodes is
data_payload d is small b =
    let i : Item = list (encodes is) in
    span_payload 0 d
    ∙ ap (λ (x : Bytes). payload_of (item_at 0 x)) b.begins
    ∙ ap (λ (l : List Item). payload_of (get_or l 0 (string []))) (items_item (data_of is ++ b.rest) (read_item i b.rest small))
    ∙ read_payload i b.rest

-- an endpoint that is item n
module _ (g : Bytes) (at : ℕ) (s : Bytes) (is : List Item) (lies : Lies g at s) (items : s ≡ encodes is) (small : Small is) (n : ℕ) (a : Bytes) (u t : ℕ)
    (is-endpoint : get_or is n (string []) ≡ endpoint a u t) (fits : length (payload_of (endpoint a u t)) < 2 ^ 64) where
  parts : List Item
  parts = string a ∷ uint u ∷ uint t ∷ []

  e : Bytes
  e = bytes_of s (span_of n s)

  inner : e ≡ encodes parts
  unfolding e parts
  inner = span_payload n s ∙ ap payload_of (item_is g at s is lies items small n ∙ is-endpoint)

  there : Lies g (at + (span_of n s).start) e
  unfolding e
  there = lies-inner g at s lies n

  small-parts : Small parts
  unfolding parts
  small-parts = fits

  pub address_is : bytes_of g (endpoint_of at n s).address ≡ a
  unfolding endpoint_of e parts
  address_is = bytes-is g (at + (span_of n s).start) e parts there inner small-parts 0 refl

  pub udp-is : u ≤ 65535 → (endpoint_of at n s).udp ≡ u
  unfolding endpoint_of e parts
  udp-is h = port-is g (at + (span_of n s).start) e parts there inner small-parts 1 refl h

  pub tcp_is : t ≤ 65535 → (endpoint_of at n s).tcp ≡ t
  unfolding endpoint_of e parts
  tcp_is h = port-is g (at + (span_of n s).start) e parts there inner small-parts 2 refl h

  -- the span of its address has the address's size
  len_is : (endpoint_of at n s).address.len ≡ length a
  unfolding endpoint_of e parts
  len_is = sym (span-length 0 e) ∙ ap length (span_payload 0 e ∙ ap payload_of (item_is g (at + (span_of n s).start) e parts there inner small-parts 0))

said_unknown : (a : Span) → a.len ≡ 0 → said a ≡ None
said_unknown a h = rw (eq-eqb a.len 0 h)

said_known : (a : Span) → 0 < a.len → said a ≡ Some a
said_known a h = rw (ne_eqb a.len 0 (λ e. omega arith))

-- a span says `f` if it has the bytes and the size of `f`
said_is : (g : Bytes) (a : Span) (f : From) → is_from f ≡ true → a.len ≡ length (from_bytes f) → bytes_of g a ≡ from_bytes f → from_of g (said a) ≡ f
said_is g a unknown h l b = ap (from_of g) (said_unknown a l)
said_is g a (known x) h l b = ap (from_of g) (said_known a (omega (arith, address_range (length x) h))) ∙ ap known b

-- the address in `from` that is item n
pub from_is : (g : Bytes) (at : ℕ) (s : Bytes) (is : List Item) → Lies g at s → s ≡ encodes is → Small is → (n : ℕ) (f : From) (u t : ℕ)
    → get_or is n (string []) ≡ endpoint (from_bytes f) u t → length (payload_of (endpoint (from_bytes f) u t)) < 2 ^ 64 → is_from f ≡ true → from_of g (sender_of at n s).address ≡ f
from_is g at s is lies items small n f u t e fits h =
    said_is g (endpoint_of at n s).address f h (len_is g at s is lies items small n (from_bytes f) u t e fits) (address_is g at s is lies items small n (from_bytes f) u t e fits)
