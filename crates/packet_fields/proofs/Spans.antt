-- Laws of items by their number.
use Prim.Native.Nat.{ℕ, zero, suc, ◌+◌, ◌-◌, ◌≤◌}
use Rattle.std.specs.Prelude.{Option, Some, None}
use mathlib.Core.Path.{◌≡◌, refl, sym, ap, subst, ◌∙◌}
use mathlib.Core.Bool.{Bool}
use mathlib.Core.List.{List, []}
use native.Mathlib.Nat.{add_assoc, zero-add}
use native.Mathlib.Omega.{arith}
use lib.ListN.{length, take, drop, get_or, length-drop, length-take, length-map, get_or-map}
use lib.Seq.{drop-drop}
use Rattle.octets.specs.Octets.{Bytes, part}
use Rattle.rlp.specs.Encoding.{Item, string, payload_of}
use Rattle.rlp.specs.Reading.{item, head, extent, offset, count, uint_of}
use Rattle.rlp.proofs.Cases.{by_leb}
use Rattle.rlp.proofs.Reading.{InBounds, head-bounds, offset_bound, offset_broken}
use Rattle.rlp.specs.declared.Item as read
use Rattle.packet_kinds.specs.Payload.{items_of}
use Rattle.packet_kinds.proofs.Payload.{items_item, items_broken, payload_is, count_items}
use Rattle.packet_span.specs.Parts.{bytes_of, moved}
use Rattle.packet_span.specs.declared.Span.{Span}
use Rattle.packet_span.proofs.Parts.{bytes_in}
use Rattle.packet_fields.specs.Spans.{payload_span, span_of, item_span, item_at, value_of, uint_item, node_of, nodes_of, node_at}

module _ (n : ℕ) (s : Bytes) where
  pub span-is : {at : ℕ} {h : Option read.Item} → at ≡ offset n s → head (drop at s) ≡ h → payload_span h at ≡ span_of n s
  unfolding span_of
  span-is {at} {h} a e = rw (← e, a)

  -- item n with its header, by its payload
  span-after : offset n s ≤ (span_of n s).start
  unfolding span_of
  span-after = go (head (drop (offset n s) s))
    where
      go : (h : Option read.Item) → offset n s ≤ (payload_span h (offset n s)).start
      go (Some i) = omega arith
      go None = omega arith

  pub payload-after : (span : Span) → span ≡ span_of n s → offset n s ≤ span.start + span.len
  payload-after span e = omega (arith, ap (λ (x : Span). x.start) e, span-after)

  whole-extent : (span_of n s).start + (span_of n s).len - offset n s ≡ extent (head (drop (offset n s) s))
  unfolding span_of
  whole-extent = go (head (drop (offset n s) s))
    where
      go : (h : Option read.Item) → (payload_span h (offset n s)).start + (payload_span h (offset n s)).len - offset n s ≡ extent h
      go (Some i) = omega arith
      go None = omega arith

  pub item-span-is : {at : ℕ} {p : Span} → at ≡ offset n s → p ≡ span_of n s → record { start = at; len = p.start + p.len - at } ≡ item_span n s
  unfolding item_span
  item-span-is {at} {p} a e = rw (a, e, whole-extent)

  -- the payload of item n lies inside s
  pub span-bound : (span_of n s).start + (span_of n s).len ≤ length s
  unfolding span_of
  span-bound = go (head (drop (offset n s) s)) (head-bounds (drop (offset n s) s))
    where
      go : (h : Option read.Item) → InBounds (drop (offset n s) s) h → (payload_span h (offset n s)).start + (payload_span h (offset n s)).len ≤ length s
      go (Some i) b = omega (arith, b.1, length-drop (offset n s) s, offset_bound n s)
      go None b = omega (arith, offset_bound n s)

  pub span_fits : (span : Span) → span ≡ span_of n s → span.start + span.len ≤ length s
  span_fits span e = subst (λ (x : Span). x.start + x.len ≤ length s) (sym e) span-bound

  pub item-span-bound : (item_span n s).start + (item_span n s).len ≤ length s
  unfolding item_span
  item-span-bound = go (head (drop (offset n s) s)) (head-bounds (drop (offset n s) s))
    where
      go : (h : Option read.Item) → InBounds (drop (offset n s) s) h → offset n s + extent h ≤ length s
      go (Some i) b = omega (arith, b.1, length-drop (offset n s) s, offset_bound n s)
      go None b = omega (arith, offset_bound n s)

  pub item-span-fits : (span : Span) → span ≡ item_span n s → span.start + span.len ≤ length s
  item-span-fits span e = subst (λ (x : Span). x.start + x.len ≤ length s) (sym e) item-span-bound

pub length_bytes : (s : Bytes) (span : Span) → length (bytes_of s span) ≤ span.len
unfolding part
length_bytes s span =
    by_leb (λ (b : Bytes). length b ≤ span.len) (span.start + span.len) (length s)
    (λ _. omega (arith, length-take span.len (drop span.start s)))
    (λ _. omega arith)

-- an item of item n lies inside s
pub inner_fits : (n m : ℕ) (s : Bytes) (span inner : Span) (e : Bytes) → span ≡ span_of n s → e ≡ bytes_of s span → inner ≡ span_of m e → span.start + inner.start + inner.len ≤ length s
inner_fits n m s span inner e is bytes i =
    omega (arith, span_fits n s span is, span_fits m e inner i, ap length bytes, length_bytes s span)

payload_moved : (h : Option read.Item) (by at : ℕ) → payload_span h (by + at) ≡ moved by (payload_span h at)
payload_moved (Some i) by at = ap (λ (k : ℕ). record { start = k; len = i.size }) (add_assoc by at i.skip)
payload_moved None by at = refl

-- item n after the first
span_next : (n : ℕ) (s : Bytes) {l : Bool} {skip size : ℕ} → head s ≡ item l skip size → span_of (suc n) s ≡ moved (skip + size) (span_of n (drop (skip + size) s))
unfolding span_of
span_next n s {l} {skip} {size} e =
    let m : ℕ = skip + size in
    let o : ℕ = offset n (drop m s) in
    let q : offset (suc n) s ≡ m + o = rw e in
    ap (λ (k : ℕ). payload_span (head (drop k s)) k) q
    ∙ ap (λ (t : Bytes). payload_span (head t) (m + o)) (sym (drop-drop o m s))
    ∙ payload_moved (head (drop o (drop m s))) m o

abbrev At : Bytes → Span → Bytes
At s span = part s span.start span.len

span_none : (n : ℕ) (s : Bytes) → head s ≡ None → At s (span_of n s) ≡ payload_of (item_at n s)
unfolding span_of part
span_none n s e = rw (offset_broken s n e, e, items_broken s e)

span-first : (s : Bytes) {l : Bool} {skip size : ℕ} → head s ≡ item l skip size → At s (span_of 0 s) ≡ payload_of (item_at 0 s)
unfolding span_of
span-first s {l} {skip} {size} e = rw (e, items_item s e, zero-add skip, payload_is l (part s skip size))

span-part : (n : ℕ) (s : Bytes) → At s (span_of n s) ≡ payload_of (item_at n s)
unfolding part
span-part zero s = go (head s) refl
  where
    go : (h : Option read.Item) → head s ≡ h → At s (span_of 0 s) ≡ payload_of (item_at 0 s)
    go (Some i) e = span-first s e
    go None e = span_none 0 s e
span-part (suc n) s = go (head s) refl (λ k. span-part n (drop k s))
  where
    go : (h : Option read.Item) → head s ≡ h → ((k : ℕ) → At (drop k s) (span_of n (drop k s)) ≡ payload_of (item_at n (drop k s))) → At s (span_of (suc n) s) ≡ payload_of (item_at (suc n) s)
    go (Some i) e rest =
        let m : ℕ = i.skip + i.size in
        let sp : Span = span_of n (drop m s) in
        ap (At s) (span_next n s e)
        ∙ ap (take sp.len) (sym (drop-drop sp.start m s))
        ∙ rest m
        ∙ ap (λ (is : List Item). payload_of (get_or is (suc n) (string []))) (sym (items_item s e))
    go None e rest = span_none (suc n) s e

-- the bytes of the span of item n are its payload
pub span_payload : (n : ℕ) (s : Bytes) → bytes_of s (span_of n s) ≡ payload_of (item_at n s)
span_payload n s = bytes_in s (span_of n s) (span-bound n s) ∙ span-part n s

-- what was read of the payload of item n
module _ (n : ℕ) (s : Bytes) (span : Span) (p : Bytes) (is : span ≡ span_of n s) (e : p ≡ bytes_of s span) where
  pub payload-read : p ≡ payload_of (item_at n s)
  payload-read = e ∙ ap (bytes_of s) is ∙ span_payload n s

  pub uint_read : {u : Option ℕ} → u ≡ uint_of p → value_of u ≡ uint_item n s
  unfolding uint_item
  uint_read f = ap value_of (f ∙ ap uint_of payload-read)

pub nodes-count : (s : Bytes) → count s ≡ length (nodes_of s)
nodes-count s = count_items s ∙ sym (length-map (items_of s) (λ (i : Item). node_of (payload_of i)))

pub node_read : (n : ℕ) (s : Bytes) (span : Span) (p : Bytes) → span ≡ span_of n s → p ≡ bytes_of s span → node_of p ≡ node_at n s
node_read n s span p is e =
    ap node_of (payload-read n s span p is e) ∙ sym (get_or-map (λ (i : Item). node_of (payload_of i)) (items_of s) n (string []))
