-- `packet_bodies::put_keyed` meets its contract. Assumes nothing.
use Prim.Native.Nat.{ℕ, ◌+◌, ◌≤◌}
use mathlib.Core.Path.{◌≡◌, ap, sym, ◌∙◌}
use mathlib.Core.Bool.{true}
use mathlib.Core.List.{List, [], ◌∷◌, ◌++◌}
use native.Mathlib.Omega.{arith}
use lib.ListN.{length}
use Rattle.octets.specs.Octets.{Bytes}
use Rattle.node.specs.Nodes.{is_address}
use Rattle.rlp.specs.Encoding.{header, encode, encodes, string}
use Rattle.packet_model.specs.Items.{node}
use Rattle.packet_model.proofs.From.{address_sender}
use Rattle.packet_bodies.specs.Parts.{endpoint_items}
use Rattle.octets.proofs.Progress.{Progress, concat, start, room, step, finish}
use Rattle.packet_bodies.proofs.Sizes.{framed, keyed, keyed-size, encodes-append}
use Rattle.packet_bodies.proofs.put_keyed.Goals as goal

pub fields_size-size-requires : goal.fields_size-size-requires
fields_size-size-requires c = address_sender c.args.address.now c.requires.0

module _ (address key : Bytes) (udp tcp size : ℕ) where
  -- the record in the pieces that are written one after the other; the endpoint's fields have `size` bytes
  abbrev pieces : List Bytes
  pieces = header 0xc0 (size + 66) ∷ encodes (endpoint_items address udp tcp) ∷ encode (string key) ∷ []

  pieces_are : is_address address ≡ true → length key ≡ 64 → size ≡ length (encodes (endpoint_items address udp tcp)) → concat pieces ≡ encode (node address udp tcp key)
  pieces_are is_one is_key is =
      ap (λ (x : Bytes). header 0xc0 (size + 66) ++ x) (sym (encodes-append (endpoint_items address udp tcp) (string key ∷ [])))
      ∙ framed (size + 66) (encodes (keyed address udp tcp key)) (omega (arith, is, keyed-size address udp tcp key is_one is_key))

  -- none is written yet
  begun : {buf : Bytes} {at : ℕ} → concat pieces ≡ encode (node address udp tcp key) → at + length (encode (node address udp tcp key)) ≤ length buf → Progress buf at pieces pieces buf at
  begun {buf} {at} e h = start buf at pieces (omega (arith, ap length e, h))

pub write_header-a-requires : goal.write_header-a-requires
write_header-a-requires c = let a = c.args in
    let are = pieces_are a.address.now a.key.now a.udp a.tcp c.fields_size-size.result c.requires.0 c.requires.1 c.fields_size-size.ensures.0 in
    let p₀ = begun a.address.now a.key.now a.udp a.tcp c.fields_size-size.result are c.requires.2 in
    (omega arith, room p₀)

pub put_fields-b-requires : goal.put_fields-b-requires
put_fields-b-requires c = let a = c.args in
    let are = pieces_are a.address.now a.key.now a.udp a.tcp c.fields_size-size.result c.requires.0 c.requires.1 c.fields_size-size.ensures.0 in
    let p₀ = begun a.address.now a.key.now a.udp a.tcp c.fields_size-size.result are c.requires.2 in
    let p₁ = step p₀ (c.write_header-a.ensures.next, c.write_header-a.ensures.bytes) in
    room p₁

pub write_string-requires : goal.write_string-requires
write_string-requires c = let a = c.args in
    let are = pieces_are a.address.now a.key.now a.udp a.tcp c.fields_size-size.result c.requires.0 c.requires.1 c.fields_size-size.ensures.0 in
    let p₀ = begun a.address.now a.key.now a.udp a.tcp c.fields_size-size.result are c.requires.2 in
    let p₁ = step p₀ (c.write_header-a.ensures.next, c.write_header-a.ensures.bytes) in
    let p₂ = step p₁ (c.put_fields-b.ensures.next, c.put_fields-b.ensures.bytes) in
    room p₂

pub returns : goal.returns
returns c = let a = c.args in
    let are = pieces_are a.address.now a.key.now a.udp a.tcp c.fields_size-size.result c.requires.0 c.requires.1 c.fields_size-size.ensures.0 in
    let p₀ = begun a.address.now a.key.now a.udp a.tcp c.fields_size-size.result are c.requires.2 in
    let p₁ = step p₀ (c.write_header-a.ensures.next, c.write_header-a.ensures.bytes) in
    let p₂ = step p₁ (c.put_fields-b.ensures.next, c.put_fields-b.ensures.bytes) in
    let p₃ = step p₂ (c.write_string.ensures.next, c.write_string.ensures.bytes) in
    let w = finish p₃ are in record { next = w.0; bytes = w.1 }
