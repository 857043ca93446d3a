-- `packet_bodies::put_endpoint` meets its contract. Assumes nothing.
use mathlib.Core.Path.{◌≡◌, ap, ◌∙◌}
use mathlib.Core.List.{List, [], ◌∷◌, ◌++◌, append-nil}
use native.Mathlib.Omega.{arith}
use lib.ListN.{length}
use Rattle.octets.specs.Octets.{Bytes}
use Rattle.rlp.specs.Encoding.{header, encode, encodes}
use Rattle.packet_model.specs.Items.{endpoint}
use Rattle.packet_bodies.specs.Parts.{endpoint_items}
use Rattle.octets.proofs.Progress.{Progress, concat, start, room, step, finish}
use Rattle.packet_bodies.proofs.Sizes.{framed}
use Rattle.packet_bodies.proofs.put_endpoint.Goals as goal

pub write_header-a-requires : goal.write_header-a-requires
write_header-a-requires c =
    let pieces : List Bytes = let a = c.args in
    header 0xc0 c.fields_size-size.result ∷ encodes (endpoint_items a.address.now a.udp a.tcp) ∷ [] in
    let pieces_are : let a = c.args in concat pieces ≡ encode (endpoint a.address.now a.udp a.tcp) = let a = c.args in
    let items : Bytes = encodes (endpoint_items a.address.now a.udp a.tcp) in
    ap (λ (x : Bytes). header 0xc0 c.fields_size-size.result ++ x) (append-nil items) ∙ framed c.fields_size-size.result items c.fields_size-size.ensures.0 in
    let begun : let a = c.args in Progress a.buf.now a.at pieces pieces a.buf.now a.at = let s = c in
    start s.args.buf.now s.args.at pieces (omega (arith, ap length pieces_are, s.requires.1)) in
    (omega arith, room begun)

pub put_fields-requires : goal.put_fields-requires
put_fields-requires c =
    let pieces : List Bytes = let a = c.args in
    header 0xc0 c.fields_size-size.result ∷ encodes (endpoint_items a.address.now a.udp a.tcp) ∷ [] in
    let pieces_are : let a = c.args in concat pieces ≡ encode (endpoint a.address.now a.udp a.tcp) = let a = c.args in
    let items : Bytes = encodes (endpoint_items a.address.now a.udp a.tcp) in
    ap (λ (x : Bytes). header 0xc0 c.fields_size-size.result ++ x) (append-nil items) ∙ framed c.fields_size-size.result items c.fields_size-size.ensures.0 in
    let begun : let a = c.args in Progress a.buf.now a.at pieces pieces a.buf.now a.at = let s = c in
    start s.args.buf.now s.args.at pieces (omega (arith, ap length pieces_are, s.requires.1)) in
    room (step begun (c.write_header-a.ensures.next, c.write_header-a.ensures.bytes))

pub returns : goal.returns
returns c =
    let pieces : List Bytes = let a = c.args in
    header 0xc0 c.fields_size-size.result ∷ encodes (endpoint_items a.address.now a.udp a.tcp) ∷ [] in
    let pieces_are : let a = c.args in concat pieces ≡ encode (endpoint a.address.now a.udp a.tcp) = let a = c.args in
    let items : Bytes = encodes (endpoint_items a.address.now a.udp a.tcp) in
    ap (λ (x : Bytes). header 0xc0 c.fields_size-size.result ++ x) (append-nil items) ∙ framed c.fields_size-size.result items c.fields_size-size.ensures.0 in
    let begun : let a = c.args in Progress a.buf.now a.at pieces pieces a.buf.now a.at = let s = c in
    start s.args.buf.now s.args.at pieces (omega (arith, ap length pieces_are, s.requires.1)) in
    let s = c in record { next = (finish (step (step begun (c.write_header-a.ensures.next, c.write_header-a.ensures.bytes)) (c.put_fields.ensures.next, c.put_fields.ensures.bytes)) pieces_are).0; bytes = (finish (step (step begun (c.write_header-a.ensures.next, c.write_header-a.ensures.bytes)) (c.put_fields.ensures.next, c.put_fields.ensures.bytes)) pieces_are).1 }
