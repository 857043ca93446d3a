-- `packet_bodies::put_fields` meets its contract. Assumes nothing.
use mathlib.Core.Path.{refl}
use mathlib.Core.List.{List, [], ◌∷◌}
use Rattle.octets.specs.Octets.{Bytes}
use Rattle.rlp.specs.Encoding.{encode, string}
use Rattle.packet_model.specs.Items.{uint}
use Rattle.octets.proofs.Progress.{Progress, start, room, step, finish}
use Rattle.packet_bodies.proofs.put_fields.Goals as goal

pub write_string-a-requires : goal.write_string-a-requires
write_string-a-requires c =
    let pieces : List Bytes = encode (string c.args.address.now) ∷ encode (uint c.args.udp) ∷ encode (uint c.args.tcp) ∷ [] in
    let begun : Progress c.args.buf.now c.args.at pieces pieces c.args.buf.now c.args.at = start c.args.buf.now c.args.at pieces c.requires in
    room begun

pub write_uint-b-requires : goal.write_uint-b-requires
write_uint-b-requires c =
    let pieces : List Bytes = encode (string c.args.address.now) ∷ encode (uint c.args.udp) ∷ encode (uint c.args.tcp) ∷ [] in
    let begun : Progress c.args.buf.now c.args.at pieces pieces c.args.buf.now c.args.at = start c.args.buf.now c.args.at pieces c.requires in
    room (step begun (c.write_string-a.ensures.next, c.write_string-a.ensures.bytes))

pub write_uint-requires : goal.write_uint-requires
write_uint-requires c =
    let pieces : List Bytes = encode (string c.args.address.now) ∷ encode (uint c.args.udp) ∷ encode (uint c.args.tcp) ∷ [] in
    let begun : Progress c.args.buf.now c.args.at pieces pieces c.args.buf.now c.args.at = start c.args.buf.now c.args.at pieces c.requires in
    room
    (step
    (step begun (c.write_string-a.ensures.next, c.write_string-a.ensures.bytes))
    (c.write_uint-b.ensures.next, c.write_uint-b.ensures.bytes))

pub returns : goal.returns
returns c =
    let pieces : List Bytes = encode (string c.args.address.now) ∷ encode (uint c.args.udp) ∷ encode (uint c.args.tcp) ∷ [] in
    let begun : Progress c.args.buf.now c.args.at pieces pieces c.args.buf.now c.args.at = start c.args.buf.now c.args.at pieces c.requires in
    record {
      next = (finish
          (step
          (step
          (step begun (c.write_string-a.ensures.next, c.write_string-a.ensures.bytes))
          (c.write_uint-b.ensures.next, c.write_uint-b.ensures.bytes))
          (c.write_uint.ensures.next, c.write_uint.ensures.bytes))
          refl).0;
      bytes = (finish
          (step
          (step
          (step begun (c.write_string-a.ensures.next, c.write_string-a.ensures.bytes))
          (c.write_uint-b.ensures.next, c.write_uint-b.ensures.bytes))
          (c.write_uint.ensures.next, c.write_uint.ensures.bytes))
          refl).1;
    }
