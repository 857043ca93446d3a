-- `printout_entry::put_endpoint` meets its contract. Assumes nothing.
use Prim.Native.Nat.{◌≤◌}
use mathlib.Core.Path.{◌≡◌, refl, sym}
use mathlib.Core.List.{List, [], ◌∷◌}
use native.Mathlib.Omega.{arith}
use lib.ListN.{length}
use lib.Seq.{length-take-le}
use Rattle.octets.specs.Octets.{Bytes}
use Rattle.text.specs.Decimals.{decimal}
use Rattle.text.specs.Hex.{hex}
use Rattle.node.specs.Nodes.{address_of}
use Rattle.octets.proofs.Progress.{Progress, start, room, step, finish}
use borrow.Author.Rules.{rules}
use Rattle.printout_entry.proofs.put_endpoint.Goals as goal

pub slice_bounds-hex_field-end : goal.slice_bounds-hex_field-end
slice_bounds-hex_field-end c =
    let array : length c.args.endpoint.address ≡ 16 = search rules in
    let within : c.args.endpoint.len ≤ length c.args.endpoint.address = omega (arith, array, c.requires.0) in
    let e = c.args.endpoint in
    sym (length-take-le e.len e.address within)

pub hex_field-next-requires : goal.hex_field-next-requires
hex_field-next-requires c =
    let pieces : List Bytes = let e = c.args.endpoint in
    (0x09 ∷ hex (address_of e)) ∷ (0x09 ∷ decimal e.udp) ∷ (0x09 ∷ decimal e.tcp) ∷ [] in
    let begun : Progress c.args.out.now c.args.at pieces pieces c.args.out.now c.args.at = start c.args.out.now c.args.at pieces c.requires.1 in
    room begun

pub decimal_field-next-requires : goal.decimal_field-next-requires
decimal_field-next-requires c =
    let pieces : List Bytes = let e = c.args.endpoint in
    (0x09 ∷ hex (address_of e)) ∷ (0x09 ∷ decimal e.udp) ∷ (0x09 ∷ decimal e.tcp) ∷ [] in
    let begun : Progress c.args.out.now c.args.at pieces pieces c.args.out.now c.args.at = start c.args.out.now c.args.at pieces c.requires.1 in
    room (step begun (c.hex_field-next.ensures.next, c.hex_field-next.ensures.bytes))

pub decimal_field-requires : goal.decimal_field-requires
decimal_field-requires c =
    let pieces : List Bytes = let e = c.args.endpoint in
    (0x09 ∷ hex (address_of e)) ∷ (0x09 ∷ decimal e.udp) ∷ (0x09 ∷ decimal e.tcp) ∷ [] in
    let begun : Progress c.args.out.now c.args.at pieces pieces c.args.out.now c.args.at = start c.args.out.now c.args.at pieces c.requires.1 in
    let p₀ = begun in
    let p₁ = step p₀ (c.hex_field-next.ensures.next, c.hex_field-next.ensures.bytes) in
    let p₂ = step p₁ (c.decimal_field-next.ensures.next, c.decimal_field-next.ensures.bytes) in
    room p₂

pub returns : goal.returns
returns c =
    let pieces : List Bytes = let e = c.args.endpoint in
    (0x09 ∷ hex (address_of e)) ∷ (0x09 ∷ decimal e.udp) ∷ (0x09 ∷ decimal e.tcp) ∷ [] in
    let begun : Progress c.args.out.now c.args.at pieces pieces c.args.out.now c.args.at = start c.args.out.now c.args.at pieces c.requires.1 in
    let p₀ = begun in
    let p₁ = step p₀ (c.hex_field-next.ensures.next, c.hex_field-next.ensures.bytes) in
    let p₂ = step p₁ (c.decimal_field-next.ensures.next, c.decimal_field-next.ensures.bytes) in
    let p₃ = step p₂ (c.decimal_field.ensures.next, c.decimal_field.ensures.bytes) in record { next = (finish p₃ refl).0; bytes = (finish p₃ refl).1 }
