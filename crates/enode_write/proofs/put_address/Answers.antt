-- `enode_write::put_address` meets its contract. Assumes nothing.
use mathlib.Core.Path.{◌≡◌, ap}
use mathlib.Core.List.{List, [], ◌∷◌}
use native.Mathlib.Omega.{arith}
use lib.ListN.{length, get_or}
use Rattle.octets.specs.Octets.{Bytes}
use Rattle.octets.proofs.Progress.{Progress, start, room, step, finish}
use Rattle.text.specs.Decimals.{decimal}
use Rattle.enode_write.proofs.Lines.{address_is}
use borrow.Author.Rules.{rules}
use Rattle.enode_write.proofs.put_address.Goals as goal

pub put_octet-next-requires : goal.put_octet-next-requires
put_octet-next-requires c =
    let array : length c.args.address ≡ 16 = search rules in
    let pieces : List Bytes = let s = c.args.address in
    (0x40 ∷ decimal (get_or s 0 0)) ∷ (0x2e ∷ decimal (get_or s 1 0)) ∷ (0x2e ∷ decimal (get_or s 2 0)) ∷ (0x2e ∷ decimal (get_or s 3 0)) ∷ [] in
    let begun : Progress c.args.buf.now c.args.at pieces pieces c.args.buf.now c.args.at = start c.args.buf.now c.args.at pieces (omega (arith, c.requires, ap length (address_is c.args.address array))) in
    room begun

pub put_octet-next-requires-2 : goal.put_octet-next-requires-2
put_octet-next-requires-2 c =
    let array : length c.args.address ≡ 16 = search rules in
    let pieces : List Bytes = let s = c.args.address in
    (0x40 ∷ decimal (get_or s 0 0)) ∷ (0x2e ∷ decimal (get_or s 1 0)) ∷ (0x2e ∷ decimal (get_or s 2 0)) ∷ (0x2e ∷ decimal (get_or s 3 0)) ∷ [] in
    let begun : Progress c.args.buf.now c.args.at pieces pieces c.args.buf.now c.args.at = start c.args.buf.now c.args.at pieces (omega (arith, c.requires, ap length (address_is c.args.address array))) in
    room (step begun (c.put_octet-next.ensures.next, c.put_octet-next.ensures.bytes))

pub put_octet-next-requires-3 : goal.put_octet-next-requires-3
put_octet-next-requires-3 c =
    let array : length c.args.address ≡ 16 = search rules in
    let pieces : List Bytes = let s = c.args.address in
    (0x40 ∷ decimal (get_or s 0 0)) ∷ (0x2e ∷ decimal (get_or s 1 0)) ∷ (0x2e ∷ decimal (get_or s 2 0)) ∷ (0x2e ∷ decimal (get_or s 3 0)) ∷ [] in
    let begun : Progress c.args.buf.now c.args.at pieces pieces c.args.buf.now c.args.at = start c.args.buf.now c.args.at pieces (omega (arith, c.requires, ap length (address_is c.args.address array))) in
    room (step (step begun (c.put_octet-next.ensures.next, c.put_octet-next.ensures.bytes)) (c.put_octet-next-2.ensures.next, c.put_octet-next-2.ensures.bytes))

pub put_octet-requires : goal.put_octet-requires
put_octet-requires c =
    let array : length c.args.address ≡ 16 = search rules in
    let pieces : List Bytes = let s = c.args.address in
    (0x40 ∷ decimal (get_or s 0 0)) ∷ (0x2e ∷ decimal (get_or s 1 0)) ∷ (0x2e ∷ decimal (get_or s 2 0)) ∷ (0x2e ∷ decimal (get_or s 3 0)) ∷ [] in
    let begun : Progress c.args.buf.now c.args.at pieces pieces c.args.buf.now c.args.at = start c.args.buf.now c.args.at pieces (omega (arith, c.requires, ap length (address_is c.args.address array))) in
    room (step (step (step begun (c.put_octet-next.ensures.next, c.put_octet-next.ensures.bytes)) (c.put_octet-next-2.ensures.next, c.put_octet-next-2.ensures.bytes)) (c.put_octet-next-3.ensures.next, c.put_octet-next-3.ensures.bytes))

pub returns : goal.returns
returns c =
    let array : length c.args.address ≡ 16 = search rules in
    let pieces : List Bytes = let s = c.args.address in
    (0x40 ∷ decimal (get_or s 0 0)) ∷ (0x2e ∷ decimal (get_or s 1 0)) ∷ (0x2e ∷ decimal (get_or s 2 0)) ∷ (0x2e ∷ decimal (get_or s 3 0)) ∷ [] in
    let begun : Progress c.args.buf.now c.args.at pieces pieces c.args.buf.now c.args.at = start c.args.buf.now c.args.at pieces (omega (arith, c.requires, ap length (address_is c.args.address array))) in
    let p₁ = step begun (c.put_octet-next.ensures.next, c.put_octet-next.ensures.bytes) in
    let p₂ = step p₁ (c.put_octet-next-2.ensures.next, c.put_octet-next-2.ensures.bytes) in
    let p₃ = step p₂ (c.put_octet-next-3.ensures.next, c.put_octet-next-3.ensures.bytes) in
    let p₄ = step p₃ (c.put_octet.ensures.next, c.put_octet.ensures.bytes) in
    let whole = finish p₄ (address_is c.args.address array) in
    record { next = whole.0; bytes = whole.1 }
