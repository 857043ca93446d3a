-- `printout_entry::put_place` meets its contract. Assumes nothing.
use mathlib.Core.Path.{refl}
use mathlib.Core.List.{List, [], ◌∷◌}
use Rattle.octets.specs.Octets.{Bytes}
use Rattle.text.specs.Decimals.{decimal}
use Rattle.octets.proofs.Progress.{Progress, start, room, step, finish}
use Rattle.printout_entry.proofs.put_place.Goals as goal

pub put_word-next-requires : goal.put_word-next-requires
put_word-next-requires c =
    let pieces : List Bytes = c.args.word.now ∷ (0x09 ∷ decimal c.args.distance) ∷ (0x09 ∷ decimal c.args.place) ∷ [] in
    let begun : Progress c.args.out.now c.args.at pieces pieces c.args.out.now c.args.at = start c.args.out.now c.args.at pieces c.requires in
    room begun

pub decimal_field-next-requires : goal.decimal_field-next-requires
decimal_field-next-requires c =
    let pieces : List Bytes = c.args.word.now ∷ (0x09 ∷ decimal c.args.distance) ∷ (0x09 ∷ decimal c.args.place) ∷ [] in
    let begun : Progress c.args.out.now c.args.at pieces pieces c.args.out.now c.args.at = start c.args.out.now c.args.at pieces c.requires in
    room (step begun (c.put_word-next.ensures.next, c.put_word-next.ensures.bytes))

pub decimal_field-requires : goal.decimal_field-requires
decimal_field-requires c =
    let pieces : List Bytes = c.args.word.now ∷ (0x09 ∷ decimal c.args.distance) ∷ (0x09 ∷ decimal c.args.place) ∷ [] in
    let begun : Progress c.args.out.now c.args.at pieces pieces c.args.out.now c.args.at = start c.args.out.now c.args.at pieces c.requires in
    let p₀ = begun in
    let p₁ = step p₀ (c.put_word-next.ensures.next, c.put_word-next.ensures.bytes) in
    let p₂ = step p₁ (c.decimal_field-next.ensures.next, c.decimal_field-next.ensures.bytes) in
    room p₂

pub returns : goal.returns
returns c =
    let pieces : List Bytes = c.args.word.now ∷ (0x09 ∷ decimal c.args.distance) ∷ (0x09 ∷ decimal c.args.place) ∷ [] in
    let begun : Progress c.args.out.now c.args.at pieces pieces c.args.out.now c.args.at = start c.args.out.now c.args.at pieces c.requires in
    let p₀ = begun in
    let p₁ = step p₀ (c.put_word-next.ensures.next, c.put_word-next.ensures.bytes) in
    let p₂ = step p₁ (c.decimal_field-next.ensures.next, c.decimal_field-next.ensures.bytes) in
    let p₃ = step p₂ (c.decimal_field.ensures.next, c.decimal_field.ensures.bytes) in record { next = (finish p₃ refl).0; bytes = (finish p₃ refl).1 }
