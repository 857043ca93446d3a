-- `log_answer::put_word_row` meets its contract. Assumes nothing.
use Prim.Native.Nat.{◌+◌, ◌≤◌}
use lib.ListN.{length}
use mathlib.Core.List.{List, [], ◌∷◌}
use Rattle.octets.specs.Octets.{Bytes}
use Rattle.octets.proofs.Progress.{room, step}
use Rattle.text.specs.Decimals.{decimal}
use Rattle.text.proofs.Decimals.{length_one}
use Rattle.printout_rows.proofs.Rows.{pieces, total, Writing}
use Rattle.log_answer.specs.AnswerRows.{answer_room}
use Rattle.log_answer.proofs.Lines.{begin-line, end_line}
use native.Mathlib.Omega.{arith}
use Rattle.log_answer.proofs.put_word_row.Goals as goal

pub put_decimal-a-requires : goal.put_decimal-a-requires
put_decimal-a-requires c =
    let fields : List Bytes = c.args.word.now ∷ [] in
    let fits : length (decimal 0) + total fields + 1 ≤ answer_room = omega (arith, length_one 0 (omega arith)) in
    let begun : Writing c.args.out.now 0 (decimal 0) fields (pieces (decimal 0) fields) c.args.out.now 0 = begin-line c.args.out.now (decimal 0) fields fits c.requires.0 in
    room begun

pub word_field-b-requires : goal.word_field-b-requires
word_field-b-requires c =
    let fields : List Bytes = c.args.word.now ∷ [] in
    let fits : length (decimal 0) + total fields + 1 ≤ answer_room = omega (arith, length_one 0 (omega arith)) in
    let begun : Writing c.args.out.now 0 (decimal 0) fields (pieces (decimal 0) fields) c.args.out.now 0 = begin-line c.args.out.now (decimal 0) fields fits c.requires.0 in
    room (step begun (c.put_decimal-a.ensures.next, c.put_decimal-a.ensures.bytes))

pub put_end-requires : goal.put_end-requires
put_end-requires c =
    let fields : List Bytes = c.args.word.now ∷ [] in
    let fits : length (decimal 0) + total fields + 1 ≤ answer_room = omega (arith, length_one 0 (omega arith)) in
    let begun : Writing c.args.out.now 0 (decimal 0) fields (pieces (decimal 0) fields) c.args.out.now 0 = begin-line c.args.out.now (decimal 0) fields fits c.requires.0 in
    room (step (step begun (c.put_decimal-a.ensures.next, c.put_decimal-a.ensures.bytes)) (c.word_field-b.ensures.next, c.word_field-b.ensures.bytes))

pub returns : goal.returns
returns c =
    let fields : List Bytes = c.args.word.now ∷ [] in
    let fits : length (decimal 0) + total fields + 1 ≤ answer_room = omega (arith, length_one 0 (omega arith)) in
    let begun : Writing c.args.out.now 0 (decimal 0) fields (pieces (decimal 0) fields) c.args.out.now 0 = begin-line c.args.out.now (decimal 0) fields fits c.requires.0 in
    let p₀ = begun in
    let p₁ = step p₀ (c.put_decimal-a.ensures.next, c.put_decimal-a.ensures.bytes) in
    let p₂ = step p₁ (c.word_field-b.ensures.next, c.word_field-b.ensures.bytes) in
    let p₃ = step p₂ (c.put_end.ensures.next, c.put_end.ensures.bytes) in
    let whole = end_line c.args.out.now (decimal 0) fields fits p₃ in
    record { len = whole.0; bytes = whole.1.0; size = whole.1.1 }
