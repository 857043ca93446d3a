-- `log_why::put_two` meets its contract. Assumes nothing.
use Prim.Native.Nat.{◌+◌, ◌≤◌}
use lib.ListN.{length}
use mathlib.Core.List.{List, [], ◌∷◌}
use Rattle.octets.specs.Octets.{Bytes}
use Rattle.octets.proofs.Progress.{room, step}
use Rattle.text.specs.Decimals.{decimal}
use Rattle.text.proofs.Decimals.{length_bound}
use Rattle.printout_rows.proofs.Rows.{pieces, total, Writing}
use Rattle.log_answer.proofs.Lines.{begin-line, end_line}
use native.Mathlib.Omega.{arith}
use Rattle.log_reason.proofs.put_two.Goals as goal

pub decimal_field-b-requires : goal.decimal_field-b-requires
decimal_field-b-requires c =
    let fields : List Bytes = decimal c.args.n ∷ decimal c.args.m ∷ [] in
    let fits : length c.args.word.now + total fields + 1 ≤ 64 = omega (arith, length_bound c.args.n (omega arith), length_bound c.args.m (omega arith)) in
    let begun : Writing c.args.out.now 0 c.args.word.now fields (pieces c.args.word.now fields) c.args.out.now 0 = begin-line c.args.out.now c.args.word.now fields fits c.requires.0 in
    room (step begun (c.put_word-a.ensures.next, c.put_word-a.ensures.bytes))

pub decimal_field-c-requires : goal.decimal_field-c-requires
decimal_field-c-requires c =
    let fields : List Bytes = decimal c.args.n ∷ decimal c.args.m ∷ [] in
    let fits : length c.args.word.now + total fields + 1 ≤ 64 = omega (arith, length_bound c.args.n (omega arith), length_bound c.args.m (omega arith)) in
    let begun : Writing c.args.out.now 0 c.args.word.now fields (pieces c.args.word.now fields) c.args.out.now 0 = begin-line c.args.out.now c.args.word.now fields fits c.requires.0 in
    room (step (step begun (c.put_word-a.ensures.next, c.put_word-a.ensures.bytes)) (c.decimal_field-b.ensures.next, c.decimal_field-b.ensures.bytes))

pub put_end-requires : goal.put_end-requires
put_end-requires c =
    let fields : List Bytes = decimal c.args.n ∷ decimal c.args.m ∷ [] in
    let fits : length c.args.word.now + total fields + 1 ≤ 64 = omega (arith, length_bound c.args.n (omega arith), length_bound c.args.m (omega arith)) in
    let begun : Writing c.args.out.now 0 c.args.word.now fields (pieces c.args.word.now fields) c.args.out.now 0 = begin-line c.args.out.now c.args.word.now fields fits c.requires.0 in
    room (step (step (step begun (c.put_word-a.ensures.next, c.put_word-a.ensures.bytes)) (c.decimal_field-b.ensures.next, c.decimal_field-b.ensures.bytes)) (c.decimal_field-c.ensures.next, c.decimal_field-c.ensures.bytes))

pub returns : goal.returns
returns c =
    let fields : List Bytes = decimal c.args.n ∷ decimal c.args.m ∷ [] in
    let fits : length c.args.word.now + total fields + 1 ≤ 64 = omega (arith, length_bound c.args.n (omega arith), length_bound c.args.m (omega arith)) in
    let begun : Writing c.args.out.now 0 c.args.word.now fields (pieces c.args.word.now fields) c.args.out.now 0 = begin-line c.args.out.now c.args.word.now fields fits c.requires.0 in
    let w = end_line c.args.out.now c.args.word.now fields fits
    (step (step (step (step begun (c.put_word-a.ensures.next, c.put_word-a.ensures.bytes)) (c.decimal_field-b.ensures.next, c.decimal_field-b.ensures.bytes)) (c.decimal_field-c.ensures.next, c.decimal_field-c.ensures.bytes)) (c.put_end.ensures.next, c.put_end.ensures.bytes)) in
    let whole = w in
    record { len = whole.0; bytes = whole.1.0; room = whole.1.1 }
