-- `log_answer::put_number` meets its contract. Assumes nothing.
use Prim.Native.Nat.{◌+◌, ◌≤◌}
use lib.ListN.{length}
use mathlib.Core.List.{[]}
use Rattle.octets.proofs.Progress.{room, step}
use Rattle.text.specs.Decimals.{decimal}
use Rattle.text.proofs.Decimals.{length_bound}
use Rattle.printout_rows.proofs.Rows.{pieces, total, Writing}
use Rattle.log_answer.specs.AnswerRows.{answer_room}
use Rattle.log_answer.proofs.Lines.{begin-line, end_line}
use native.Mathlib.Omega.{arith}
use Rattle.log_answer.proofs.put_number.Goals as goal

pub put_decimal-end-requires : goal.put_decimal-end-requires
put_decimal-end-requires c =
    let fits : length (decimal c.args.n) + total [] + 1 ≤ answer_room = omega (arith, length_bound c.args.n (omega arith)) in
    let begun : Writing c.args.out.now 0 (decimal c.args.n) [] (pieces (decimal c.args.n) []) c.args.out.now 0 = begin-line c.args.out.now (decimal c.args.n) [] fits c.requires in
    room begun

pub put_end-requires : goal.put_end-requires
put_end-requires c =
    let fits : length (decimal c.args.n) + total [] + 1 ≤ answer_room = omega (arith, length_bound c.args.n (omega arith)) in
    let begun : Writing c.args.out.now 0 (decimal c.args.n) [] (pieces (decimal c.args.n) []) c.args.out.now 0 = begin-line c.args.out.now (decimal c.args.n) [] fits c.requires in
    room (step begun (c.put_decimal-end.ensures.next, c.put_decimal-end.ensures.bytes))

pub returns : goal.returns
returns c =
    let fits : length (decimal c.args.n) + total [] + 1 ≤ answer_room = omega (arith, length_bound c.args.n (omega arith)) in
    let begun : Writing c.args.out.now 0 (decimal c.args.n) [] (pieces (decimal c.args.n) []) c.args.out.now 0 = begin-line c.args.out.now (decimal c.args.n) [] fits c.requires in
    let p₀ = begun in
    let p₁ = step p₀ (c.put_decimal-end.ensures.next, c.put_decimal-end.ensures.bytes) in
    let p₂ = step p₁ (c.put_end.ensures.next, c.put_end.ensures.bytes) in
    let whole = end_line c.args.out.now (decimal c.args.n) [] fits p₂ in
    record { len = whole.0; bytes = whole.1.0; size = whole.1.1 }
