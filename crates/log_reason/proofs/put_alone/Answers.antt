-- `log_why::put_alone` meets its contract. Assumes nothing.
use Prim.Native.Nat.{◌+◌, ◌≤◌}
use lib.ListN.{length}
use mathlib.Core.List.{[]}
use Rattle.octets.proofs.Progress.{step}
use Rattle.printout_rows.proofs.Rows.{total}
use Rattle.log_answer.proofs.Lines.{begin-line, end_line}
use native.Mathlib.Omega.{arith}
use Rattle.log_reason.proofs.put_alone.Goals as goal

pub returns : goal.returns
returns c =
    let fits : length c.args.word.now + total [] + 1 ≤ 64 = omega arith in
    let p₀ = begin-line c.args.out.now c.args.word.now [] fits c.requires.0 in
    let w = end_line c.args.out.now c.args.word.now [] fits (step (step p₀ (c.put_word-a.ensures.next, c.put_word-a.ensures.bytes)) (c.put_end.ensures.next, c.put_end.ensures.bytes)) in
    let whole = w in
    record { len = whole.0; bytes = whole.1.0; room = whole.1.1 }
