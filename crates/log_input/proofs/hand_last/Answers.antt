-- What is handed over lies in the buffer.
use Rattle.std.proofs.Common.{◌≤◌, arith, sym}
use Rattle.std.proofs.Math.ListN.{length-take}
use Rattle.log_lines.proofs.Found.{last_step}
use Rattle.log_input.proofs.hand_last.Goals as goal

pub slice_bounds-line-end : goal.slice_bounds-line-end
slice_bounds-line-end g c =
    let small : c.in-Line.len ≤ 3000 = last_step c.args.begun c.in-Line.len c.requires.size (sym c.in-Line.ensures) in
    simp length-take (omega (arith, small, c.requires.room))

pub line-requires-clause-size : goal.line-requires-clause-size
line-requires-clause-size g c =
    let small : c.in-Line.len ≤ 3000 = last_step c.args.begun c.in-Line.len c.requires.size (sym c.in-Line.ensures) in
    omega (arith, small, length-take c.in-Line.len c.args.buffer.now)
