-- What is handed over lies in the buffer, and each turn comes nearer to the chunk's end.
use Rattle.std.proofs.Common.{◌≡◌, ◌≤◌, ◌<◌, length, arith, take, sym}
use Rattle.std.proofs.Math.ListN.{length-take}
use Rattle.log_lines.proofs.Found.{line_step, long-step, more-step, fresh_size}
use Rattle.log_input.specs.Ends.{line, long, more}
use Rattle.log_input.proofs.Ends.{after_line}
use Rattle.log_input.proofs.hand_over.Goals as goal
use Rattle.log_input.proofs.hand_over.Goals.{in-Line, in-TooLong}

pub slice_bounds-line-end : goal.slice_bounds-line-end
slice_bounds-line-end g c =
    let f = line_step c.loop-len.begun c.args.chunk.now c.loop-len.at c.in-Line.len c.in-Line.next c.loop-len.invariant.0 (sym c.in-Line.ensures.step) in
    omega (arith, f.0, c.next_line.auto.buffer, c.loop-len.auto.buffer, c.requires.room)

pub slice_bounds-line-end-in-Line : goal.slice_bounds-line-end-in-Line
slice_bounds-line-end-in-Line g c =
    let f = line_step c.loop-len.begun c.args.chunk.now c.loop-len.at c.in-Line.len c.in-Line.next c.loop-len.invariant.0 (sym c.in-Line.ensures.step) in
    simp length-take (omega (arith, f.0, c.next_line.auto.buffer, c.loop-len.auto.buffer, c.requires.room))

pub line-wanted-requires-clause-size : goal.line-wanted-requires-clause-size
line-wanted-requires-clause-size g c =
    let f = line_step c.loop-len.begun c.args.chunk.now c.loop-len.at c.in-Line.len c.in-Line.next c.loop-len.invariant.0 (sym c.in-Line.ensures.step) in
    omega (arith, f.0, length-take c.in-Line.len c.next_line.new.buffer)

pub returns-in-More-clause-size : goal.returns-in-More-clause-size
returns-in-More-clause-size g c = more-step c.loop-len.begun c.args.chunk.now c.loop-len.at c.in-More.begun c.loop-len.invariant.0 (sym c.in-More.ensures.step)

pub returns-in-More-clause-ends : goal.returns-in-More-clause-ends
returns-in-More-clause-ends g c = c.loop-len.invariant.3 c.in-More.begun (more (sym c.in-More.ensures.step))

pub loop-len-smaller : goal.loop-len-smaller
loop-len-smaller g c = elim c.match-next_line.branch [
  | in-Line w ↦
      let f = line_step c.loop-len.begun c.args.chunk.now c.loop-len.at w.in-Line.len w.in-Line.next c.loop-len.invariant.0 (sym w.in-Line.ensures.step) in
      omega (arith, w.at-is, f.1.0, f.1.1)
  | in-TooLong w ↦
      let f = long-step c.loop-len.begun c.args.chunk.now c.loop-len.at w.in-TooLong.next (sym w.in-TooLong.ensures.step) in
      omega (arith, w.at-is, f.0, f.1)
]

pub loop-len-preserved : goal.loop-len-preserved
loop-len-preserved g c = elim c.match-next_line.branch [
  | in-Line w ↦
      let f = line_step c.loop-len.begun c.args.chunk.now c.loop-len.at w.in-Line.len w.in-Line.next c.loop-len.invariant.0 (sym w.in-Line.ensures.step) in (
        fresh_size c.new-begun.result c.new-begun.ensures,
        omega (arith, w.at-is, f.1.1),
        rw w.lines-is w.line-wanted.ensures,
        (λ e h. c.loop-len.invariant.3 e (line w.in-Line.len w.in-Line.next (sym w.in-Line.ensures.step) (after_line c.new-begun.ensures w.at-is h))),
      )
  | in-TooLong w ↦
      let f = long-step c.loop-len.begun c.args.chunk.now c.loop-len.at w.in-TooLong.next (sym w.in-TooLong.ensures.step) in (
        fresh_size c.new-begun.result c.new-begun.ensures,
        omega (arith, w.at-is, f.1),
        rw w.lines-is w.too_long-wanted.ensures,
        (λ e h. c.loop-len.invariant.3 e (long w.in-TooLong.next (sym w.in-TooLong.ensures.step) (after_line c.new-begun.ensures w.at-is h))),
      )
]
