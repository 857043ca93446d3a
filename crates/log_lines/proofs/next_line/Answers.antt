-- `log_lines::next_line` meets its contract. Assumes nothing.
use mathlib.Core.Path.{◌∙◌}
use Rattle.log_lines.proofs.Steps.{cut_at, buffer-is, step-more, step-long, step_line}
use native.Mathlib.Omega.{arith}
use Rattle.log_lines.proofs.next_line.Goals as goal

pub returns-then-end-chunk : goal.returns-then-end-chunk
returns-then-end-chunk c = let a = c.args in
    let p = c.find-end in
    let m = c.add_piece-more in
    let n = p.ensures.end ∙ cut_at a.chunk.now a.at in record { step = step-more a.buffer.now a.begun a.chunk.now a.at p.result n m.result m.ensures.begun c.if-end-chunk.true; bytes = buffer-is a.buffer.now a.begun a.chunk.now a.at p.result n m.new.buffer m.ensures.bytes }

pub returns-then-more : goal.returns-then-more
returns-then-more c = let a = c.args in
    let p = c.find-end in
    let m = c.add_piece-more in
    let n = p.ensures.end ∙ cut_at a.chunk.now a.at in record { step = step-long a.buffer.now a.begun a.chunk.now a.at p.result n m.result m.ensures.begun (omega (arith, p.ensures.within)) c.if-more.true; bytes = buffer-is a.buffer.now a.begun a.chunk.now a.at p.result n m.new.buffer m.ensures.bytes }

pub returns : goal.returns
returns c = let a = c.args in
    let p = c.find-end in
    let m = c.add_piece-more in
    let n = p.ensures.end ∙ cut_at a.chunk.now a.at in record { step = step_line a.buffer.now a.begun a.chunk.now a.at p.result n m.result m.ensures.begun (omega (arith, p.ensures.within)) c.if-more.false; bytes = buffer-is a.buffer.now a.begun a.chunk.now a.at p.result n m.new.buffer m.ensures.bytes }
