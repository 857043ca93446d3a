-- One step of the splitter: from an index of a chunk up to the next 0A or the chunk's end.
use Rattle.std.specs.Prelude.{ℕ, ◌+◌, ◌-◌, Bool, true, false, cond, not, ◌&&◌, ltb, leb, eqb, length, drop}
use Rattle.octets.specs.Octets.{Bytes, store}
use Rattle.lists.specs.Lists.{before}
use Rattle.log_lines.specs.Lines.{limit}
use Rattle.log_lines.specs.declared.Begun.{Begun}
use Rattle.log_lines.specs.declared.Step.{Step}
use Rattle.log_lines.specs.declared.Step.TheVariants as step
use Rattle.log_lines.specs.declared.Last.{Last}
use Rattle.log_lines.specs.declared.Last.TheVariants as last

-- the bytes before the next 0A
unfoldable pub piece : Bytes → Bytes
piece s = before (λ b. eqb b 0x0a) s

-- n bytes more of the line begun find room
abbrev pub fits : Begun → ℕ → Bool
fits b n = not b.over && leb n (limit - b.len)

-- the line begun with n bytes more
unfoldable pub grown : Begun → ℕ → Begun
grown b n = cond (fits b n) (record { len = b.len + n; over = false }) (record { len = 0; over = true })

-- the buffer with the piece p more, where it finds room
unfoldable pub added : Bytes → Begun → Bytes → Bytes
added buffer b p = cond (fits b (length p)) (store buffer b.len p) buffer

-- no line is begun
abbrev pub fresh : Begun
fresh = record { len = 0; over = false }

-- the line begun ends, and the chunk goes on at next
abbrev pub ended : Begun → ℕ → Step
ended b next = cond b.over (step.TooLong next) (step.Line b.len next)

-- the step from index at of the chunk, and the buffer after it
unfoldable pub step_of : Begun → Bytes → ℕ → Step
step_of b chunk at =
    let n = length (piece (drop at chunk)) in
    cond (ltb (at + n) (length chunk)) (ended (grown b n) (at + n + 1)) (step.More (grown b n))

unfoldable pub buffer_after : Bytes → Begun → Bytes → ℕ → Bytes
buffer_after buffer b chunk at = added buffer b (piece (drop at chunk))

-- what is left at the log's end
unfoldable pub last_of : Begun → Last
last_of b = cond b.over last.TooLong (cond (eqb b.len 0) last.Nothing (last.Line b.len))
