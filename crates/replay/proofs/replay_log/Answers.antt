-- The program is ready before the first line.
use Rattle.std.proofs.Common.{arith}
use Rattle.replay.proofs.Ready.{at_start}
use Rattle.replay.proofs.replay_log.Goals as goal

pub read_lines-requires-clause-begins : goal.read_lines-requires-clause-begins
read_lines-requires-clause-begins g c = at_start c.table_memory-memory.result c.large_buffer-out.result c.new.result (omega (arith, c.table_memory-memory.ensures)) (omega (arith, c.large_buffer-out.ensures)) c.new.ensures
