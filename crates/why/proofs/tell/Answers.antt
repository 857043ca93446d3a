-- Before the first line the program is ready.
use Rattle.why.proofs.Ready.{at_start}
use Rattle.why.proofs.tell.Goals as goal

pub read_lines-requires-clause-begins : goal.read_lines-requires-clause-begins
read_lines-requires-clause-begins g c = at_start c.table_memory-memory.result c.start.result c.table_memory-memory.ensures c.start.ensures
