-- `log_answer::put_pong` meets its contract. Assumes nothing.
use Rattle.log_answer.proofs.put_pong.Goals as goal

pub returns-in-Tail : goal.returns-in-Tail
returns-in-Tail c = record { len = rw c.in-Tail.is (c.put_word_row.ensures.len); bytes = rw c.in-Tail.is (c.put_word_row.ensures.bytes); size = c.put_word_row.ensures.size }

pub returns-in-TookEntry : goal.returns-in-TookEntry
returns-in-TookEntry c = record { len = rw c.in-TookEntry.is (c.put_word_row-in-TookEntry.ensures.len); bytes = rw c.in-TookEntry.is (c.put_word_row-in-TookEntry.ensures.bytes); size = c.put_word_row-in-TookEntry.ensures.size }

pub returns-in-RangeFull : goal.returns-in-RangeFull
returns-in-RangeFull c = record { len = rw c.in-RangeFull.is (c.put_word_row-in-RangeFull.ensures.len); bytes = rw c.in-RangeFull.is (c.put_word_row-in-RangeFull.ensures.bytes); size = c.put_word_row-in-RangeFull.ensures.size }

pub returns-in-Waiting : goal.returns-in-Waiting
returns-in-Waiting c = record { len = rw c.in-Waiting.is (c.put_waiting.ensures.len); bytes = rw c.in-Waiting.is (c.put_waiting.ensures.bytes); size = c.put_waiting.ensures.size }
