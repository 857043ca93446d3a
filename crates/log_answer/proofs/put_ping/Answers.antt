-- `log_answer::put_ping` meets its contract. Assumes nothing.
use Rattle.log_answer.proofs.put_ping.Goals as goal

pub returns-then-due : goal.returns-then-due
returns-then-due c = record { len = rw c.if-due.true (c.put_words_row.ensures.len); bytes = rw c.if-due.true (c.put_words_row.ensures.bytes); size = c.put_words_row.ensures.size }

pub returns : goal.returns
returns c = record { len = rw c.if-due.false (c.put_word_row.ensures.len); bytes = rw c.if-due.false (c.put_word_row.ensures.bytes); size = c.put_word_row.ensures.size }
