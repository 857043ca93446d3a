-- `counters::count_of` meets its contract: each return's test is handed to the definition. Assumes nothing.
use borrow.Author.Tests.{le-ltb, lt-ltb}
use Rattle.counters.specs.Counters.{count_of}
use Rattle.counters.proofs.count_of.Goals as goal

pub returns-then-at-ge22 : goal.returns-then-at-ge22
unfolding count_of
returns-then-at-ge22 c = simp (le-ltb _ _ c.if-at-ge22.true)

pub returns : goal.returns
unfolding count_of
returns c = simp (lt-ltb _ _ c.if-at-ge22.false)
