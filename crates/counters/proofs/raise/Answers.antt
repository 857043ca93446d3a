-- `counters::raise` meets its contract: each return's tests are handed to the definition. A count that stays is `set` to itself.
-- Assumes nothing.
use borrow.Author.Tests.{le-ltb, lt-ltb}
use mathlib.Core.Path.{sym, ap}
use mathlib.Core.List.{List}
use Prim.Native.Nat.{ℕ}
use lib.Seq.{set-get_or}
use Rattle.counters.specs.Counters.{raised}
use Rattle.counters.specs.declared.Counters.{Counters}
use Rattle.counters.proofs.raise.Goals as goal

-- the counters of these counts
abbrev counters_of : List ℕ → Counters
counters_of cs = record { counts = cs }

pub returns-then-at-ge22 : goal.returns-then-at-ge22
unfolding raised
returns-then-at-ge22 c = simp (le-ltb _ _ c.if-at-ge22.true)

pub returns-then-old-ge4294967295 : goal.returns-then-old-ge4294967295
unfolding raised
returns-then-old-ge4294967295 c = simp (lt-ltb _ _ c.if-at-ge22.false, le-ltb _ _ c.if-old-ge4294967295.true)
    (ap (λ (cs : List ℕ). counters_of cs) (sym (set-get_or _ _ 0)))

pub returns : goal.returns
unfolding raised
returns c = simp (lt-ltb _ _ c.if-at-ge22.false, lt-ltb _ _ c.if-old-ge4294967295.false)
