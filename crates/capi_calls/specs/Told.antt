-- What C is told of a reading's full clock.
use Rattle.std.specs.Prelude.{ℕ, List, [], ◌∷◌, Result, Ok, Err}
use Rattle.node.specs.declared.MonotonicMillis.{MonotonicMillis}
use Rattle.call_low.specs.declared.ClockError.{ClockError}

-- the clock; "A refusal .. changes nothing lent"
abbrev pub told_clock : Result MonotonicMillis ClockError → List ℕ → List ℕ
told_clock (Err e) old = old
told_clock (Ok t) old = t.0 ∷ []
