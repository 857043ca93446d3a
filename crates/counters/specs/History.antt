-- The counters after any list of counted calls: "a count is the number of such calls with that answer, or 4,294,967,295 if more".
use Rattle.std.specs.Prelude.{◌≡◌, cond, List, [], ◌∷◌, ℕ, suc, ◌<◌, eqb, ltb}
use Rattle.counters.specs.declared.Counters.{Counters}
use Rattle.counters.specs.Counters.{raised, cleared, count_of}

-- the counters after calls that gave these answer numbers, in order
abbrev pub counted : Counters → List ℕ → Counters
counted c [] = c
counted c (n ∷ ns) = counted (raised c n) ns

-- how often a number is in a list
abbrev pub times_of : ℕ → List ℕ → ℕ
times_of n [] = 0
times_of n (m ∷ ms) = cond (eqb n m) (suc (times_of n ms)) (times_of n ms)

-- at most the largest 32-bit number
abbrev pub capped : ℕ → ℕ
capped n = cond (ltb n 4294967295) n 4294967295

-- every count after any list of calls since clearing
abbrev pub CountsAreHistory : Type 0
CountsAreHistory = (numbers : List ℕ) (n : ℕ) → n < 22 → count_of (counted cleared numbers) n ≡ capped (times_of n numbers)
