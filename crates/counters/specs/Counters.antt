-- What counting an answer does to the counters (document 01's tally).
use Rattle.std.specs.Prelude.{ℕ, ◌+◌, cond, get_or, set, replicate, ltb}
use Rattle.counters.specs.declared.Counters.{Counters}

-- no call counted
abbrev pub cleared : Counters
cleared = record { counts = replicate 22 0 }

-- one more, up to the largest 32-bit number
abbrev pub one_more : ℕ → ℕ
one_more n = cond (ltb n 4294967295) (n + 1) n

-- the count of this answer number is one more, and the others stay; a number from 22 on has no count
unfoldable pub raised : Counters → ℕ → Counters
raised c number =
    cond (ltb number 22) (record { counts = set c.counts number (one_more (get_or c.counts number 0)) }) c

-- "one count for each number"; a number from 22 on has none
unfoldable pub count_of : Counters → ℕ → ℕ
count_of c number = cond (ltb number 22) (get_or c.counts number 0) 0
