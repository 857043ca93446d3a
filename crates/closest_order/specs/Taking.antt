-- The buckets that a closest call takes, in their order (C-18).
use Rattle.std.specs.Prelude.{ℕ, zero, suc, ◌+◌, ◌-◌, ◌/◌, ◌%◌, ◌^◌, Bool, cond, not, List, [], ◌∷◌, ◌++◌, eqb, leb}
use Rattle.lists.specs.Lists.{select}

-- the binary digit of x at place i is set
unfoldable pub is_set : ℕ → ℕ → Bool
is_set i x = eqb (x / 2 ^ i % 2) 1

-- n bucket numbers from the lowest on, rising and falling
unfoldable pub rising : ℕ → ℕ → List ℕ
rising lowest zero = []
rising lowest (suc n) = lowest ∷ rising (suc lowest) n

unfoldable pub falling : ℕ → ℕ → List ℕ
falling lowest zero = []
falling lowest (suc n) = (lowest + n) ∷ falling lowest n

-- "those numbered by the set bits of own hash XOR target hash, highest first, then by its clear bits, lowest first .. Kept buckets only.", for
-- the XOR x and a table of `count` buckets
unfoldable pub taking_order : ℕ → ℕ → List ℕ
taking_order x count = select (λ i. is_set i x) (falling (256 - count) count) ++ select (λ i. not (is_set i x)) (rising (256 - count) count)

-- "stop after the first whole bucket at which 16 or more nodes are gathered": those taken of a list of bucket numbers, where n nodes are gathered
-- already and a bucket has `seated` nodes
unfoldable pub taken_from : (ℕ → ℕ) → ℕ → List ℕ → List ℕ
taken_from seated n [] = []
taken_from seated n (i ∷ more) = i ∷ cond (leb 16 (n + seated i)) [] (taken_from seated (n + seated i) more)
