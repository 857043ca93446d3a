-- What the tests before the bucket's own find of a call with a key.
use Rattle.std.specs.Prelude.{ℕ, Result, Ok, Err}
use Rattle.numbers.specs.declared.Refusal.{Refusal}
use Rattle.numbers.specs.Numbers.{number_of}

-- the answer number, from 1 to 12, or the slot of the key's bucket
pub data Placed : Type 0 where
  NotPlaced : ℕ → Placed
  In : ℕ → Placed

-- a slot, unless the call is refused
abbrev pub placed : Result ℕ Refusal → Placed
placed (Ok slot) = In slot
placed (Err refusal) = NotPlaced (number_of refusal)
