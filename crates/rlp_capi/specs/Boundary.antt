-- The answers of `rlp` as numbers.
use Rattle.std.specs.Prelude.{ℕ, Bool, true, false, cond, Option, Some, None}
use Rattle.rlp.specs.declared.Item.{Item}

abbrev pub kind_of : Option Item → ℕ
kind_of (Some i) = cond i.list 2 1
kind_of None = 0

abbrev pub skip_of : Option Item → ℕ
skip_of (Some i) = i.skip
skip_of None = 0

abbrev pub is_integer : Option ℕ → Bool
is_integer (Some n) = true
is_integer None = false

abbrev pub value_of : Option ℕ → ℕ
value_of (Some n) = n
value_of None = 0
