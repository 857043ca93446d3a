-- What the two bursts share, as the functions inside this crate promise it: `low` is whether the milliseconds are readings of 32 bits.
use Rattle.std.specs.Prelude.{ℕ, Bool, cond, List, length}
use Rattle.octets.specs.Octets.{Bytes}
use Rattle.call_history.specs.Chain.{answers_on, bytes_after_all}
use Rattle.call_burst_lists.specs.Lists.{Burst, is_whole}
use Rattle.call_burst_step.specs.Steps.{answer_by, bytes_by}
use Rattle.call_burst.specs.Burst.{calls_of}

abbrev pub table_by : Bool → Bytes → Burst → ℕ → Bytes
table_by low s b room = bytes_after_all (answer_by low) (bytes_by low) s (calls_of b room)

abbrev pub numbers_by : Bool → Bytes → Burst → ℕ → List ℕ
numbers_by low s b room = answers_on (answer_by low) (bytes_by low) s (calls_of b room)

abbrev pub list_by : Bool → Bytes → Burst → List ℕ → List ℕ
list_by low s b list = cond (is_whole b (length list)) (numbers_by low s b (length list)) list
