-- A burst: datagrams that one call hands over (document 02, C-15).
use Rattle.std.specs.Prelude.{ℕ, zero, suc, ◌+◌, ◌≡◌, cond, List, [], ◌∷◌, length, get_or}
use Rattle.octets.specs.Octets.{Bytes}
use Rattle.call_burst_lists.specs.Lists.{Burst, is_whole}
use Rattle.call_burst_step.specs.Datagram.{call_at}
use Rattle.call_history.specs.Model.{Call}
use Rattle.call_history.specs.Chain.{answers_on, bytes_after_all}
use Rattle.call_model.specs.Calls.{answer_on, bytes_after}
use Rattle.call_model.specs.Reading.{reading}
use Rattle.call_low.specs.Got.{answer_low, bytes_low}

-- "Refusals: 28, .. before anything is handled"
abbrev pub burst_number : Burst → ℕ → ℕ
burst_number b room = cond (is_whole b room) 0 28

-- n of them from datagram i on
unfoldable pub calls_from : Burst → ℕ → ℕ → ℕ → List Call
calls_from b i at zero = []
calls_from b i at (suc n) = call_at b i at ∷ calls_from b (i + 1) (at + get_or b.lengths i 0) n

-- "Demand 3 counts each datagram as its own call, and none of a burst refused with 28"
unfoldable pub calls_of : Burst → ℕ → List Call
calls_of b room = cond (is_whole b room) (calls_from b 0 0 (length b.lengths)) []

-- "Table, tally and numbers are those of handing them over one at a time, in order": on a table's bytes
abbrev pub numbers_of : Bytes → Burst → ℕ → List ℕ
numbers_of s b room = answers_on (answer_on reading) (bytes_after reading) s (calls_of b room)

abbrev pub table_after : Bytes → Burst → ℕ → Bytes
table_after s b room = bytes_after_all (answer_on reading) (bytes_after reading) s (calls_of b room)

-- "fills a lent list of answer numbers"; a refused burst leaves it
abbrev pub list_after : Bytes → Burst → List ℕ → List ℕ
list_after s b list = cond (is_whole b (length list)) (numbers_of s b (length list)) list

-- ---- with readings of 32 bits for milliseconds (document 02, C-20): each datagram by the table's clock at its turn

abbrev pub low_numbers_of : Bytes → Burst → ℕ → List ℕ
low_numbers_of s b room = answers_on answer_low bytes_low s (calls_of b room)

abbrev pub low_table_after : Bytes → Burst → ℕ → Bytes
low_table_after s b room = bytes_after_all answer_low bytes_low s (calls_of b room)

abbrev pub low_list_after : Bytes → Burst → List ℕ → List ℕ
low_list_after s b list = cond (is_whole b (length list)) (low_numbers_of s b (length list)) list

-- a refused burst: "28, not counted in the tally, before anything is handled"
abbrev pub BurstKept : Type 0
BurstKept =
    (s : Bytes) (b : Burst) (list : List ℕ) → (burst_number b (length list) ≡ 0 → ⊥)
    → (burst_number b (length list) ≡ 28) × (table_after s b (length list) ≡ s) × (list_after s b list ≡ list) × (numbers_of s b (length list) ≡ [])

abbrev pub LowBurstKept : Type 0
LowBurstKept =
    (s : Bytes) (b : Burst) (list : List ℕ) → (burst_number b (length list) ≡ 0 → ⊥)
    → (burst_number b (length list) ≡ 28) × (low_table_after s b (length list) ≡ s) × (low_list_after s b list ≡ list) × (low_numbers_of s b (length list) ≡ [])
