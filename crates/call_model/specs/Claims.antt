-- What is claimed of a call on a sound table: "each step is fixed from every sound table".
use Rattle.std.specs.Prelude.{ℕ, ◌≡◌, true, length}
use Rattle.octets.specs.Octets.{Bytes, IsBytes}
use Rattle.table_model.specs.Layout.{own_of, clock_of, buckets_of}
use Rattle.table_model.specs.Sound.{table_sound}
use Rattle.table_model.specs.Facts.{SoundTable}
use Rattle.call_history.specs.Model.{Reading, Call, Table, answer, next}
use Rattle.call_history.specs.Keccak.{with_keccak}
use Rattle.call_history.specs.Chain.{IsCall}
use Rattle.call_model.specs.Calls.{env_of, answer_on, bytes_after}
use Rattle.call_model.specs.OverBytes.{encode}

-- what a table's bytes hold
abbrev pub table_in : Bytes → Table
table_in s = record { clock = clock_of s; buckets = buckets_of s }

-- Whatever reads a datagram, a call's answer number and the bytes that it leaves are those of the rules' step, so that every store of a
-- bucket goes to its own slot, with the clock: on the byte form of every sound table,
abbrev pub StepOnForm : Type 0
StepOnForm =
    (read : Bytes → ℕ → Reading) (own : Bytes) (t : Table) → IsBytes own → SoundTable own t.clock t.buckets → (c : Call) → IsCall c
    → (answer_on read (encode own t) c ≡ answer (with_keccak read own (length t.buckets)) t c)
    × (bytes_after read (encode own t) c ≡ encode own (next (with_keccak read own (length t.buckets)) t c))

-- and so on all sound bytes, by what they hold
abbrev pub StepOnBytes : Type 0
StepOnBytes =
    (read : Bytes → ℕ → Reading) (s : Bytes) → IsBytes s → table_sound s ≡ true → (c : Call) → IsCall c
    → (answer_on read s c ≡ answer (env_of read s) (table_in s) c) × (bytes_after read s c ≡ encode (own_of s) (next (env_of read s) (table_in s) c))
