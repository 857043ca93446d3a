-- Demand 3 over bytes: every list of calls on the bytes that `init` writes follows the rules.
use Rattle.std.specs.Prelude.{ℕ, ◌≤◌, List}
use Rattle.octets.specs.Octets.{Bytes}
use Rattle.lists.specs.Lists.{All}
use Rattle.keccak.specs.Sponge.{keccak256}
use Rattle.table_model.specs.Layout.{encode_table}
use Rattle.call_history.specs.Model.{Reading, Call, Table}
use Rattle.call_history.specs.Keccak.{with_keccak}
use Rattle.call_history.specs.Chain.{IsCall, Demand3OnBytes}
use Rattle.call_model.specs.Calls.{answer_on, bytes_after}

-- the one byte form of a table of the node with this hash; a fresh one's is `encode_table own 0 (replicate count no_contents)`
abbrev pub encode : Bytes → Table → Bytes
encode own t = encode_table own t.clock t.buckets

-- "Demand 3 is one claim about the whole list, not one for each call. The answer numbers and rules above, followed from fresh for
-- its own key and B over the calls' arguments other than the table, say who is seated, waiting or removed; each call's answer
-- number is theirs, and the table's bytes after the list are the one form of what they give." For every own key, B and list of
-- calls, whatever reads a datagram.
abbrev pub Demand3OverBytes : (Bytes → ℕ → Reading) → Type 0
Demand3OverBytes read =
    (key : Bytes) (count : ℕ) → 1 ≤ count → count ≤ 256 → (calls : List Call) → All IsCall calls
    → Demand3OnBytes (answer_on read) (bytes_after read) (with_keccak read (keccak256 key) count) (encode (keccak256 key)) calls
