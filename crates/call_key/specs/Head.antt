-- The head of a key's bucket: document 01's "head seat", which the answer to a pong names where its sender waits.
use Rattle.std.specs.Prelude.{ℕ, cond, List, [], ◌∷◌, eqb}
use Rattle.octets.specs.Octets.{Bytes}
use Rattle.node.specs.declared.Node.{Node}
use Rattle.node.specs.Nodes.{no_node}
use Rattle.entry.specs.declared.Entry.{Entry}
use Rattle.entry.specs.declared.PingState.{PingState}
use Rattle.entry.specs.declared.PingState.TheVariants.{Quiet}
use Rattle.entry.specs.Nodes.{node_of}
use Rattle.call_model.specs.Calls.{bucket_for}
use Rattle.call_model.specs.Reading.{reading}
use Rattle.call_key.specs.declared.HeadNode.{HeadNode}
use Rattle.call_key.specs.Number.{key_number}

-- a node and its ping state as a head
abbrev pub head_node : Node → PingState → HeadNode
head_node n ping = record { number = 0; node = n; ping = ping }

abbrev pub head_entry : Entry → HeadNode
head_entry e = head_node (node_of e) e.ping

-- no entry: zeros
abbrev pub no_head : ℕ → HeadNode
no_head n = record { number = n; node = no_node; ping = Quiet }

abbrev pub first_of : List Entry → HeadNode
first_of [] = no_head 0
first_of (e ∷ es) = head_entry e

abbrev pub head_by : ℕ → List Entry → HeadNode
head_by n entries = cond (eqb n 0) (first_of entries) (no_head n)

-- the answer number, and the first entry of the key's bucket
unfoldable pub head_on : Bytes → Bytes → HeadNode
head_on s key = head_by (key_number s key) (bucket_for reading s key).entries
