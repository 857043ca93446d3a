-- Whether a key's node is held, and where, as the printout has it: as a seat or in the waiting line, its logarithmic distance, and its place.
use Rattle.std.specs.Prelude.{ℕ, suc, cond, List, [], ◌∷◌, eqb, length}
use Rattle.octets.specs.Octets.{Bytes}
use Rattle.lists.specs.Lists.{any, before}
use Rattle.keccak.specs.Sponge.{keccak256}
use Rattle.distance.specs.Distance.{log_distance}
use Rattle.node.specs.declared.Node.{Node}
use Rattle.node.specs.Nodes.{no_node}
use Rattle.entry.specs.declared.Entry.{Entry}
use Rattle.entry.specs.Nodes.{node_of}
use Rattle.bucket_model.specs.Contents.{Contents}
use Rattle.bucket_model.specs.Rules.{is_of, held}
use Rattle.table_model.specs.Layout.{own_of}
use Rattle.call_model.specs.Calls.{bucket_for}
use Rattle.call_model.specs.Reading.{reading}
use Rattle.call_key.specs.declared.Held.{Held}
use Rattle.call_key.specs.declared.Held.TheVariants.{Nowhere, Entry as InEntry, Replacement as InReplacement}
use Rattle.call_key.specs.declared.Found.{Found}
use Rattle.call_key.specs.Number.{key_number}

-- "places counted from 1": one more than there are before the key's
abbrev pub place_in : Bytes → List Entry → ℕ
place_in key l = suc (length (before (is_of key) l))

-- where a bucket at this logarithmic distance holds the key
abbrev pub held_in : ℕ → Bytes → Contents → Held
held_in distance key b =
    cond (any (is_of key) b.entries)
    (InEntry distance (place_in key b.entries))
    (cond (any (is_of key) b.replacements) (InReplacement distance (place_in key b.replacements)) Nowhere)

-- the first of some entries as a node record, zeros where there is none
abbrev pub first_node : List Entry → Node
first_node [] = no_node
first_node (e ∷ es) = node_of e

abbrev pub found_in : ℕ → Bytes → Contents → Found
found_in distance key b = record { number = 0; held = held_in distance key b; node = first_node (held key b) }

abbrev pub not_found : ℕ → Found
not_found n = record { number = n; held = Nowhere; node = no_node }

-- the answer number, and where the key's bucket holds its node
unfoldable pub found_on : Bytes → Bytes → Found
found_on s key =
    cond (eqb (key_number s key) 0) (found_in (log_distance (own_of s) (keccak256 key)) key (bucket_for reading s key)) (not_found (key_number s key))
