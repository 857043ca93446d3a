-- What a schema, a list of kinds, asks of the items of a packet's data.
use Rattle.std.specs.Prelude.{ℕ, ◌-◌, cond, List, [], ◌∷◌, Option, Some, None, eqb}
use Rattle.octets.specs.Octets.{part}
use Rattle.octets.specs.Octets as octets
use Rattle.rlp.specs.Encoding.{Item, string, list}
use Rattle.rlp.specs.Reading.{head, whole}
use Rattle.rlp.specs.declared.Item as read
use Rattle.packet_kinds.specs.Payload.{items_of}
use Rattle.packet_kinds.specs.Kinds.{worst, good_if, is_leaf, tuple, endpoint, sender, node, is_record_item}
use Rattle.packet_kinds.specs.declared.Kind.{Kind}
use Rattle.packet_kinds.specs.declared.Kind.TheVariants.{Uint, Bytes, Address, SenderAddress, Endpoint, Sender, Nodes, Record}
use Rattle.packet_kinds.specs.declared.Verdict.{Verdict}
use Rattle.packet_kinds.specs.declared.Verdict.TheVariants.{Good, Wrong, Broken}

abbrev pub each_node : List Item → Verdict
each_node [] = Good
each_node (i ∷ is) = worst (tuple node i) (each_node is)

-- an item is a list of nodes
abbrev pub nodes : Item → Verdict
nodes (string s) = Wrong
nodes (list p) = cond (whole p) (each_node (items_of p)) Broken

-- an item is what kind asks
unfoldable pub field : Kind → Item → Verdict
field (Uint max) i = good_if (is_leaf (Uint max) i)
field (Bytes n) i = good_if (is_leaf (Bytes n) i)
field Address i = good_if (is_leaf Address i)
field SenderAddress i = good_if (is_leaf SenderAddress i)
field Endpoint i = tuple endpoint i
field Sender i = tuple sender i
field Nodes i = nodes i
field Record i = good_if (is_record_item i)

-- the items are what kinds ask, in order; the first `required` must be there, and items after those of the kinds are ignored
abbrev pub fields : ℕ → List Kind → List Item → Verdict
fields required [] is = Good
fields required (kind ∷ kinds) [] = good_if (eqb required 0)
fields required (kind ∷ kinds) (i ∷ is) = worst (field kind i) (fields (required - 1) kinds is)

abbrev pub verdict_of : ℕ → List Kind → Option read.Item → octets.Bytes → Verdict
verdict_of required kinds (Some i) d =
    cond i.list (cond (whole (part d i.skip i.size)) (fields required kinds (items_of (part d i.skip i.size))) Broken) Broken
verdict_of required kinds None d = Broken

-- packet data: a list of whole items that are what kinds ask, and anything after it
abbrev pub verdict : ℕ → List Kind → octets.Bytes → Verdict
verdict required kinds d = verdict_of required kinds (head d) d
