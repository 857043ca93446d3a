-- An entry's node record.
use Rattle.node.specs.declared.Node.{Node}
use Rattle.entry.specs.declared.Entry.{Entry}

abbrev pub node_of : Entry → Node
node_of e = record { key = e.key; endpoint = e.endpoint }
