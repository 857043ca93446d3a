-- A reading with a list by value.
use Rattle.std.specs.Prelude.{List}
use Rattle.octets.specs.Octets.{Bytes}
use Rattle.node.specs.declared.Node.{Node}
use Rattle.enode_list.specs.List.{boot, list_after}
use Rattle.enode_list.specs.declared.Read.{Read}

-- the list has sixteen records
abbrev pub read_with : Bytes → List Node → Read
read_with text list = record { boot = boot 16 text; nodes = list_after text list }
