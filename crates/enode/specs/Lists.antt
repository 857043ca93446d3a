-- A boot list as text: the lines of its records one after the other.
use Rattle.std.specs.Prelude.{Bool}
use mathlib.Core.List.{List, flat_map}
use Rattle.octets.specs.Octets.{Bytes}
use Rattle.lists.specs.Lists.{all}
use Rattle.node.specs.declared.Node.{Node}
use Rattle.enode.specs.Text.{enode_line, can_enode}

-- what the writer writes, and whether it can: a list with a record that isn't writable is 20
unfoldable pub boot_text : List Node → Bytes
boot_text ns = flat_map enode_line ns

abbrev pub can_boot : List Node → Bool
can_boot ns = all can_enode ns
