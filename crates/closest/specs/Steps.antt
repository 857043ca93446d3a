-- The closest call with the list by value.
use Rattle.std.specs.Prelude.{List, length}
use Rattle.octets.specs.Octets.{Bytes}
use Rattle.node.specs.declared.Node.{Node}
use Rattle.closest_nodes.specs.Listing.{closest_number, nodes_for, distances_for, list_after}
use Rattle.closest.specs.declared.Found.{Found}

-- the answer and the list after it, of a list of sixteen records by value
abbrev pub found : Bytes → Bytes → List Node → Found
found s target list =
    record {
      number = closest_number s target 16;
      count = length (nodes_for s target 16);
      distances = distances_for s target 16;
      nodes = list_after s target list;
    }
