-- A list of node records read from enode lines. Request C-11: "Refusals: 22 for a line that doesn't fit, with its number, then 19 for a good line
-- when the list is full; either ends the reading and is told as its end, the call itself being done (0), so earlier records stay written."
use Rattle.std.specs.Prelude.{ℕ, zero, suc, cond, List, [], ◌∷◌, ◌++◌, length, drop, Option, Some, None, is_some}
use Rattle.octets.specs.Octets.{Bytes}
use Rattle.text.specs.Lines.{lines_of}
use Rattle.node.specs.declared.Node.{Node}
use Rattle.enode.specs.Reading.{enode_of}
use Rattle.enode_list.specs.declared.End.{End}
use Rattle.enode_list.specs.declared.End.TheVariants.{Complete, Unfit, Full}
use Rattle.enode_list.specs.declared.Boot.{Boot}

-- the numbers of document 02
abbrev pub end_number : End → ℕ
end_number Complete = 0
end_number (Unfit line) = 22
end_number (Full line) = 19

-- a node before others; none where it isn't there
abbrev pub then_nodes : Option Node → List Node → List Node
then_nodes (Some n) ns = n ∷ ns
then_nodes None ns = []

-- the nodes of lines, up to the first that doesn't fit, and at most room
abbrev pub nodes_from : ℕ → List Bytes → List Node
nodes_from room [] = []
nodes_from zero (l ∷ ls) = []
nodes_from (suc room) (l ∷ ls) = then_nodes (enode_of l) (nodes_from room ls)

-- why the reading of lines ends, the first of which has this number
abbrev pub end_from : ℕ → ℕ → List Bytes → End
end_from line room [] = Complete
end_from line zero (l ∷ ls) = cond (is_some (enode_of l)) (Full line) (Unfit line)
end_from line (suc room) (l ∷ ls) = cond (is_some (enode_of l)) (end_from (suc line) room ls) (Unfit line)

-- the nodes that a list of `room` records receives
unfoldable pub boot_nodes : ℕ → Bytes → List Node
boot_nodes room text = nodes_from room (lines_of text)

-- "line numbers always count from 1"
unfoldable pub boot_end : ℕ → Bytes → End
boot_end room text = end_from 1 room (lines_of text)

-- what the call answers: how many records the list received, and why the reading ended
abbrev pub boot : ℕ → Bytes → Boot
boot room text = record { count = length (boot_nodes room text); end = boot_end room text }

-- the lent list after the call: the records after the count are untouched
abbrev pub list_after : Bytes → List Node → List Node
list_after text list = boot_nodes (length list) text ++ drop (length (boot_nodes (length list) text)) list
