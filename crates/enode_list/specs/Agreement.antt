-- "Then text and record agree both ways, up to hex case and that 0A."
use Rattle.std.specs.Prelude.{ℕ, ◌≤◌, ◌≡◌, length}
use mathlib.Core.List.{List, [], ◌∷◌, ◌++◌, flat_map}
use Rattle.octets.specs.Octets.{Bytes}
use Rattle.lists.specs.Lists.{All}
use Rattle.text.specs.Lines.{lines_of}
use Rattle.node.specs.declared.Node.{Node}
use Rattle.enode.specs.Spelling.{lowered, IsEnode}
use Rattle.enode_list.specs.declared.End.TheVariants.{Complete}
use Rattle.enode.specs.Lists.{boot_text}
use Rattle.enode_list.specs.List.{boot_nodes, boot_end}

-- a text with the hex of its keys in lower case, and with its last 0A
abbrev pub normal : Bytes → Bytes
normal text = flat_map (λ (l : Bytes). lowered l ++ (0x0a ∷ [])) (lines_of text)

pub record Agreement : Type 0 where
  -- what is written reads back as the same records
  pub read_back : (ns : List Node) (room : ℕ) → All IsEnode ns → length ns ≤ room
      → (boot_nodes room (boot_text ns) ≡ ns) × (boot_end room (boot_text ns) ≡ Complete)
  -- a text that is read to its end, written anew, is the same text
  pub written_anew : (text : Bytes) (room : ℕ) → boot_end room text ≡ Complete → boot_text (boot_nodes room text) ≡ normal text
