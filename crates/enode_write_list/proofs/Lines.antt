-- The lines of the nodes from an index on: their text, its size, and what writing them leaves. Assumes nothing.
use Prim.Native.Nat.{ℕ, ◌+◌, ◌≤◌, ◌<◌}
use mathlib.Core.Path.{◌≡◌, refl, sym, ap, ◌∙◌}
use mathlib.Core.Bool.{Bool, true, ◌&&◌}
use mathlib.Core.List.{List, [], ◌∷◌, ◌++◌, flat_map}
use native.Mathlib.Numerals.{add-one}
use lib.ListN.{length, drop, get_or, length-append, drop_of_length-le}
use lib.Seq.{drop-cons}
use Rattle.std.specs.List.{list_all}
use Rattle.octets.specs.Octets.{Bytes, store}
use Rattle.octets.proofs.Laws.{store-append}
use Rattle.lists.proofs.Laws.{and_left, and_right}
use Rattle.node.specs.declared.Node.{Node}
use Rattle.enode.specs.Text.{can_enode, enode_line}
use Rattle.enode.specs.Lists.{can_boot, boot_text}

-- what an index past the end gives
abbrev pub no_node : Node
no_node = record { key = []; endpoint = record { len = 0; address = []; udp = 0; tcp = 0 } }

module _ (ns : List Node) (i : ℕ) where
  -- the nodes from the index on
  abbrev pub rest : List Node
  rest = drop i ns

  pub none_left : length ns ≤ i → boot_text rest ≡ []
  unfolding boot_text flat_map
  none_left h = rw (drop_of_length-le ns h) refl

  module _ (d : Node) (h : i < length ns) where
    next_node : rest ≡ get_or ns i d ∷ drop (i + 1) ns
    next_node = rw add-one (drop-cons ns i d h)

    pub next_text : boot_text rest ≡ enode_line (get_or ns i d) ++ boot_text (drop (i + 1) ns)
    unfolding boot_text flat_map
    next_text = rw next_node refl

    pub next_size : length (boot_text rest) ≡ length (enode_line (get_or ns i d)) + length (boot_text (drop (i + 1) ns))
    next_size = ap length next_text ∙ length-append (enode_line (get_or ns i d)) (boot_text (drop (i + 1) ns))

    can_here : can_boot rest ≡ (can_enode (get_or ns i d) && can_boot (drop (i + 1) ns))
    can_here = ap can_boot next_node

    pub next_writable : can_boot rest ≡ true → (can_enode (get_or ns i d) ≡ true) × (can_boot (drop (i + 1) ns) ≡ true)
    next_writable e =
        let both = sym can_here ∙ e in
        (and_left (can_enode (get_or ns i d)) (can_boot (drop (i + 1) ns)) both, and_right (can_enode (get_or ns i d)) (can_boot (drop (i + 1) ns)) both)

    -- the line at the index is written, and then the rest
    pub next_store : (buf : Bytes) (at : ℕ) → store (store buf at (enode_line (get_or ns i d))) (at + length (enode_line (get_or ns i d))) (boot_text (drop (i + 1) ns)) ≡ store buf at (boot_text rest)
    next_store buf at = sym (store-append (enode_line (get_or ns i d)) (boot_text (drop (i + 1) ns)) buf at) ∙ ap (store buf at) (sym next_text)

pub as_all : (ns : List Node) → list_all can_enode ns ≡ can_boot ns
as_all [] = refl
as_all (n ∷ ns) = ap (λ (b : Bool). can_enode n && b) (as_all ns)
