-- Text and record agree both ways: what `Spelling` says of one line, for all lines of a text. Assumes nothing.
use Prim.Native.Nat.{ℕ, zero, suc, ◌≤◌}
use mathlib.Core.Path.{◌≡◌, refl, sym, ap, ap₂}
use mathlib.Core.List.{List, [], ◌∷◌, ◌++◌, map, flat_map}
use native.Mathlib.Omega.{arith}
use lib.ListN.{length}
use Rattle.std.specs.Prelude.{Some}
use Rattle.octets.specs.Octets.{Bytes}
use Rattle.lists.specs.Lists.{All}
use Rattle.lists.proofs.Laws.{All-imp}
use Rattle.text.specs.Lines.{lines_of}
use Rattle.text.proofs.Lines.{OneLine, lines-joined}
use Rattle.node.specs.declared.Node.{Node}
use Rattle.enode.specs.Text.{enode_text, enode_line}
use Rattle.enode.specs.Reading.{enode_of}
use Rattle.enode.specs.Lists.{boot_text}
use Rattle.enode.specs.Spelling.{lowered, IsEnode}
use Rattle.enode.proofs.Spelling.{spelling}
use Rattle.enode_list.specs.declared.End.{End}
use Rattle.enode_list.specs.declared.End.TheVariants.{Complete}
use Rattle.enode_list.specs.List.{end_number, nodes_from, end_from, boot_nodes, boot_end}
use Rattle.enode_list.specs.Agreement.{Agreement}
use Rattle.enode_list.proofs.Planned.{by_line}
use Rattle.enode_list.proofs.Shown.{text-line, text-lowered}

-- an end that has a number is not the end of the text
not_complete : {P : Type 0} (end : End) → (end_number end ≡ 0 → ⊥) → end ≡ Complete → P
not_complete end h e = absurd (h (ap end_number e))

-- the line of a node is read as that node
reads : (n : Node) → IsEnode n → enode_of (enode_text n) ≡ Some n
reads n is = (spelling (enode_text n) n).1 (text-lowered n is, is)

reads_all : (ns : List Node) (room line : ℕ) → All IsEnode ns → length ns ≤ room
    → (nodes_from room (map enode_text ns) ≡ ns) × (end_from line room (map enode_text ns) ≡ Complete)
reads_all [] room line is h = (refl, refl)
reads_all (n ∷ ns) zero line is h = absurd (omega arith)
reads_all (n ∷ ns) (suc room) line is h =
    let more = reads_all ns room (suc line) is.1 (omega arith) in
    rw (reads n is.0) (ap (λ (ms : List Node). n ∷ ms) more.0, more.1)

-- a line that fits is the line of its node, up to hex case
line_is : (l : Bytes) (n : Node) → enode_of l ≡ Some n → enode_line n ≡ lowered l ++ (0x0a ∷ [])
line_is l n e = ap (λ (t : Bytes). t ++ (0x0a ∷ [])) (sym ((spelling l n).0 e).0)

lines_are : (ls : List Bytes) (room line : ℕ) → end_from line room ls ≡ Complete
    → flat_map enode_line (nodes_from room ls) ≡ flat_map (λ (l : Bytes). lowered l ++ (0x0a ∷ [])) ls
unfolding flat_map
lines_are [] room line = λ e. refl
lines_are (l ∷ ls) zero line =
    by_line l (λ n f. rw f (not_complete _ (λ z. omega arith))) (λ f. rw f (not_complete _ (λ z. omega arith)))
lines_are (l ∷ ls) (suc room) line =
    by_line l
    (λ n f. rw f (λ e. ap₂ ◌++◌ (line_is l n f) (lines_are ls room (suc line) e)))
    (λ f. rw f (not_complete _ (λ z. omega arith)))

pub agreement : Agreement
unfolding boot_nodes boot_end boot_text
agreement =
    record {
      read_back = λ ns room is h. rw (lines-joined enode_text ns (All-imp IsEnode (λ n. OneLine (enode_text n)) text-line ns is)) (reads_all ns room _ is h);
      written_anew = λ text room e. lines_are (lines_of text) room _ e;
    }
