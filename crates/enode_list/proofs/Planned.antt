-- Laws of a reading: what is found from a line on, where some are read and their nodes stored.
--     by_line        a line fits, or it doesn't
--     begun          nothing is read
--     read           what a line is read as
--     ends-unfit, ends-full, ends-complete      the reading ends
--     goes_on        a line is read, and its node stored
--     fits           there are as many lines and as much room as nodes are read
-- Assumes nothing.
use Prim.Native.Nat.{ℕ, zero, suc, ◌+◌, ◌-◌, ◌≤◌, ◌<◌}
use mathlib.Core.Path.{◌≡◌, refl, sym, ap, ◌∙◌}
use mathlib.Core.List.{List, [], ◌∷◌, ◌++◌, append-nil}
use native.Mathlib.Numerals.{add-one}
use native.Mathlib.Omega.{arith}
use lib.ListN.{length, take, drop, set, length-set, length-take, take-append-drop}
use lib.Seq.{append_snoc, drop-drop, take-suc-set}
use Rattle.std.specs.Prelude.{Option, Some, None}
use Rattle.std.proofs.lemmas.List.{drop-set-lt}
use Rattle.octets.specs.Octets.{Bytes}
use Rattle.text.specs.Lines.{lines_of}
use Rattle.text.specs.Marks.{until}
use Rattle.text.proofs.Marks.{take-until}
use Rattle.text.proofs.Lines.{line-at, lines_none}
use Rattle.node.specs.declared.Node.{Node}
use Rattle.enode.specs.Reading.{enode_of}
use Rattle.enode_list.specs.declared.End.{End}
use Rattle.enode_list.specs.declared.End.TheVariants.{Complete, Unfit, Full}
use Rattle.enode_list.specs.declared.Boot.{Boot}
use Rattle.enode_list.specs.List.{nodes_from, end_from, boot_nodes, boot_end, boot, list_after}

-- the line from index at
abbrev line_at : Bytes → ℕ → Bytes
line_at text at = until 0x0a at text

pub by_line : {P : Type 0} (l : Bytes) → ((n : Node) → enode_of l ≡ Some n → P) → (enode_of l ≡ None → P) → P
by_line {P} l fits unfit = go (enode_of l) refl
  where
    go : (o : Option Node) → enode_of l ≡ o → P
    go (Some n) e = fits n e
    go None e = unfit e

abbrev told : ℕ → End → Boot
told count end = record { count = count; end = end }

-- the nodes of count lines are stored at the front of the list, and the other lines begin at index at
pub record Going (text : Bytes) (old list : List Node) (count at : ℕ) : Type 0 where
  pub size : length list ≡ length old
  pub few : count ≤ length old
  pub nodes : boot_nodes (length old) text ≡ take count list ++ nodes_from (length old - count) (lines_of (drop at text))
  pub end : boot_end (length old) text ≡ end_from (suc count) (length old - count) (lines_of (drop at text))
  pub rest : drop count list ≡ drop count old

pub begun : (text : Bytes) (list : List Node) → Going text list list 0 0
unfolding boot_nodes boot_end
begun text list =
    let room : length list - 0 ≡ length list = omega arith in
    record { size = refl; few = omega arith; nodes = rw room; end = rw room; rest = refl }

-- what the line from index at is read as
pub read : (text : Bytes) (at end : ℕ) {r o : Option Node} → end ≡ at + length (line_at text at) → r ≡ enode_of (take (end - at) (drop at text)) → r ≡ o → enode_of (line_at text at) ≡ o
read text at end e h is = ap enode_of (sym (take-until 0x0a text at end e)) ∙ sym h ∙ is

module _ {text : Bytes} {old list : List Node} {count at : ℕ} (g : Going text old list count at) where
  -- what a reading answers and leaves that ends here
  abbrev pub Ended : End → Type 0
  Ended end = (told count end ≡ boot (length old) text) × (list ≡ list_after text old)

  ended : (end : End) → nodes_from (length old - count) (lines_of (drop at text)) ≡ [] → end_from (suc count) (length old - count) (lines_of (drop at text)) ≡ end → Ended end
  ended end none e =
      let all : boot_nodes (length old) text ≡ take count list = g.nodes ∙ ap (λ (ns : List Node). take count list ++ ns) none ∙ append-nil (take count list) in
      let n : length (boot_nodes (length old) text) ≡ count = omega (arith, ap length all, length-take count list, g.size, g.few) in (
        rw n (ap (told count) (sym (g.end ∙ e))),
        rw n (sym (take-append-drop count list) ∙ ap (λ (ns : List Node). take count list ++ ns) g.rest ∙ ap (λ (ns : List Node). ns ++ drop count old) (sym all)),
      )

  pub ends-complete : length text ≤ at → Ended Complete
  ends-complete over = let none = lines_none text at over in ended Complete (rw none) (rw none)

  module _ (less : at < length text) {next : ℕ} (line : next ≡ at + length (line_at text at) + 1) where
    found : lines_of (drop at text) ≡ line_at text at ∷ lines_of (drop next text)
    found = rw line (line-at text at less)

    pub ends-unfit : enode_of (line_at text at) ≡ None → Ended (Unfit (count + 1))
    ends-unfit e = ended (Unfit (count + 1)) (rw found (none (length old - count))) (rw (found, add-one) (why (length old - count)))
      where
        none : (room : ℕ) → nodes_from room (line_at text at ∷ lines_of (drop next text)) ≡ []
        none zero = refl
        none (suc room) = rw e

        why : (room : ℕ) → end_from (suc count) room (line_at text at ∷ lines_of (drop next text)) ≡ Unfit (suc count)
        why zero = rw e
        why (suc room) = rw e

    module _ {n : Node} (e : enode_of (line_at text at) ≡ Some n) where
      pub ends-full : count ≡ length old → Ended (Full (count + 1))
      ends-full h = let none : length old - count ≡ 0 = omega arith in ended (Full (count + 1)) (rw (found, none)) (rw (found, none, e, add-one))

      pub goes_on : count < length old → Going text old (set list count n) (count + 1) next
      goes_on h =
          let some : length old - count ≡ suc (length old - suc count) = omega arith in
          let there : count < length list = omega (arith, g.size) in
          record {
            size = length-set list count n ∙ g.size;
            few = omega arith;
            nodes =
                rw (add-one, take-suc-set list count n there)
                (g.nodes ∙ rw (found, some, e) refl ∙ sym (append_snoc (take count list) n (nodes_from (length old - suc count) (lines_of (drop next text)))));
            end = rw add-one (g.end ∙ rw (found, some, e) refl);
            rest =
                drop-set-lt (count + 1) list count n (omega arith)
                ∙ sym (drop-drop 1 count list)
                ∙ ap (drop 1) g.rest
                ∙ drop-drop 1 count old;
          }

nodes_few : (room : ℕ) (ls : List Bytes) → (length (nodes_from room ls) ≤ length ls) × (length (nodes_from room ls) ≤ room)
nodes_few room [] = (omega arith, omega arith)
nodes_few zero (l ∷ ls) = (omega arith, omega arith)
nodes_few (suc room) (l ∷ ls) = by_line l (λ n e. let h = nodes_few room ls in rw e (omega arith, omega arith)) (λ e. rw e (omega arith, omega arith))

module _ (text : Bytes) (room : ℕ) (plan : Boot) (e : plan ≡ boot room text) where
  pub fits : (plan.count ≤ length (lines_of text)) × (plan.count ≤ room)
  unfolding boot_nodes
  fits = let h = nodes_few room (lines_of text) in let n = ap (λ (b : Boot). b.count) e in (omega arith, omega arith)
