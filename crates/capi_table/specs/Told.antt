-- What C is told of a table and of a key, as numbers in fixed places and as a node record.
use Rattle.std.specs.Prelude.{ℕ, cond, List, [], ◌∷◌, eqb}
use Rattle.node.specs.declared.Node.{Node}
use Rattle.entry.specs.declared.PingState.{PingState}
use Rattle.entry.specs.declared.PingState.TheVariants.{Quiet, Out}
use Rattle.call_key.specs.declared.HeadNode.{HeadNode}
use Rattle.call_key.specs.declared.Held.{Held}
use Rattle.call_key.specs.declared.Held.TheVariants.{Nowhere, Entry, Replacement}
use Rattle.call_key.specs.declared.Found.{Found}
use Rattle.printout_table.specs.declared.TableState.{TableState}
use Rattle.printout_table.specs.declared.Printed.{Printed}

-- "A refusal .. changes nothing lent"
abbrev pub unless_refused : {A : Type 0} → ℕ → A → A → A
unless_refused n new old = cond (eqb n 0) new old

-- ---- a table

-- clock, buckets, seats, waiting
abbrev pub told_state : TableState → List ℕ → List ℕ
told_state t old = unless_refused t.number (t.clock.0 ∷ t.buckets ∷ t.entries ∷ t.replacements ∷ []) old

abbrev pub told_size : Printed → List ℕ → List ℕ
told_size p old = unless_refused p.number (p.size ∷ []) old

-- ---- the head of a key's bucket

-- 1 if a ping is out, and since which millisecond
abbrev pub ping_numbers : PingState → List ℕ
ping_numbers Quiet = 0 ∷ 0 ∷ []
ping_numbers (Out t) = 1 ∷ t.0 ∷ []

abbrev pub node_of_head : HeadNode → Node → Node
node_of_head h old = unless_refused h.number h.node old

abbrev pub told_head : HeadNode → List ℕ → List ℕ
told_head h old = unless_refused h.number (ping_numbers h.ping) old

-- ---- where a key's node is held

-- 1 for a seat, 2 for the waiting line; the logarithmic distance; the place, counted from 1
abbrev pub held_numbers : Held → List ℕ
held_numbers Nowhere = 0 ∷ 0 ∷ 0 ∷ []
held_numbers (Entry distance place) = 1 ∷ distance ∷ place ∷ []
held_numbers (Replacement distance place) = 2 ∷ distance ∷ place ∷ []

abbrev pub node_of_found : Found → Node → Node
node_of_found f old = unless_refused f.number f.node old

abbrev pub told_found : Found → List ℕ → List ℕ
told_found f old = unless_refused f.number (held_numbers f.held) old
