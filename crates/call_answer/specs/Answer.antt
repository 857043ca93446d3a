-- What a datagram call answers: its number, and of an accepted packet what document 01 says under "Seats and the waiting line".
use Rattle.std.specs.Prelude.{ℕ, cond, eqb, get_or}
use Rattle.octets.specs.Octets.{Bytes}
use Rattle.node.specs.declared.Node.{Node}
use Rattle.entry.specs.declared.Entry.{Entry}
use Rattle.entry.specs.Layout.{no_entry}
use Rattle.node.specs.Nodes.{no_node}
use Rattle.entry.specs.Nodes.{node_of}
use Rattle.bucket_model.specs.Contents.{Contents}
use Rattle.bucket_model.specs.Rules.{ping_due, has_entry, free_entry, range_taken}
use Rattle.packet.specs.declared.Ping as ping
use Rattle.packet.specs.declared.Pong as pong
use Rattle.packet.specs.declared.Packet.{Packet}
use Rattle.packet.specs.declared.Packet.TheVariants as packet
use Rattle.call_answer.specs.declared.Standing.{Standing}
use Rattle.call_answer.specs.declared.Standing.TheVariants.{Tail, TookEntry, RangeFull, Waiting}
use Rattle.call_answer.specs.declared.Outcome.{Outcome}
use Rattle.call_answer.specs.declared.Outcome.TheVariants.{Refused, Ping, Pong, FindNode, Neighbors, EnrRequest, EnrResponse}
use Rattle.call_answer.specs.declared.Received.{Received}

-- an answer that names no node
abbrev pub plain : Outcome → Received
plain o = record { outcome = o; head = no_node }

-- "A refusal returns its number alone"
abbrev pub refusal : ℕ → Received
refusal n = plain (Refused n)

-- the head: "the seat put at the tail longest ago"
abbrev pub head_of : Contents → Entry
head_of b = get_or b.entries 0 no_entry

-- a pong's sender: "A seated node goes to the tail. A waiting node takes a free seat at the tail, else stays in line, and the answer
-- names the head seat and whether a ping is out to it." C-16: "A waiting node isn't seated while its range has two seats, even with seats
-- free, and its pong then names no head."
abbrev pub standing : Bytes → Contents → Standing
standing key b =
    cond (has_entry key b) Tail (cond (range_taken key b) RangeFull (cond (free_entry b) TookEntry (Waiting (head_of b).ping)))

-- the node that the answer names
abbrev pub named : Standing → Entry → Node
named Tail e = no_node
named TookEntry e = no_node
named RangeFull e = no_node
named (Waiting ping) e = node_of e

abbrev pub accepted_pong : Bytes → pong.Pong → Contents → Received
accepted_pong key p b = record { outcome = Pong p (standing key b); head = named (standing key b) (head_of b) }

-- a ping: a pong is due, and a ping too, if so
abbrev pub accepted_ping : ℕ → Bytes → ℕ → Bytes → ping.Ping → Contents → Received
accepted_ping now address udp key p b = plain (Ping p (ping_due now address udp key b))

-- an accepted packet, with the bucket as it was given
abbrev pub accepted : ℕ → Bytes → ℕ → Bytes → Packet → Contents → Received
accepted now address udp key (packet.Ping p) b = accepted_ping now address udp key p b
accepted now address udp key (packet.Pong p) b = accepted_pong key p b
accepted now address udp key (packet.FindNode p) b = plain (FindNode p)
accepted now address udp key (packet.Neighbors p) b = plain (Neighbors p)
accepted now address udp key (packet.EnrRequest p) b = plain (EnrRequest p)
accepted now address udp key (packet.EnrResponse p) b = plain (EnrResponse p)

-- the answer by its number
abbrev pub unless_refused : ℕ → Received → Received
unless_refused n r = cond (eqb n 0) r (refusal n)

-- document 01's number of an answer
abbrev pub outcome_number : Outcome → ℕ
outcome_number (Refused n) = n
outcome_number (Ping p due) = 0
outcome_number (Pong p s) = 0
outcome_number (FindNode p) = 0
outcome_number (Neighbors p) = 0
outcome_number (EnrRequest p) = 0
outcome_number (EnrResponse p) = 0

abbrev pub number_of : Received → ℕ
number_of r = outcome_number r.outcome
