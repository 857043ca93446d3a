-- The rules of one bucket (document 01, "Seats and the waiting line"): tests of its entries, and what an accepted call changes.
use Rattle.std.specs.Prelude.{ℕ, ◌-◌, Bool, true, false, cond, not, ◌&&◌, ◌||◌, List, [], ◌∷◌, ◌++◌, map, leb, ltb, eqb, length, replicate}
use Rattle.octets.specs.Octets.{Bytes, part, same_bytes}
use Rattle.lists.specs.Lists.{select, any, empty}
use Rattle.node.specs.declared.MonotonicMillis.{MonotonicMillis}
use Rattle.node.specs.declared.Endpoint.{Endpoint}
use Rattle.node.specs.Nodes.{address_of}
use Rattle.entry.specs.declared.Entry.{Entry}
use Rattle.entry.specs.declared.EndpointProof.{EndpointProof}
use Rattle.entry.specs.declared.EndpointProof.TheVariants.{Unproved, At}
use Rattle.entry.specs.declared.PingState.{PingState}
use Rattle.entry.specs.declared.PingState.TheVariants.{Quiet, Out}
use Rattle.bucket_model.specs.Contents.{Contents}

-- "Sixteen seats and four waiting places are constants of the bucket"
abbrev pub max_entries : ℕ
max_entries = 16

abbrev pub max_replacements : ℕ
max_replacements = 4

-- document 02, C-16: at most two entries of a bucket may be of one range
abbrev pub max_of_range : ℕ
max_of_range = 2

-- a pong is in time up to and including 500 ms after its ping
abbrev pub ping_timeout : ℕ
ping_timeout = 500

-- a proof holds up to and including 43,200,000 ms
abbrev pub proof_lifetime : ℕ
proof_lifetime = 43200000

abbrev pub millis : ℕ → MonotonicMillis
millis n = record { 0 = n }

-- ---- the entries of one key

abbrev pub is_of : Bytes → Entry → Bool
is_of key e = same_bytes key e.key

abbrev pub of_key : Bytes → List Entry → List Entry
of_key key = select (is_of key)

abbrev pub without : Bytes → List Entry → List Entry
without key = select (λ e. not (is_of key e))

-- f applied to the entries of one key, where they stand
abbrev pub update : Bytes → (Entry → Entry) → List Entry → List Entry
update key f = map (λ e. cond (is_of key e) (f e) e)

-- f applied to the entries of one key, moved to the tail
abbrev pub to_tail : Bytes → (Entry → Entry) → List Entry → List Entry
to_tail key f l = without key l ++ map f (of_key key l)

-- where a node is held: at most one entry of a sound bucket
abbrev pub held : Bytes → Contents → List Entry
held key b = of_key key b.entries ++ of_key key b.replacements

-- ---- ranges (document 02, C-16): "4-byte addresses with the same first three bytes (a range); 16-byte addresses aren't counted"

abbrev pub same_range : Endpoint → Endpoint → Bool
same_range a b = eqb a.len 4 && (eqb b.len 4 && same_bytes (part a.address 0 3) (part b.address 0 3))

-- how many of the entries are of the endpoint's range; of a 16-byte address none
unfoldable pub range_count : Endpoint → List Entry → ℕ
range_count a l = length (select (λ e. same_range a e.endpoint) l)

-- its range has two entries
abbrev pub range_full : List Entry → Endpoint → Bool
range_full l a = leb max_of_range (range_count a l)

-- a replacement may take an entry beside these: one is free, and its range has fewer than two
unfoldable pub may_take : List Entry → Endpoint → Bool
may_take l a = ltb (length l) max_entries && not (range_full l a)

-- ---- tests of an entry; times are compared by their difference

abbrev pub is_proved : EndpointProof → Bool
is_proved Unproved = false
is_proved (At t) = true

abbrev pub proof_holds : ℕ → EndpointProof → Bool
proof_holds now Unproved = false
proof_holds now (At t) = leb (now - t.0) proof_lifetime

abbrev pub proof_expired : ℕ → EndpointProof → Bool
proof_expired now Unproved = false
proof_expired now (At t) = ltb proof_lifetime (now - t.0)

abbrev pub is_out : PingState → Bool
is_out Quiet = false
is_out (Out t) = true

-- a ping went out more than 500 ms ago
abbrev pub is_overdue : ℕ → PingState → Bool
is_overdue now Quiet = false
is_overdue now (Out t) = ltb ping_timeout (now - t.0)

-- held at this address and UDP port
abbrev pub is_at : Bytes → ℕ → Entry → Bool
is_at address udp e = same_bytes address (address_of e.endpoint) && eqb udp e.endpoint.udp

-- document 01's verified: "held at that address and UDP port and its proof is at most 43,200,000 ms old"
abbrev pub is_verified : ℕ → Bytes → ℕ → Entry → Bool
is_verified now address udp e = is_at address udp e && proof_holds now e.proof

-- document 01's awaited: "a ping is out, and hash, address and UDP port agree"
abbrev pub is_awaited : Bytes → Bytes → ℕ → Entry → Bool
is_awaited hash address udp e = is_out e.ping && (same_bytes hash e.hash && is_at address udp e)

-- ---- the conditions of the answer numbers 13 to 18, of a key's bucket

-- 13
abbrev pub not_verified : ℕ → Bytes → ℕ → Bytes → Contents → Bool
not_verified now address udp key b = not (any (is_verified now address udp) (held key b))

-- 14
abbrev pub not_awaited : Bytes → Bytes → ℕ → Bytes → Contents → Bool
not_awaited hash address udp key b = not (any (is_awaited hash address udp) (held key b))

-- 15
abbrev pub is_late : ℕ → Bytes → Contents → Bool
is_late now key b = any (λ e. is_overdue now e.ping) (held key b)

-- 16
abbrev pub held_elsewhere : Bytes → ℕ → Bytes → Contents → Bool
held_elsewhere address udp key b = any (λ e. not (is_at address udp e)) (held key b)

-- 17
abbrev pub ping_out : Bytes → Contents → Bool
ping_out key b = any (λ e. is_out e.ping) (held key b)

-- 18
abbrev pub no_room : Bytes → Contents → Bool
no_room key b = empty (held key b) && leb max_replacements (length b.replacements)

-- ---- what an accepted call does to an entry

abbrev pub pinged : ℕ → Bytes → Entry → Entry
pinged now hash e =
    record { key = e.key; endpoint = e.endpoint; seen = e.seen; proof = e.proof; ping = Out (millis now); hash = hash }

-- the hash of the ping that the pong answers stays
abbrev pub ponged : ℕ → Entry → Entry
ponged now e =
    record { key = e.key; endpoint = e.endpoint; seen = millis now; proof = At (millis now); ping = Quiet; hash = e.hash }

abbrev pub heard : ℕ → Entry → Entry
heard now e =
    record { key = e.key; endpoint = e.endpoint; seen = millis now; proof = e.proof; ping = e.ping; hash = e.hash }

-- a 4- or 16-byte address in the 16 bytes that hold it
abbrev pub endpoint_of : Bytes → ℕ → ℕ → Endpoint
endpoint_of address udp tcp =
    record { len = length address; address = address ++ replicate (16 - length address) 0; udp = udp; tcp = tcp }

abbrev pub new_entry : ℕ → Bytes → Bytes → ℕ → ℕ → Bytes → Entry
new_entry now key address udp tcp hash =
    record { key = key; endpoint = endpoint_of address udp tcp; seen = millis 0; proof = Unproved; ping = Out (millis now); hash = hash }

-- ---- what an accepted call does to a bucket

-- Ping sent: a held node gets its ping state and hash; a new one joins the end of the replacements.
unfoldable pub on_ping_sent : ℕ → Bytes → Bytes → ℕ → ℕ → Bytes → Contents → Contents
on_ping_sent now key address udp tcp hash b =
    cond (empty (held key b))
    (record { entries = b.entries; replacements = b.replacements ++ (new_entry now key address udp tcp hash ∷ []) })
    (record { entries = update key (pinged now hash) b.entries; replacements = update key (pinged now hash) b.replacements })

-- the replacement of a key may take an entry
abbrev pub takes_entry : Bytes → Contents → Bool
takes_entry key b = any (λ e. may_take b.entries e.endpoint) (of_key key b.replacements)

-- Pong: an entry goes to the tail; a replacement that may takes an entry there, else it stays in line.
unfoldable pub on_pong : ℕ → Bytes → Contents → Contents
on_pong now key b =
    cond (takes_entry key b)
    (record {
      entries = to_tail key (ponged now) b.entries ++ map (ponged now) (of_key key b.replacements);
      replacements = without key b.replacements;
    })
    (record { entries = to_tail key (ponged now) b.entries; replacements = update key (ponged now) b.replacements })

-- Another packet of a verified node: an entry goes to the tail, a replacement keeps its place in line.
unfoldable pub on_heard : ℕ → Bytes → Contents → Contents
on_heard now key b = record { entries = to_tail key (heard now) b.entries; replacements = update key (heard now) b.replacements }

-- Sweep: what stays of the entries, and of the replacements
abbrev pub stays_entry : ℕ → Entry → Bool
stays_entry now e = not (is_overdue now e.ping)

abbrev pub stays_replacement : ℕ → Entry → Bool
stays_replacement now e = not (is_overdue now e.ping) && not (proof_expired now e.proof)

-- a replacement is promoted in its turn, where these entries are taken
abbrev pub is_promoted : List Entry → Entry → Bool
is_promoted taken e = is_proved e.proof && may_take taken e.endpoint

-- of a line of replacements, each in its turn: the proved ones that take an entry behind those taken, and those that stay. A node whose
-- range has two entries is passed over.
abbrev pub promoted : List Entry → List Entry → List Entry
promoted taken [] = []
promoted taken (e ∷ line) =
    cond (is_promoted taken e) (e ∷ promoted (taken ++ (e ∷ [])) line) (promoted taken line)

abbrev pub remaining : List Entry → List Entry → List Entry
remaining taken [] = []
remaining taken (e ∷ line) =
    cond (is_promoted taken e) (remaining (taken ++ (e ∷ [])) line) (e ∷ remaining taken line)

unfoldable pub on_sweep : ℕ → Contents → Contents
on_sweep now b =
    let kept = select (stays_entry now) b.entries in
    let line = select (stays_replacement now) b.replacements in
    record { entries = kept ++ promoted kept line; replacements = remaining kept line }

-- ---- what an accepted datagram's answer tells of the bucket as it was given

-- a ping is due to a sender that isn't held, or is held at this endpoint, not verified, with no ping out
abbrev pub ping_due : ℕ → Bytes → ℕ → Bytes → Contents → Bool
ping_due now address udp key b =
    empty (held key b)
    || any (λ e. is_at address udp e && (not (is_verified now address udp e) && not (is_out e.ping))) (held key b)

-- the sender of a pong is an entry already
abbrev pub has_entry : Bytes → Contents → Bool
has_entry key b = not (empty (of_key key b.entries))

abbrev pub free_entry : Contents → Bool
free_entry b = ltb (length b.entries) max_entries

-- the range of the sender of a pong has two entries
abbrev pub range_taken : Bytes → Contents → Bool
range_taken key b = any (λ e. range_full b.entries e.endpoint) (of_key key b.replacements)
