-- When a bucket is sound, as a test that can be run (document 01, "Sound means exactly").
use Rattle.std.specs.Prelude.{ℕ, Bool, true, false, cond, not, ◌&&◌, ◌||◌, List, [], ◌∷◌, ◌++◌, eqb, leb, length, get_or, replicate}
use Rattle.octets.specs.Octets.{Bytes, part, same_bytes}
use Rattle.lists.specs.Lists.{any, all}
use Rattle.node.specs.declared.Endpoint.{Endpoint}
use Rattle.entry.specs.declared.Entry.{Entry}
use Rattle.entry.specs.declared.EndpointProof.{EndpointProof}
use Rattle.entry.specs.declared.EndpointProof.TheVariants.{Unproved, At}
use Rattle.entry.specs.declared.PingState.{PingState}
use Rattle.entry.specs.declared.PingState.TheVariants.{Quiet, Out}
use Rattle.bucket_model.specs.Contents.{Contents, encode_bucket, decode_bucket}
use Rattle.bucket_model.specs.Rules.{max_entries, max_replacements, max_of_range, range_count, may_take, is_of, is_proved, is_out}

-- "no time above the table's clock"
abbrev pub proof_by : ℕ → EndpointProof → Bool
proof_by clock Unproved = true
proof_by clock (At t) = leb t.0 clock

abbrev pub ping_by : ℕ → PingState → Bool
ping_by clock Quiet = true
ping_by clock (Out t) = leb t.0 clock

abbrev pub in_time : ℕ → Entry → Bool
in_time clock e = leb e.seen.0 clock && (proof_by clock e.proof && ping_by clock e.ping)

-- the address has 16 bytes, or 4 and zeros after them
abbrev pub address_form : Endpoint → Bool
address_form e = eqb e.len 16 || (eqb e.len 4 && same_bytes (part e.address 4 12) (replicate 12 0))

-- what holds of every entry of a sound bucket; `home` says that a key is in its own bucket
unfoldable pub entry_sound : (Bytes → Bool) → ℕ → Entry → Bool
entry_sound home clock e = home e.key && (in_time clock e && address_form e.endpoint)

-- "every unproved waiting node with a ping out"; C-16 "allows proved waiting nodes beside free seats only if their range is at two"
abbrev pub may_wait : List Entry → Entry → Bool
may_wait taken e = cond (is_proved e.proof) (not (may_take taken e.endpoint)) (is_out e.ping)

-- C-16: "at most two seats of a range"
abbrev pub ranges_kept : List Entry → Bool
ranges_kept l = all (λ e. leb (range_count e.endpoint l) max_of_range) l

-- "keys distinct"
unfoldable pub distinct : List Entry → Bool
distinct [] = true
distinct (e ∷ es) = not (any (is_of e.key) es) && distinct es

-- contents that keep every rule
unfoldable pub keeps_rules : (Bytes → Bool) → ℕ → Contents → Bool
keeps_rules home clock m =
    all (entry_sound home clock) (m.entries ++ m.replacements)
    && (distinct (m.entries ++ m.replacements)
    && (all (λ e. is_proved e.proof) m.entries
    && (ranges_kept m.entries && all (may_wait m.entries) m.replacements)))

-- bytes of a sound bucket: counts within bounds, the one byte form of what they hold, and the rules
unfoldable pub sound : (Bytes → Bool) → ℕ → Bytes → Bool
sound home clock s =
    leb (get_or s 0 0) max_entries
    && (leb (get_or s 1 0) max_replacements
    && (same_bytes (encode_bucket (decode_bucket s)) s && keeps_rules home clock (decode_bucket s)))
