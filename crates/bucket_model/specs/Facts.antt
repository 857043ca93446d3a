-- What a bucket holds, as facts: values that have a byte form, and a sound bucket (document 01, "Sound means exactly").
use Rattle.std.specs.Prelude.{ℕ, ◌+◌, ◌<◌, ◌≤◌, ◌≡◌, Bool, true, false, ◌||◌, List, length}
use Rattle.octets.specs.Octets.{Bytes}
use Rattle.lists.specs.Lists.{All}
use Rattle.entry.specs.declared.Entry.{Entry}
use Rattle.entry.specs.declared.EndpointProof.{EndpointProof}
use Rattle.entry.specs.declared.EndpointProof.TheVariants.{Unproved, At}
use Rattle.entry.specs.declared.PingState.{PingState}
use Rattle.entry.specs.declared.PingState.TheVariants.{Quiet, Out}
use Rattle.entry.specs.Values.{IsEntry}
use Rattle.bucket_model.specs.Contents.{Contents}
use Rattle.bucket_model.specs.Rules.{max_entries, max_replacements, max_of_range, of_key, is_proved, is_out, range_count, is_promoted}
use Rattle.bucket_model.specs.Sound.{address_form}

-- P holds of every entry and of every replacement
abbrev pub Every : (Entry → Type 0) → Contents → Type 0
Every P m = All P m.entries × All P m.replacements

-- contents that a bucket can hold
pub record IsContents (m : Contents) : Type 0 where
  pub entries : All IsEntry m.entries
  pub replacements : All IsEntry m.replacements
  pub most : length m.entries ≤ 16
  pub most_waiting : length m.replacements ≤ 4

-- "no time above the table's clock"
abbrev pub ProofBy : ℕ → EndpointProof → Type 0
ProofBy clock Unproved = Unit {0}
ProofBy clock (At t) = t.0 ≤ clock

abbrev pub PingBy : ℕ → PingState → Type 0
PingBy clock Quiet = Unit {0}
PingBy clock (Out t) = t.0 ≤ clock

-- the key belongs to this bucket, no time is above the clock, and unused bytes of the address are zero
pub record EntrySound (home : Bytes → Bool) (clock : ℕ) (p : Entry) : Type 0 where
  pub at_home : home p.key ≡ true
  pub seen_by : p.seen.0 ≤ clock
  pub proof-by : ProofBy clock p.proof
  pub ping-by : PingBy clock p.ping
  pub address-form : address_form p.endpoint ≡ true

-- "at most two seats of a range" (C-16)
abbrev pub RangesKept : List Entry → Type 0
RangesKept l = All (λ p. range_count p.endpoint l ≤ max_of_range) l

-- beside these entries there is "a free seat and, for a 4-byte address, fewer than two seats of its range" for X, as it stands in this line
abbrev pub SeatFor : Bytes → List Entry → List Entry → Type 0
SeatFor X taken line = (length taken < max_entries) × All (λ p. range_count p.endpoint taken < max_of_range) (of_key X line)

pub record BucketSound (home : Bytes → Bool) (clock : ℕ) (m : Contents) : Type 0 where
  pub entries_sound : All (EntrySound home clock) m.entries
  pub replacements_sound : All (EntrySound home clock) m.replacements
  -- no node stands in it twice
  pub once : (key : Bytes) → length (of_key key m.entries) + length (of_key key m.replacements) ≤ 1
  pub entries_bound : length m.entries ≤ max_entries
  pub replacements_bound : length m.replacements ≤ max_replacements
  pub entries_proved : All (λ p. is_proved p.proof ≡ true) m.entries
  pub unproved_pinged : All (λ p. (is_proved p.proof || is_out p.ping) ≡ true) m.replacements
  pub ranges : RangesKept m.entries
  -- no proved replacement that may take an entry
  pub settled : All (λ p. is_promoted m.entries p ≡ false) m.replacements
