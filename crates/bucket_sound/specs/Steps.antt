-- Soundness of a bucket record by record, as the bytes lie.
use Rattle.std.specs.Prelude.{ℕ, zero, suc, ◌+◌, Bool, true, cond, not, ◌&&◌, ◌||◌, eqb, leb}
use Rattle.octets.specs.Octets.{Bytes, part, same_bytes}
use Rattle.lists.specs.Lists.{any}
use Rattle.distance.specs.Distance.{home}
use Rattle.entry.specs.declared.Entry.{Entry}
use Rattle.entry.specs.declared.Stamp.{Stamp}
use Rattle.entry.specs.Layout.{encode_entry, decode_entry}
use Rattle.bucket_model.specs.Contents.{entries_at}
use Rattle.bucket_model.specs.Rules.{is_of, is_proved, is_out}
use Rattle.bucket_model.specs.Sound.{entry_sound}

-- the own-bucket rule, where it is to be tested
abbrev pub home_if : Bool → Bytes → ℕ → Bytes → Bool
home_if tested own number key = cond tested (home own number key) true

-- a stamp of the byte form: flag 1, or flag 0 and time 0
abbrev pub stamp_form : Stamp → Bool
stamp_form s = eqb s.flag 1 || (eqb s.flag 0 && eqb s.time 0)

-- no time above the clock
abbrev pub stamp_by : ℕ → Stamp → Bool
stamp_by clock s = eqb s.flag 0 || leb s.time clock

-- proved entries where `proved`, and unproved ones with a ping out where `unproved`
abbrev pub may_stand : Bool → Bool → Entry → Bool
may_stand proved unproved e = cond (is_proved e.proof) proved (unproved && is_out e.ping)

-- what each record of a sound bucket keeps
unfoldable pub record_sound : (Bytes → Bool) → ℕ → Bool → Bool → Bytes → Bool
record_sound home clock proved unproved r =
    same_bytes (encode_entry (decode_entry r)) r && (entry_sound home clock (decode_entry r) && may_stand proved unproved (decode_entry r))

-- f of each of n records of 143 bytes from index at
unfoldable pub all_records : (Bytes → Bool) → Bytes → ℕ → ℕ → Bool
all_records f s at zero = true
all_records f s at (suc n) = f (part s at 143) && all_records f s (at + 143) n

-- each of n keys from index at is none of those after it, and none of the m from index other
unfoldable pub keys_apart : Bytes → ℕ → ℕ → ℕ → ℕ → Bool
keys_apart s at zero other m = true
keys_apart s at (suc n) other m =
    (not (any (is_of (part s at 64)) (entries_at s (at + 143) n)) && not (any (is_of (part s at 64)) (entries_at s other m)))
    && keys_apart s (at + 143) n other m
