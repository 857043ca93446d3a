-- A bucket of a sound table where it lies: its counts, its entries, their addresses. Assumes nothing.
use mathlib.Core.Path.{◌≡◌, ap}
use mathlib.Core.Bool.{Bool, true, ◌&&◌}
use Prim.Native.Nat.{ℕ, ◌+◌, ◌≤◌, ◌<◌}
use native.Mathlib.Omega.{arith}
use borrow.Author.Tests.{eqb-true}
use lib.Dec.{eqb}
use lib.ListN.{length, get_or, replicate}
use Rattle.octets.specs.Octets.{Bytes, IsBytes, part, same_bytes}
use Rattle.lists.proofs.Laws.{and_left, and_right, All-imp, or_elim}
use Rattle.distance.specs.Distance.{home}
use Rattle.entry.specs.declared.Entry.{Entry}
use Rattle.bucket_model.specs.Contents.{Contents, entries_at}
use Rattle.bucket_model.specs.Facts.{EntrySound}
use Rattle.bucket_model.proofs.ByteForm.{decode-bucket}
use Rattle.table_model.specs.Layout.{own_of, clock_of, count_of, offset_of, number_at, bucket_at, header_sound}
use Rattle.table_model.specs.Sound.{bucket_sound, buckets_sound, table_sound}
use Rattle.table_model.specs.Facts.{SoundBucket}
use Rattle.table_model.proofs.Sound.{all-below, counts_at, table_header, sound_is_table}
use Rattle.table_model.proofs.Table.{count_read, bucket_read}
use Rattle.printout_entry.specs.EntryRow.{HasAddress}
use Rattle.printout.specs.Steps.{BucketIn}

-- an address of a sound entry has at most 16 bytes
address_in : (home : Bytes → Bool) (clock : ℕ) (e : Entry) → EntrySound home clock e → HasAddress e
address_in home clock e h =
    let p = e.endpoint in
    let zeros = same_bytes (part p.address 4 12) (replicate 12 0) in
    or_elim (eqb p.len 16) (eqb p.len 4 && zeros) h.address-form (λ t. omega (arith, eqb-true p.len 16 t))
    (λ t. omega (arith, eqb-true p.len 4 (and_left (eqb p.len 4) zeros t)))

-- the header is there
pub header_in : (s : Bytes) → table_sound s ≡ true → 512 ≤ length s
header_in s h = omega (arith, (table_header s h).size)

pub at-most : (s : Bytes) → table_sound s ≡ true → count_of s ≤ 256
at-most s h = (table_header s h).most

module _ (s : Bytes) (h : table_sound s ≡ true) (slot : ℕ) (k : slot < count_of s) where
  pub slot-in : offset_of (slot + 1) ≤ length s
  slot-in = omega (arith, (table_header s h).size)

  bucket-sound : bucket_sound s slot ≡ true
  unfolding table_sound buckets_sound
  bucket-sound = all-below (count_of s) (bucket_sound s) (and_right (header_sound s) (buckets_sound s) h) slot k

  pub counts : (get_or s (offset_of slot) 0 ≤ 16) × (get_or s (offset_of slot + 1) 0 ≤ 4)
  counts = counts_at (home (own_of s) (number_at (count_of s) slot)) (clock_of s) s (offset_of slot) (omega (arith, slot-in)) bucket-sound

  -- what it holds, by its place in the bytes
  pub bucket-is : bucket_at s slot ≡ record { entries = entries_at s (offset_of slot + 2) (get_or s (offset_of slot) 0); replacements = entries_at s (offset_of slot + 2290) (get_or s (offset_of slot + 1) 0) }
  bucket-is = decode-bucket s (offset_of slot) (omega (arith, slot-in)) counts.0 counts.1

  module _ (bs : IsBytes s) where
    pub held : SoundBucket (home (own_of s) (number_at (count_of s) slot)) (clock_of s) (bucket_at s slot)
    held = simp (count_read s, bucket_read s slot k) at ((sound_is_table s bs h).each slot (omega (arith, count_read s)))

    pub bucket-in : BucketIn s slot
    bucket-in =
        let q = home (own_of s) (number_at (count_of s) slot) in
        let rules = held.rules in
        record {
          within = slot-in;
          entries = record {
            few = counts.0;
            within = omega (arith, slot-in, counts.0);
            addresses = rw (ap (λ (m : Contents). m.entries) bucket-is) at (All-imp (EntrySound q (clock_of s)) HasAddress (address_in q (clock_of s)) (bucket_at s slot).entries rules.entries_sound);
          };
          few = counts.1;
          replacements = record {
            few = omega (arith, counts.1);
            within = omega (arith, slot-in, counts.1);
            addresses = rw (ap (λ (m : Contents). m.replacements) bucket-is) at (All-imp (EntrySound q (clock_of s)) HasAddress (address_in q (clock_of s)) (bucket_at s slot).replacements rules.replacements_sound);
          };
        }
