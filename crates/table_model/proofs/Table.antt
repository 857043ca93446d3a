-- Laws of a table's byte form: what is read from it, and what a store of the clock or of a bucket makes of it. Assumes nothing.
use mathlib.Core.Path.{◌≡◌, refl, sym, ap, ◌∙◌}
use mathlib.Core.Logic.{◌≢◌}
use mathlib.Core.List.{List, ◌++◌, flat_map}
use Prim.Native.Nat.{ℕ, ◌+◌, ◌*◌, ◌^◌, ◌≤◌, ◌<◌}
use native.Mathlib.Omega.{arith}
use borrow.Author.Tests.{ltb-true, ltb-false}
use lib.Dec.{ltb}
use lib.ListN.{length, get_or, set, replicate, length-append, length-set}
use Rattle.octets.specs.Octets.{Bytes, part, store, big_endian}
use Rattle.octets.proofs.Laws.{part_store_before, part-store-after, part-store}
use Rattle.lists.proofs.Laws.{by_test}
use Rattle.bucket_model.specs.Contents.{Contents, no_contents, encode_bucket, decode_bucket}
use Rattle.table_model.specs.Layout.{encode_header, encode_table, offset_of, own_of, clock_of, count_of, bucket_bytes, bucket_at, buckets_of}
use Rattle.table_model.proofs.Records.{Sized, length_flat_map, part_flat_map, store_flat_map, length-tabulate, get_d_tabulate, tabulate_get_d}
use Rattle.table_model.proofs.Header.{length-encode_header, own-header, clock-header, count-header, zeros-header, store-clock}

-- ---- what a store leaves, on any bytes

-- a bucket stored in one slot leaves the header and every other slot
module _ (s v : Bytes) (j : ℕ) where
  pub header-kept : (at n : ℕ) → at + n ≤ 512 → part (store s (offset_of j) v) at n ≡ part s at n
  header-kept at n h = part_store_before v s (offset_of j) at n (omega arith)

  pub bucket-kept : (i : ℕ) → length v ≡ 2862 → i ≢ j → bucket_bytes (store s (offset_of j) v) i ≡ bucket_bytes s i
  bucket-kept i n ne =
      by_test (ltb i j)
      (λ h. part_store_before v s (offset_of j) (offset_of i) 2862 (omega (arith, ltb-true i j h)))
      (λ h. part-store-after v s (offset_of j) (offset_of i) 2862 (omega (arith, ltb-false i j h, ne)))

  pub bucket-stored : length v ≡ 2862 → offset_of (j + 1) ≤ length s → bucket_bytes (store s (offset_of j) v) j ≡ v
  bucket-stored n h = ap (λ (m : ℕ). part (store s (offset_of j) v) (offset_of j) m) (sym n) ∙ part-store v s (offset_of j) (omega arith)

-- the clock stored leaves the own hash, the count and every bucket
module _ (s v : Bytes) (n : length v ≡ 8) where
  pub own-kept : own_of (store s 32 v) ≡ own_of s
  own-kept = part_store_before v s 32 0 32 (omega arith)

  pub behind-kept : (at m : ℕ) → 40 ≤ at → part (store s 32 v) at m ≡ part s at m
  behind-kept at m h = part-store-after v s 32 at m (omega arith)

-- ---- the buckets read from bytes

pub count_read : (s : Bytes) → length (buckets_of s) ≡ count_of s
unfolding buckets_of
count_read s = length-tabulate (count_of s) (bucket_at s)

pub bucket_read : (s : Bytes) (j : ℕ) → j < count_of s → get_or (buckets_of s) j no_contents ≡ bucket_at s j
unfolding buckets_of
bucket_read s j h = get_d_tabulate (count_of s) (bucket_at s) j no_contents h

-- ---- the byte form of a table

abbrev pub SizedBuckets : List Contents → Type 0
SizedBuckets = Sized encode_bucket 2862

module _ (own : Bytes) (clock : ℕ) (buckets : List Contents) (n : length own ≡ 32) where
  pub own-table : own_of (encode_table own clock buckets) ≡ own
  unfolding encode_table
  own-table = own-header own clock (length buckets) (flat_map encode_bucket buckets) n

  pub clock-table : clock < 2 ^ 64 → clock_of (encode_table own clock buckets) ≡ clock
  unfolding encode_table
  clock-table h = clock-header own clock (length buckets) (flat_map encode_bucket buckets) n h

  pub count-table : length buckets ≤ 256 → count_of (encode_table own clock buckets) ≡ length buckets
  unfolding encode_table
  count-table h = count-header own clock (length buckets) (flat_map encode_bucket buckets) n h

  pub zeros-table : part (encode_table own clock buckets) 42 470 ≡ replicate 470 0
  unfolding encode_table
  zeros-table = zeros-header own clock (length buckets) (flat_map encode_bucket buckets) n

  -- the clock is stored: the table with that clock
  pub store-clock-table : (now : ℕ) → store (encode_table own clock buckets) 32 (big_endian 8 now) ≡ encode_table own now buckets
  unfolding encode_table
  store-clock-table now = store-clock own clock (length buckets) (flat_map encode_bucket buckets) n now

  module _ (sized : SizedBuckets buckets) where
    pub length-table : length (encode_table own clock buckets) ≡ offset_of (length buckets)
    unfolding encode_table
    length-table =
        length-append (encode_header own clock (length buckets)) (flat_map encode_bucket buckets)
        ∙ omega (arith, length-encode_header own clock (length buckets) n, length_flat_map encode_bucket 2862 buckets sized)

    pub bucket-table : (j : ℕ) → j < length buckets → bucket_bytes (encode_table own clock buckets) j ≡ encode_bucket (get_or buckets j no_contents)
    unfolding encode_table
    bucket-table j h =
        part_flat_map encode_bucket 2862 buckets j no_contents sized h (encode_table own clock buckets)
        (encode_header own clock (length buckets)) 512 refl (length-encode_header own clock (length buckets) n)

    -- a bucket is stored: the table with that bucket in its slot
    pub store-bucket-table : (j : ℕ) (b : Contents) → j < length buckets → length (encode_bucket b) ≡ 2862
        → store (encode_table own clock buckets) (offset_of j) (encode_bucket b) ≡ encode_table own clock (set buckets j b)
    unfolding encode_table
    store-bucket-table j b h k =
        let header : Bytes = encode_header own clock (length buckets) in
        let place : offset_of j ≡ length header + j * 2862 = omega (arith, length-encode_header own clock (length buckets) n) in
        ap (λ (m : ℕ). store (encode_table own clock buckets) m (encode_bucket b)) place
        ∙ store_flat_map encode_bucket 2862 buckets j b sized k h header
        ∙ ap (λ (m : ℕ). encode_header own clock m ++ flat_map encode_bucket (set buckets j b)) (sym (length-set buckets j b))

    -- every bucket is read back
    pub buckets-table : length buckets ≤ 256 → ((j : ℕ) → j < length buckets → decode_bucket (encode_bucket (get_or buckets j no_contents)) ≡ get_or buckets j no_contents)
        → buckets_of (encode_table own clock buckets) ≡ buckets
    unfolding buckets_of
    buckets-table h back =
        let s : Bytes = encode_table own clock buckets in
        let count : count_of s ≡ length buckets = count-table h in
        tabulate_get_d (count_of s) (bucket_at s) buckets no_contents (sym count)
        (λ j k. let k' : j < length buckets = omega arith in ap decode_bucket (bucket-table j k') ∙ back j k')
