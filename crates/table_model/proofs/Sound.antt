-- Sound bytes are exactly the byte forms of sound tables, and each table has one. Assumes nothing.
use mathlib.Core.Path.{◌≡◌, refl, sym, ap, ◌∙◌}
use mathlib.Core.Bool.{Bool, true, false, ◌&&◌}
use mathlib.Core.List.{List, [], ◌∷◌, ◌++◌, flat_map}
use Prim.Native.Nat.{ℕ, zero, suc, ◌+◌, ◌≤◌, ◌<◌}
use native.Mathlib.Nat.{add-zero}
use native.Mathlib.Omega.{arith}
use borrow.Author.Tests.{leb-true, eqb-true, eqb-false}
use lib.Dec.{eqb, leb}
use lib.ListN.{length, get_or, drop}
use Rattle.octets.specs.Octets.{Bytes, IsBytes, part, same_bytes}
use Rattle.octets.proofs.Laws.{length_part, bytes_part, get_d_part, number_less}
use Rattle.lists.specs.Lists.{All}
use Rattle.lists.proofs.Laws.{by_test, and_left, and_right}
use Rattle.distance.specs.Distance.{home}
use Rattle.bucket_model.specs.Contents.{Contents, no_contents, encode_bucket, decode_bucket}
use Rattle.bucket_model.specs.Sound.{keeps_rules, sound}
use Rattle.bucket_model.specs.Facts.{IsContents}
use Rattle.bucket_model.proofs.ByteForm.{decode_encode_bucket, length_bucket}
use Rattle.bucket_model.proofs.Exact.{sound_has_form}
use Rattle.bucket_model.proofs.Values.{sound-contents, sound-encoded, decoded-sound}
use Rattle.table_model.specs.Layout.{encode_header, encode_table, offset_of, number_at, own_of, clock_of, count_of, bucket_bytes, bucket_at, buckets_of, header_sound}
use Rattle.table_model.specs.Sound.{all_below, bucket_sound, buckets_sound, table_sound}
pub use Rattle.table_model.specs.Facts.{SoundBucket, SoundTable}
use Rattle.table_model.specs.Claims.{SoundIsTable, TableOfSound, FormIsSound, FormInjective}
use Rattle.table_model.proofs.Records.{flat_map_tabulate}
use Rattle.table_model.proofs.Header.{HeaderSound, header-sound, sound-header, header_form}
use Rattle.table_model.proofs.Table.{SizedBuckets, count_read, bucket_read, own-table, clock-table, count-table, zeros-table, length-table, bucket-table, buckets-table}

-- ---- a test at each number

pub all-below : (n : ℕ) (q : ℕ → Bool) → all_below n q ≡ true → (i : ℕ) → i < n → q i ≡ true
unfolding all_below
all-below zero q h i k = absurd (omega arith)
all-below (suc n) q h i k =
    by_test (eqb i n)
    (λ e. ap q (eqb-true i n e) ∙ and_right (all_below n q) (q n) h)
    (λ e. all-below n q (and_left (all_below n q) (q n) h) i (omega (arith, eqb-false i n e)))

pub below_all : (n : ℕ) (q : ℕ → Bool) → ((i : ℕ) → i < n → q i ≡ true) → all_below n q ≡ true
unfolding all_below
below_all zero q h = refl
below_all (suc n) q h = cc (below_all n q (λ i k. h i (omega arith)), h n (omega arith))

pub below_false : (n : ℕ) (q : ℕ → Bool) (i : ℕ) → i < n → q i ≡ false → all_below n q ≡ false
below_false n q i k h =
    by_test (all_below n q) (λ t. absurd (let both : true ≡ false = sym (all-below n q t i k) ∙ h in let z : ◌≡◌ {A = ℕ} 0 1 = cc in omega arith)) (λ t. t)

-- ---- a bucket

module _ (home : Bytes → Bool) (clock : ℕ) (m : Contents) (b : SoundBucket home clock m) where
  is-contents : IsContents m
  is-contents = sound-contents home clock m b.rules b.values

  pub bucket-size : length (encode_bucket m) ≡ 2862
  bucket-size = length_bucket m is-contents

  pub bucket-back : decode_bucket (encode_bucket m) ≡ m
  bucket-back = decode_encode_bucket m is-contents

module _ (home : Bytes → Bool) (clock : ℕ) (s : Bytes) (n : length s ≡ 2862) (bs : IsBytes s) (h : sound home clock s ≡ true) where
  pub decoded-bucket : SoundBucket home clock (decode_bucket s)
  decoded-bucket =
      let d = decoded-sound home clock s n bs h in
      record { rules = d.0; values = d.1 }

  pub encoded-bucket : encode_bucket (decode_bucket s) ≡ s
  encoded-bucket =
      let f = sound_has_form home clock s n bs h in
      ap (λ l. encode_bucket (decode_bucket l)) f.form
      ∙ ap encode_bucket (decode_encode_bucket f.held f.is)
      ∙ sym f.form

-- the counts of sound bytes
sound_counts : (home : Bytes → Bool) (clock : ℕ) (s : Bytes) → sound home clock s ≡ true → (get_or s 0 0 ≤ 16) × (get_or s 1 0 ≤ 4)
unfolding sound
sound_counts home clock s h =
    let a = leb (get_or s 0 0) 16 in
    let b = leb (get_or s 1 0) 4 in
    let rest = same_bytes (encode_bucket (decode_bucket s)) s && keeps_rules home clock (decode_bucket s) in
    (leb-true (get_or s 0 0) 16 (and_left a (b && rest) h), leb-true (get_or s 1 0) 4 (and_left b rest (and_right a (b && rest) h)))

pub counts_at : (home : Bytes → Bool) (clock : ℕ) (s : Bytes) (at : ℕ) → at + 2862 ≤ length s → sound home clock (part s at 2862) ≡ true
    → (get_or s at 0 ≤ 16) × (get_or s (at + 1) 0 ≤ 4)
counts_at home clock s at fits h =
    let n = sound_counts home clock (part s at 2862) h in
    let e : get_or (part s at 2862) 0 0 ≡ get_or s at 0 = get_d_part s at 2862 0 (omega arith) ∙ ap (λ (i : ℕ). get_or s i 0) (add-zero at) in
    let f : get_or (part s at 2862) 1 0 ≡ get_or s (at + 1) 0 = get_d_part s at 2862 1 (omega arith) in
    (omega (arith, n.0), omega (arith, n.1))

-- ---- a table

All_get_d : {A : Type 0} (P : A → Type 0) (l : List A) (d : A) → ((j : ℕ) → j < length l → P (get_or l j d)) → All P l
All_get_d P [] d h = tt
All_get_d P (a ∷ l) d h = (h 0 (omega arith), All_get_d P l d (λ j k. h (suc j) (omega arith)))

module _ (own : Bytes) (clock : ℕ) (buckets : List Contents) (f : SoundTable own clock buckets) where
  pub sized-table : SizedBuckets buckets
  sized-table = All_get_d (λ m. length (encode_bucket m) ≡ 2862) buckets no_contents (λ j h. bucket-size (home own (number_at (length buckets) j)) clock (get_or buckets j no_contents) (f.each j h))

  -- what was written is read back
  pub own_back : own_of (encode_table own clock buckets) ≡ own
  own_back = own-table own clock buckets f.own_size

  pub clock-back : clock_of (encode_table own clock buckets) ≡ clock
  clock-back = clock-table own clock buckets f.own_size f.clock_fits

  pub count-back : count_of (encode_table own clock buckets) ≡ length buckets
  count-back = count-table own clock buckets f.own_size f.most

  pub bucket-at-back : (j : ℕ) → j < length buckets → bucket_at (encode_table own clock buckets) j ≡ get_or buckets j no_contents
  bucket-at-back j h = ap decode_bucket (bucket-table own clock buckets f.own_size sized-table j h) ∙ bucket-back (home own (number_at (length buckets) j)) clock (get_or buckets j no_contents) (f.each j h)

  pub buckets-back : buckets_of (encode_table own clock buckets) ≡ buckets
  buckets-back = buckets-table own clock buckets f.own_size sized-table f.most (λ j h. bucket-back (home own (number_at (length buckets) j)) clock (get_or buckets j no_contents) (f.each j h))

  pub header-of-form : header_sound (encode_table own clock buckets) ≡ true
  header-of-form =
      let s : Bytes = encode_table own clock buckets in
      sound-header s
      (record {
        one = omega (arith, count-back, f.one);
        most = omega (arith, count-back, f.most);
        size = omega (arith, count-back, length-table own clock buckets f.own_size sized-table);
        zeros = zeros-table own clock buckets f.own_size;
      })

  pub buckets-of-form : buckets_sound (encode_table own clock buckets) ≡ true
  unfolding buckets_sound
  buckets-of-form =
      let s : Bytes = encode_table own clock buckets in
      below_all (count_of s) (bucket_sound s)
      (λ j k. let k' : j < length buckets = omega (arith, count-back) in
      simp (own_back, clock-back, count-back, bucket-table own clock buckets f.own_size sized-table j k')
      (sound-encoded (home own (number_at (length buckets) j)) clock (get_or buckets j no_contents) (f.each j k').rules (f.each j k').values))

pub form_is_sound : FormIsSound
unfolding table_sound
form_is_sound own clock buckets f = cc (header-of-form own clock buckets f, buckets-of-form own clock buckets f)

-- sound bytes are the byte form of what they hold, and that is a sound table
pub table_header : (s : Bytes) → table_sound s ≡ true → HeaderSound s
unfolding table_sound
table_header s h = header-sound s (and_left (header_sound s) (buckets_sound s) h)

module _ (s : Bytes) (h : table_sound s ≡ true) where
  bucket-holds : (j : ℕ) → j < count_of s → bucket_sound s j ≡ true
  unfolding table_sound buckets_sound
  bucket-holds j k = all-below (count_of s) (bucket_sound s) (and_right (header_sound s) (buckets_sound s) h) j k

  slot-size : (j : ℕ) → j < count_of s → length (bucket_bytes s j) ≡ 2862
  slot-size j k = length_part s (offset_of j) 2862 (omega (arith, (table_header s h).size))

pub sound_is_table : SoundIsTable
sound_is_table s bs h =
    record {
      own_size = length_part s 0 32 (omega (arith, (table_header s h).size));
      clock_fits = number_less s 32 8 (omega (arith, (table_header s h).size)) bs;
      one = omega (arith, count_read s, (table_header s h).one);
      most = omega (arith, count_read s, (table_header s h).most);
      each = λ j k.
          let k' : j < count_of s = omega (arith, count_read s) in
          simp (count_read s, bucket_read s j k')
          (decoded-bucket (home (own_of s) (number_at (count_of s) j)) (clock_of s) (bucket_bytes s j) (slot-size s h j k')
          (bytes_part s (offset_of j) 2862 bs) (bucket-holds s h j k'));
    }

pub table_of_sound : TableOfSound
unfolding encode_table buckets_of
table_of_sound s bs h =
    let all : flat_map encode_bucket (buckets_of s) ≡ drop 512 s =
    flat_map_tabulate encode_bucket 2862 (count_of s) (bucket_at s) s 512 (table_header s h).size
    (λ j k. encoded-bucket (home (own_of s) (number_at (count_of s) j)) (clock_of s) (bucket_bytes s j) (slot-size s h j k)
    (bytes_part s (offset_of j) 2862 bs) (bucket-holds s h j k)) in
    ap (λ (n : ℕ). encode_header (own_of s) (clock_of s) n ++ flat_map encode_bucket (buckets_of s)) (count_read s)
    ∙ ap (λ l. encode_header (own_of s) (clock_of s) (count_of s) ++ l) all
    ∙ sym (header_form s bs (table_header s h))

pub form_injective : FormInjective
form_injective own own' clock clock' buckets buckets' f f' e = (
  sym (own_back own clock buckets f) ∙ ap own_of e ∙ own_back own' clock' buckets' f',
  (
    sym (clock-back own clock buckets f) ∙ ap clock_of e ∙ clock-back own' clock' buckets' f',
    sym (buckets-back own clock buckets f) ∙ ap buckets_of e ∙ buckets-back own' clock' buckets' f',
  ),
)
