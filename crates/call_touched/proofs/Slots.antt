-- A sound bucket where it lies in the table, and a bucket that is put there. Assumes nothing.
use mathlib.Core.Path.{◌≡◌, ap, ◌∙◌}
use mathlib.Core.Bool.{Bool, true, ◌&&◌}
use mathlib.Core.List.{◌++◌}
use Prim.Native.Nat.{ℕ, ◌+◌, ◌≤◌}
use native.Mathlib.Omega.{arith}
use lib.Dec.{leb}
use lib.ListN.{length, get_or}
use Rattle.octets.specs.Octets.{Bytes, IsBytes, same_bytes}
use Rattle.octets.proofs.Laws.{length_part, bytes_part}
use Rattle.lists.specs.Lists.{all}
use Rattle.lists.proofs.Laws.{and_left, and_right}
use Rattle.distance.specs.Distance.{home}
use Rattle.bucket_model.specs.Contents.{Contents, encode_bucket, decode_bucket}
use Rattle.bucket_model.specs.Rules.{is_proved}
use Rattle.bucket_model.specs.Sound.{entry_sound, may_wait, ranges_kept, distinct, keeps_rules, sound}
use Rattle.bucket_model.proofs.Sound.{BucketSound}
use Rattle.bucket_model.proofs.Values.{decoded-sound}
use Rattle.table_model.specs.Layout.{own_of, clock_of, count_of, number_at, offset_of, bucket_bytes, bucket_at}
use Rattle.table_model.proofs.Header.{header-sound}
use Rattle.table_model.proofs.Sound.{counts_at}
use Rattle.bucket.specs.declared.Bucket.{Bucket}
use Rattle.bucket.specs.Steps.{contents, Shows}
use Rattle.bucket.proofs.Laws.{shown, bounded_shown}
use Rattle.bucket_lookup.specs.Steps.{Ready}
use Rattle.call_touched.specs.Steps.{SoundAt, with_bucket}

-- the keys in a sound bucket's bytes are distinct
module _ (q : Bytes → Bool) (clock : ℕ) (s : Bytes) (h : sound q clock s ≡ true) where
  apart : distinct ((decode_bucket s).entries ++ (decode_bucket s).replacements) ≡ true
  unfolding sound keeps_rules
  apart =
      let m = decode_bucket s in
      let a = leb (get_or s 0 0) 16 in
      let b = leb (get_or s 1 0) 4 in
      let c = same_bytes (encode_bucket m) s in
      let d = all (entry_sound q clock) (m.entries ++ m.replacements) in
      let e = distinct (m.entries ++ m.replacements) in
      let f = all (λ p. is_proved p.proof) m.entries && (ranges_kept m.entries && all (may_wait m.entries) m.replacements) in
      and_left e f (and_right d (e && f) (and_right c (d && (e && f)) (and_right b (c && (d && (e && f))) (and_right a (b && (c && (d && (e && f)))) h))))

module _ (s : Bytes) (slot : ℕ) (h : SoundAt s slot) where
  abbrev at : ℕ
  at = offset_of slot

  pub fits : offset_of (slot + 1) ≤ length s
  fits =
      let header = header-sound s h.header in
      let kept = h.kept in
      omega (arith, header.size)

  pub most : count_of s ≤ 256
  most = (header-sound s h.header).most

  pub counts : (get_or s at 0 ≤ 16) × (get_or s (at + 1) 0 ≤ 4)
  counts = counts_at _ _ s at (omega (arith, fits)) h.bucket

  module _ (bs : IsBytes s) where
    pub held-sound : BucketSound (home (own_of s) (number_at (count_of s) slot)) (clock_of s) (bucket_at s slot)
    held-sound =
        (decoded-sound (home (own_of s) (number_at (count_of s) slot)) (clock_of s) (bucket_bytes s slot)
        (length_part s at 2862 (omega (arith, fits))) (bytes_part s at 2862 bs) h.bucket).0

    pub is-ready : (b : Bucket) → Shows b (bucket_at s slot) → Ready b
    is-ready b sh =
        record {
          bounded = bounded_shown b (bucket_at s slot) sh held-sound.entries_bound held-sound.replacements_bound;
          keys = ap (λ (m : Contents). distinct (m.entries ++ m.replacements)) (shown b (bucket_at s slot) sh) ∙ apart _ _ _ h.bucket;
        }

-- the bucket and the clock are written
pub written : (s : Bytes) (slot now : ℕ) (b : Bucket) (m : Contents) {t : Bytes} → Shows b m → t ≡ with_bucket s slot (contents b) now → t ≡ with_bucket s slot m now
written s slot now b m sh e = e ∙ ap (λ (x : Contents). with_bucket s slot x now) (shown b m sh)
