-- One bucket swept where it lies. Assumes nothing.
use mathlib.Core.Path.{◌≡◌, sym, ap, ◌∙◌}
use mathlib.Core.Bool.{Bool, true, false, ◌&&◌}
use Prim.Native.Nat.{ℕ, ◌+◌, ◌≤◌}
use lib.ListN.{length, get_or}
use Rattle.octets.specs.Octets.{Bytes, IsBytes, part, store}
use Rattle.octets.proofs.Laws.{length_part, bytes_part}
use Rattle.lists.specs.Lists.{all}
use Rattle.lists.proofs.Laws.{and_left, and_right}
use Rattle.bucket_model.specs.Contents.{Contents, entries_at, encode_bucket, decode_bucket}
use Rattle.bucket_model.specs.Rules.{on_sweep}
use Rattle.bucket_model.specs.Sound.{sound}
use Rattle.bucket_model.proofs.ByteForm.{decode-bucket}
use Rattle.bucket_model.proofs.Sound.{BucketSound}
use Rattle.bucket_model.proofs.Kept.{sound-sweep}
use Rattle.bucket.specs.declared.Bucket.{Bucket}
use Rattle.bucket.specs.Steps.{contents, Shows, InBounds}
use Rattle.bucket.proofs.Laws.{shown, bounded_shown}
use Rattle.table_model.specs.Sound.{anywhere}
use Rattle.table_model.proofs.Records.{store-part}
use Rattle.table_model.proofs.Sound.{SoundBucket, decoded-bucket, encoded-bucket}
use Rattle.bucket_sweep.specs.Steps.{stays}
use Rattle.call_sweep.specs.Steps.{nothing_goes}
use Rattle.call_sweep.proofs.Unchanged.{sweep_unchanged}

-- the two tests of `nothing_goes`
pub goes_parts : (s : Bytes) (at now : ℕ) → at + 2862 ≤ length s → get_or s at 0 ≤ 16 → get_or s (at + 1) 0 ≤ 4 → {a b r : Bool}
    → a ≡ all (stays false now) (entries_at s (at + 2) (get_or s at 0))
    → b ≡ all (stays true now) (entries_at s (at + 2290) (get_or s (at + 1) 0))
    → r ≡ (a && b)
    → r ≡ nothing_goes now (decode_bucket (part s at 2862))
goes_parts s at now h n k ea eb er = cc (ap (nothing_goes now) (decode-bucket s at h n k))

module _ (s : Bytes) (at now : ℕ) (fits : at + 2862 ≤ length s) (h : sound anywhere now (part s at 2862) ≡ true) (bs : IsBytes s) where
  sound-held : SoundBucket anywhere now (decode_bucket (part s at 2862))
  sound-held = decoded-bucket anywhere now (part s at 2862) (length_part s at 2862 fits) (bytes_part s at 2862 bs) h

  pub nothing-gone : nothing_goes now (decode_bucket (part s at 2862)) ≡ true
      → s ≡ store s at (encode_bucket (on_sweep now (decode_bucket (part s at 2862))))
  nothing-gone g =
      let m : Contents = decode_bucket (part s at 2862) in
      let same : on_sweep now m ≡ m =
      sweep_unchanged anywhere now now m sound-held.rules
      (and_left (all (stays false now) m.entries) (all (stays true now) m.replacements) g)
      (and_right (all (stays false now) m.entries) (all (stays true now) m.replacements) g) in
      let form : encode_bucket m ≡ part s at 2862 =
      encoded-bucket anywhere now (part s at 2862) (length_part s at 2862 fits) (bytes_part s at 2862 bs) h in
      sym (ap (λ b. store s at (encode_bucket b)) same ∙ ap (λ l. store s at l) form ∙ store-part s at 2862 fits)

  module _ (b : Bucket) (loaded : Shows b (decode_bucket (part s at 2862))) where
    pub loaded-bounded : InBounds b
    loaded-bounded =
        bounded_shown b (decode_bucket (part s at 2862)) loaded sound-held.rules.entries_bound sound-held.rules.replacements_bound

    module _ (r : Bucket) (swept : Shows r (on_sweep now (contents b))) where
      is-swept : Shows r (on_sweep now (decode_bucket (part s at 2862)))
      is-swept = rw (shown b (decode_bucket (part s at 2862)) loaded) at swept

      pub swept-bounded : InBounds r
      swept-bounded =
          let after : BucketSound anywhere now (on_sweep now (decode_bucket (part s at 2862))) =
          sound-sweep anywhere now (decode_bucket (part s at 2862)) sound-held.rules in
          bounded_shown r (on_sweep now (decode_bucket (part s at 2862))) is-swept after.entries_bound after.replacements_bound

      pub swept-stored : {s' : Bytes} → s' ≡ store s at (encode_bucket (contents r))
          → s' ≡ store s at (encode_bucket (on_sweep now (decode_bucket (part s at 2862))))
      swept-stored e = e ∙ ap (λ m. store s at (encode_bucket m)) (shown r (on_sweep now (decode_bucket (part s at 2862))) is-swept)
