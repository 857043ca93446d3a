-- A packet reaches its sender's bucket: what is answered and what is written. Assumes nothing.
use mathlib.Core.Path.{◌≡◌, refl, sym, ap, ◌∙◌}
use mathlib.Core.Bool.{true, false}
use Prim.Native.Nat.{ℕ, ◌≤◌}
use borrow.Author.Tests.{eq-eqb, ne_eqb}
use lib.Dec.{eqb}
use Rattle.octets.specs.Octets.{Bytes, IsBytes}
use Rattle.distance.specs.Distance.{home}
use Rattle.bucket_model.proofs.Sound.{BucketSound}
use Rattle.bucket_model.proofs.Kept.{sound-later, sound-heard, sound-pong}
use Rattle.table_model.specs.Layout.{bucket_at, own_of, clock_of, count_of, number_at}
use Rattle.packet.specs.declared.Packet.{Packet}
use Rattle.call_history.specs.Model.{on_datagram, Reading}
use Rattle.call_history.proofs.Step.{by_datagram}
use Rattle.call_model.specs.Calls.{env_of}
use Rattle.call_model.specs.Reading.{packet_reading, reading}
use Rattle.bucket.specs.declared.Bucket.{Bucket}
use Rattle.bucket.specs.Steps.{Shows, InBounds}
use Rattle.bucket.proofs.Laws.{bounded_shown}
use Rattle.call_touched.specs.Steps.{with_bucket, SoundAt}
use Rattle.call_touched.proofs.Slots.{held-sound}
use Rattle.call_answer.specs.Answer.{accepted, unless_refused}
use Rattle.call_packet.specs.declared.Reply.{Reply}
use Rattle.call_packet.specs.Steps.{RepliesTo}
use Rattle.call_datagram.specs.Steps.{packet_number, delivered, after_delivery}

module _ (s : Bytes) (slot now : ℕ) (address : Bytes) (udp : ℕ) (key g : Bytes) (p : Packet) {reply : Reply}
    (h : RepliesTo (env_of reading s) now address udp key g p (bucket_at s slot) reply) where
  pub replied : reply.answer ≡ delivered s slot now address udp key g p
  unfolding delivered
  replied = h.answer ∙ ap (λ (n : ℕ). unless_refused n (accepted now address udp key p (bucket_at s slot))) h.number

  pub not-delivered : (reply.number ≡ 0 → ⊥) → s ≡ after_delivery s slot now address udp key g p
  unfolding after_delivery
  not-delivered some =
      let no : eqb (packet_number s slot now address udp key g p) 0 ≡ false = rw h.number at (ne_eqb reply.number 0 some) in
      sym (rw no refl)

  pub is-delivered : {t : Bytes} → reply.number ≡ 0 → t ≡ with_bucket s slot (on_datagram now address udp key (packet_reading g p) (bucket_at s slot)) now
      → t ≡ after_delivery s slot now address udp key g p
  unfolding after_delivery
  is-delivered none et =
      let yes : eqb (packet_number s slot now address udp key g p) 0 ≡ true = rw h.number at (eq-eqb reply.number 0 none) in
      et ∙ sym (rw yes refl)

-- the bucket after an accepted packet is within bounds
pub bounded_datagram : (s : Bytes) (slot : ℕ) → SoundAt s slot → IsBytes s
    → (now : ℕ) (address : Bytes) (udp : ℕ) (key : Bytes) (r : Reading) → clock_of s ≤ now
    → (b : Bucket) → Shows b (on_datagram now address udp key r (bucket_at s slot)) → InBounds b
bounded_datagram s slot h bs now address udp key r late b sh =
    let q = home (own_of s) (number_at (count_of s) slot) in
    let was : BucketSound q now (bucket_at s slot) = sound-later q (clock_of s) now (bucket_at s slot) late (held-sound s slot h bs) in
    let is : BucketSound q now (on_datagram now address udp key r (bucket_at s slot)) =
    by_datagram (BucketSound q now) now address udp key r (bucket_at s slot)
    (λ _. was)
    (λ _. sound-heard q now key (bucket_at s slot) was)
    (λ _. sound-pong q now key (bucket_at s slot) was) in
    bounded_shown b (on_datagram now address udp key r (bucket_at s slot)) sh is.entries_bound is.replacements_bound
