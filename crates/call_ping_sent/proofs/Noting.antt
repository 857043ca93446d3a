-- A ping that was sent is noted: what is answered and what is written. Assumes nothing.
use mathlib.Core.Path.{◌≡◌, refl, sym, ◌∙◌}
use mathlib.Core.Bool.{false}
use Prim.Native.Nat.{ℕ, ◌≤◌, ◌<◌}
use borrow.Author.Tests.{eq-eqb, ne_eqb, leb-false}
use native.Mathlib.Omega.{arith}
use lib.ListN.{length, length-append, length-map}
use Rattle.octets.specs.Octets.{Bytes}
use Rattle.lists.specs.Lists.{first, empty}
use Rattle.lists.proofs.Laws.{passed, by_test}
use Rattle.bucket_model.specs.Contents.{Contents}
use Rattle.bucket_model.specs.Rules.{no_room, on_ping_sent, held}
use Rattle.table_model.specs.Layout.{bucket_at}
use Rattle.bucket.specs.declared.Bucket.{Bucket}
use Rattle.bucket.specs.Steps.{Shows, InBounds}
use Rattle.bucket.proofs.Laws.{bounded_shown}
use Rattle.call_touched.specs.Steps.{with_bucket}
use Rattle.call_history.specs.Model.{held_refusals}
use Rattle.call_ping_sent.specs.Steps.{note_number, after_note}

module _ (s : Bytes) (slot now : ℕ) (key address : Bytes) (udp tcp : ℕ) (hash : Bytes) {n : ℕ} (e : n ≡ first (held_refusals address udp key (bucket_at s slot))) where
  pub not_noted : (n ≡ 0 → ⊥) → (n ≡ note_number s slot address udp key) × (s ≡ after_note s slot now key address udp tcp hash)
  unfolding note_number after_note
  not_noted some = (e, sym (rw (rw e at (ne_eqb n 0 some)) refl))

  pub is-noted : {t : Bytes} → n ≡ 0 → t ≡ with_bucket s slot (on_ping_sent now key address udp tcp hash (bucket_at s slot)) now
      → (0 ≡ note_number s slot address udp key) × (t ≡ after_note s slot now key address udp tcp hash)
  unfolding note_number after_note
  is-noted none et = (sym none ∙ e, et ∙ sym (rw (rw e at (eq-eqb n 0 none)) refl))

-- where 18 does not apply there is room
pub room_left : (address : Bytes) (udp : ℕ) (key : Bytes) (m : Contents) → first (held_refusals address udp key m) ≡ 0 → no_room key m ≡ false
room_left address udp key m h = (passed (held_refusals address udp key m) refl h).1.1.0

-- the bucket after a ping that was sent is within bounds, where there is room for it
pub bounded_ping : (now : ℕ) (key address : Bytes) (udp tcp : ℕ) (hash : Bytes) (m : Contents)
    → length m.entries ≤ 16 → length m.replacements ≤ 4 → no_room key m ≡ false
    → (b : Bucket) → Shows b (on_ping_sent now key address udp tcp hash m) → InBounds b
unfolding on_ping_sent
bounded_ping now key address udp tcp hash m n k room b =
    by_test (empty (held key m))
    (λ g.
    let less : length m.replacements < 4 = leb-false 4 (length m.replacements) (rw g at room) in
    rw g (λ sh. bounded_shown b _ sh n (simp length-append (omega arith))))
    (λ g. rw g (λ sh. bounded_shown b _ sh (simp length-map n) (simp length-map k)))
