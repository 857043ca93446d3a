-- What holds of every entry of a bucket, through each rule.
use Prim.Native.Nat.{ℕ}
use mathlib.Core.Path.{◌≡◌}
use mathlib.Core.Bool.{true}
use Rattle.octets.specs.Octets.{Bytes}
use Rattle.lists.specs.Lists.{select, empty}
use Rattle.lists.proofs.Laws.{by_test, All-select, All-append, All-map}
use Rattle.entry.specs.declared.Entry.{Entry}
use Rattle.bucket_model.specs.Contents.{Contents}
use Rattle.bucket_model.specs.Rules.{of_key, is_of, held, to_tail, pinged, ponged, heard, new_entry, stays_entry, stays_replacement, takes_entry, on_ping_sent, on_pong, on_heard, on_sweep}
pub use Rattle.bucket_model.specs.Facts.{Every}
use Rattle.bucket_model.proofs.Keys.{All-update, All-to_tail, All-promoted, All-remaining}

module _ (P : Entry → Type 0) (now : ℕ) (m : Contents) (every : Every P m) where
  pub every_ping_sent : (key address : Bytes) (udp tcp : ℕ) (hash : Bytes)
      → (empty (held key m) ≡ true → P (new_entry now key address udp tcp hash)) → ((p : Entry) → P p → P (pinged now hash p))
      → Every P (on_ping_sent now key address udp tcp hash m)
  unfolding on_ping_sent
  every_ping_sent key address udp tcp hash new f =
      by_test (empty (held key m))
      (λ g. rw g (every.0, All-append P m.replacements _ every.1 (new g, tt)))
      (λ g. rw g (
        All-update P (pinged now hash) f key m.entries every.0,
        All-update P (pinged now hash) f key m.replacements every.1,
      ))

  pub every-pong : (key : Bytes) → ((p : Entry) → P p → P (ponged now p)) → Every P (on_pong now key m)
  unfolding on_pong
  every-pong key f =
      let tail = All-to_tail P (ponged now) f key m.entries every.0 in
      by_test (takes_entry key m)
      (λ g. rw g (
        All-append P (to_tail key (ponged now) m.entries) _ tail
            (All-map P P (ponged now) f (of_key key m.replacements) (All-select P (is_of key) m.replacements every.1)),
        All-select P _ m.replacements every.1,
      ))
      (λ g. rw g (tail, All-update P (ponged now) f key m.replacements every.1))

  pub every-heard : (key : Bytes) → ((p : Entry) → P p → P (heard now p)) → Every P (on_heard now key m)
  unfolding on_heard
  every-heard key f =
      (All-to_tail P (heard now) f key m.entries every.0, All-update P (heard now) f key m.replacements every.1)

  pub every-sweep : Every P (on_sweep now m)
  unfolding on_sweep
  every-sweep =
      let line = All-select P (stays_replacement now) m.replacements every.1 in (
        All-append P (select (stays_entry now) m.entries) _
            (All-select P (stays_entry now) m.entries every.0)
            (All-promoted P (select (stays_entry now) m.entries) (select (stays_replacement now) m.replacements) line),
        All-remaining P (select (stays_entry now) m.entries) (select (stays_replacement now) m.replacements) line,
      )
