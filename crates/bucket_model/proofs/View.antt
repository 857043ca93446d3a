-- What each rule does to the entries of one node: of another key than the call's, nothing.
use Prim.Native.Nat.{ℕ, ◌+◌, ◌<◌, ◌≤◌}
use mathlib.Core.Path.{◌≡◌, refl, ap, ◌∙◌}
use mathlib.Core.Bool.{Bool, true, false}
use mathlib.Core.List.{List, [], ◌∷◌, ◌++◌, map, append-nil}
use native.Mathlib.Omega.{arith}
use lib.ListN.{length}
use Rattle.octets.specs.Octets.{Bytes, same_bytes}
use Rattle.octets.proofs.Laws.{same_refl}
use Rattle.lists.specs.Lists.{select, empty}
use Rattle.lists.proofs.Laws.{by_test, nil, empty-append, select-append, select-comm, length-select}
use Rattle.entry.specs.declared.Entry.{Entry}
use Rattle.bucket_model.specs.Contents.{Contents}
use Rattle.bucket_model.specs.Rules.{is_of, of_key, to_tail, held, pinged, ponged, heard, new_entry, promoted, remaining, stays_entry, stays_replacement, takes_entry, on_ping_sent, on_pong, on_heard, on_sweep}
use Rattle.bucket_model.proofs.Keys.{of_key-of_key, of_key-without, of_key-map, of_key-update, of_key-to_tail, other-without, other-map, other-update, other_to_tail, promoted_or_remaining}
use Rattle.bucket_model.specs.Facts.{BucketSound}

-- the entries and replacements that a bucket holds of one key
pub record Holds (X : Bytes) (b : Contents) (es rs : List Entry) : Type 0 where
  pub entries : of_key X b.entries ≡ es
  pub replacements : of_key X b.replacements ≡ rs

-- it holds of X what b holds
abbrev pub SameAs : Bytes → Contents → Contents → Type 0
SameAs X b c = Holds X c (of_key X b.entries) (of_key X b.replacements)

-- ---- another key's call

module _ (X key : Bytes) (d : same_bytes X key ≡ false) (now : ℕ) (b : Contents) where
  pub other_ping_sent : (address : Bytes) (udp tcp : ℕ) (hash : Bytes) → SameAs X b (on_ping_sent now key address udp tcp hash b)
  unfolding on_ping_sent
  other_ping_sent address udp tcp hash =
      by_test (empty (held key b))
      (λ g. rw g (record { entries = refl; replacements = simp (select-append, d, append-nil) }))
      (λ g. rw g (record {
        entries = other-update X key d (pinged now hash) (λ p. refl) b.entries;
        replacements = other-update X key d (pinged now hash) (λ p. refl) b.replacements;
      }))

  pub other-heard : SameAs X b (on_heard now key b)
  unfolding on_heard
  other-heard =
      record {
        entries = other_to_tail X key d (heard now) (λ p. refl) b.entries;
        replacements = other-update X key d (heard now) (λ p. refl) b.replacements;
      }

  pub other-pong : SameAs X b (on_pong now key b)
  unfolding on_pong
  other-pong =
      by_test (takes_entry key b)
      (λ g. rw g (record {
        entries =
            select-append (is_of X) (to_tail key (ponged now) b.entries) (map (ponged now) (of_key key b.replacements))
            ∙ rw (other_to_tail X key d (ponged now) (λ p. refl) b.entries, other-map X key d (ponged now) (λ p. refl) b.replacements, append-nil);
        replacements = other-without X key d b.replacements;
      }))
      (λ g. rw g (record {
        entries = other_to_tail X key d (ponged now) (λ p. refl) b.entries;
        replacements = other-update X key d (ponged now) (λ p. refl) b.replacements;
      }))

-- ---- the node's own call

module _ (now : ℕ) (key : Bytes) (b : Contents) where
  -- f applied to what b holds of the key
  abbrev pub Mapped : (Entry → Entry) → Contents → Type 0
  Mapped f c = Holds key c (map f (of_key key b.entries)) (map f (of_key key b.replacements))

  pub own-heard : Mapped (heard now) (on_heard now key b)
  unfolding on_heard
  own-heard =
      record {
        entries = of_key-to_tail (heard now) (λ p. refl) key b.entries;
        replacements = of_key-update (heard now) (λ p. refl) key b.replacements;
      }

  -- a replacement that may not take an entry stays in line
  pub own-pong-stays : takes_entry key b ≡ false → Mapped (ponged now) (on_pong now key b)
  unfolding on_pong
  own-pong-stays h =
      rw h
      (record {
        entries = of_key-to_tail (ponged now) (λ p. refl) key b.entries;
        replacements = of_key-update (ponged now) (λ p. refl) key b.replacements;
      })

  -- one that may takes it
  pub own-pong-takes : takes_entry key b ≡ true
      → Holds key (on_pong now key b) (map (ponged now) (of_key key b.entries) ++ map (ponged now) (of_key key b.replacements)) []
  unfolding on_pong
  own-pong-takes h =
      rw h
      (record {
        entries =
            select-append (is_of key) (to_tail key (ponged now) b.entries) (map (ponged now) (of_key key b.replacements))
            ∙ rw (
              of_key-to_tail (ponged now) (λ p. refl) key b.entries,
              of_key-map (ponged now) (λ p. refl) key (of_key key b.replacements),
              of_key-of_key key b.replacements,
            );
        replacements = of_key-without key b.replacements;
      })

  module _ (address : Bytes) (udp tcp : ℕ) (hash : Bytes) where
    -- a held node is pinged where it stands
    pub own-pinged : empty (held key b) ≡ false → Mapped (pinged now hash) (on_ping_sent now key address udp tcp hash b)
    unfolding on_ping_sent
    own-pinged g =
        rw g (record {
          entries = of_key-update (pinged now hash) (λ p. refl) key b.entries;
          replacements = of_key-update (pinged now hash) (λ p. refl) key b.replacements;
        })

    -- a new one joins the line
    pub own-joined : empty (held key b) ≡ true
        → Holds key (on_ping_sent now key address udp tcp hash b) [] (new_entry now key address udp tcp hash ∷ [])
    unfolding on_ping_sent
    own-joined g =
        let none = empty-append (of_key key b.entries) (of_key key b.replacements) g in
        rw g (record {
          entries = nil (of_key key b.entries) none.0;
          replacements = simp (select-append, same_refl key, nil (of_key key b.replacements) none.1);
        })

-- ---- a sweep

-- the entries and the replacements that a sweep keeps
abbrev pub kept_entries : ℕ → Contents → List Entry
kept_entries now b = select (stays_entry now) b.entries

abbrev pub kept_replacements : ℕ → Contents → List Entry
kept_replacements now b = select (stays_replacement now) b.replacements

module _ (X : Bytes) (now : ℕ) (b : Contents) where
  pub own-sweep : Holds X (on_sweep now b)
      (select (stays_entry now) (of_key X b.entries) ++ of_key X (promoted (kept_entries now b) (kept_replacements now b)))
      (of_key X (remaining (kept_entries now b) (kept_replacements now b)))
  unfolding on_sweep
  own-sweep =
      record {
        entries =
            select-append (is_of X) (select (stays_entry now) b.entries) (promoted (kept_entries now b) (kept_replacements now b))
            ∙ rw (select-comm (is_of X) (stays_entry now) b.entries);
        replacements = refl;
      }

  -- what the sweep keeps of the node in line
  pub of_key_kept : of_key X (kept_replacements now b) ≡ select (stays_replacement now) (of_key X b.replacements)
  of_key_kept = select-comm (is_of X) (stays_replacement now) b.replacements

  -- a node that has an entry is not in line, and takes no other
  pub sweep-entry : (home : Bytes → Bool) (clock : ℕ) → BucketSound home clock b → 0 < length (of_key X b.entries)
      → of_key X (on_sweep now b).entries ≡ select (stays_entry now) (of_key X b.entries)
  sweep-entry home clock ok has =
      let none : of_key X (promoted (kept_entries now b) (kept_replacements now b)) ≡ [] =
      nil (of_key X (promoted (kept_entries now b) (kept_replacements now b)))
      (omega (
        arith,
        promoted_or_remaining X (kept_entries now b) (kept_replacements now b),
        ap length of_key_kept,
        length-select (stays_replacement now) (of_key X b.replacements),
        ok.once X,
      )) in
      own-sweep.entries ∙ rw (none, append-nil)
