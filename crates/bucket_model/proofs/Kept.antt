-- Each rule leaves a sound bucket sound at the new clock; an empty bucket is sound.
use Prim.Native.Nat.{ℕ, ◌-◌, ◌<◌, ◌≤◌}
use mathlib.Core.Path.{◌≡◌, refl, ap, sym, ◌∙◌}
use mathlib.Core.Logic.{⊎_elim}
use mathlib.Core.Bool.{Bool, true, false, not, ◌&&◌, ◌||◌}
use mathlib.Core.List.{List, [], ◌∷◌, ◌++◌, map, append-nil}
use native.Mathlib.Omega.{arith}
use borrow.Author.Tests.{ltb-true, ltb-false, leb-false}
use lib.Dec.{ltb}
use lib.ListN.{length, replicate, length-append, length-map}
use Rattle.octets.specs.Octets.{Bytes, part, same_bytes}
use Rattle.octets.proofs.Laws.{same_eq, same_refl, part_middle}
use Rattle.lists.specs.Lists.{select, empty, any, All}
use Rattle.lists.proofs.Laws.{by_test, never, any_false, All-and, empty-append, select-append, select-comm, length-select, length-split, All-select, All-append, All-map, All-imp}
use Rattle.entry.specs.declared.Entry.{Entry}
use Rattle.entry.specs.declared.EndpointProof.{EndpointProof}
use Rattle.entry.specs.declared.EndpointProof.TheVariants.{Unproved, At}
use Rattle.entry.specs.declared.PingState.{PingState}
use Rattle.entry.specs.declared.PingState.TheVariants.{Quiet, Out}
use Rattle.bucket_model.specs.Contents.{Contents, no_contents}
use Rattle.bucket_model.specs.Rules.{max_entries, max_replacements, is_of, of_key, without, update, to_tail, held, is_proved, is_out, no_room, endpoint_of, pinged, ponged, heard, new_entry, may_take, is_promoted, takes_entry, promoted, stays_entry, stays_replacement, on_ping_sent, on_pong, on_heard, on_sweep}
use Rattle.bucket_model.specs.Sound.{address_form}
use Rattle.bucket_model.proofs.Keys.{count-update, count-to_tail, count-moved, length-to_tail, All-update, All-update-by, All-to_tail, All-remaining, promoted_proved, length-promoted, length-remaining, promoted_all, promoted_or_remaining}
use Rattle.bucket_model.proofs.Ranges.{KeepsEndpoint, Alike, may_alike, alike_tail, alike_update, not_later, takes_room, ranges_taken, ranges_tail, ranges_update, ranges_select, ranges_promoted}
use Rattle.bucket_model.specs.Facts.{Every, ProofBy, PingBy, EntrySound, BucketSound}
use Rattle.bucket_model.proofs.Every.{every_ping_sent, every-pong, every-heard, every-sweep}
use Rattle.bucket_model.proofs.Sound.{IsAddress}

-- ---- an address in the 16 bytes that hold it

address-form : (address : Bytes) (udp tcp : ℕ) → IsAddress address → address_form (endpoint_of address udp tcp) ≡ true
address-form address udp tcp =
    ⊎_elim
    (λ four.
    let zeros : part (address ++ replicate 12 0) 4 12 ≡ replicate 12 0 =
    part_middle (address ++ replicate 12 0) address (replicate 12 0) [] 4 12 (simp append-nil) four refl in
    simp (four, zeros, same_refl))
    (λ sixteen. simp sixteen)

module _ (home : Bytes → Bool) where
  proof-later : (clock now : ℕ) (pr : EndpointProof) → clock ≤ now → ProofBy clock pr → ProofBy now pr
  proof-later clock now Unproved h p = tt
  proof-later clock now (At t) h p = omega arith

  ping-later : (clock now : ℕ) (pi : PingState) → clock ≤ now → PingBy clock pi → PingBy now pi
  ping-later clock now Quiet h p = tt
  ping-later clock now (Out t) h p = omega arith

  entry-later : (clock now : ℕ) → clock ≤ now → (p : Entry) → EntrySound home clock p → EntrySound home now p
  entry-later clock now h p s =
      record {
        at_home = s.at_home;
        seen_by = omega (arith, s.seen_by);
        proof-by = proof-later clock now p.proof h s.proof-by;
        ping-by = ping-later clock now p.ping h s.ping-by;
        address-form = s.address-form;
      }

  pub sound-later : (clock now : ℕ) (m : Contents) → clock ≤ now → BucketSound home clock m → BucketSound home now m
  sound-later clock now m h s =
      record {
        entries_sound = All-imp (EntrySound home clock) (EntrySound home now) (entry-later clock now h) m.entries s.entries_sound;
        replacements_sound =
            All-imp (EntrySound home clock) (EntrySound home now) (entry-later clock now h) m.replacements s.replacements_sound;
        once = s.once;
        entries_bound = s.entries_bound;
        replacements_bound = s.replacements_bound;
        entries_proved = s.entries_proved;
        unproved_pinged = s.unproved_pinged;
        ranges = s.ranges;
        settled = s.settled;
      }

  pub sound-fresh : (clock : ℕ) → BucketSound home clock no_contents
  sound-fresh clock =
      record {
        entries_sound = tt;
        replacements_sound = tt;
        once = λ key. omega arith;
        entries_bound = omega arith;
        replacements_bound = omega arith;
        entries_proved = tt;
        unproved_pinged = tt;
        ranges = tt;
        settled = tt;
      }

  module _ (now : ℕ) where
    abbrev Ok : Entry → Type 0
    Ok = EntrySound home now

    abbrev IsProved : Entry → Type 0
    IsProved p = is_proved p.proof ≡ true

    -- an entry of a line, where the entries t are taken
    abbrev Settled : List Entry → Entry → Type 0
    Settled t p = is_promoted t p ≡ false

    settled-alike : (t u : List Entry) → Alike u t → (l : List Entry) → All (Settled t) l → All (Settled u) l
    settled-alike t u al = All-imp (Settled t) (Settled u) (λ p r. ap (λ (b : Bool). is_proved p.proof && b) (may_alike u t al p.endpoint) ∙ r)

    abbrev MayStay : Entry → Type 0
    MayStay p = (is_proved p.proof || is_out p.ping) ≡ true

    or_true : (a : Bool) → (a || true) ≡ true
    or_true true = refl
    or_true false = refl

    pinged-ok : (hash : Bytes) (p : Entry) → Ok p → Ok (pinged now hash p)
    pinged-ok hash p s =
        record {
          at_home = s.at_home;
          seen_by = s.seen_by;
          proof-by = s.proof-by;
          ping-by = omega arith;
          address-form = s.address-form;
        }

    ponged-ok : (p : Entry) → Ok p → Ok (ponged now p)
    ponged-ok p s =
        record { at_home = s.at_home; seen_by = omega arith; proof-by = omega arith; ping-by = tt; address-form = s.address-form }

    heard-ok : (p : Entry) → Ok p → Ok (heard now p)
    heard-ok p s =
        record {
          at_home = s.at_home;
          seen_by = omega arith;
          proof-by = s.proof-by;
          ping-by = s.ping-by;
          address-form = s.address-form;
        }

    abbrev Sound : Contents → Type 0
    Sound = BucketSound home now

    -- ---- ping sent

    module _ (key address : Bytes) (udp tcp : ℕ) (hash : Bytes) (m : Contents) (s : Sound m) where
      abbrev joined : Contents
      joined = record { entries = m.entries; replacements = m.replacements ++ (new_entry now key address udp tcp hash ∷ []) }

      abbrev repinged : Contents
      repinged = record { entries = update key (pinged now hash) m.entries; replacements = update key (pinged now hash) m.replacements }

      joined-sound : Every Ok joined → empty (held key m) ≡ true → length m.replacements < max_replacements → Sound joined
      joined-sound every new room =
          record {
            entries_sound = every.0;
            replacements_sound = every.1;
            once = λ X.
                let was = s.once X in
                let none = empty-append (of_key key m.entries) (of_key key m.replacements) new in
                simp (select-append, length-append)
                (by_test (same_bytes X key)
                (λ g. rw (same_eq X key g, same_refl key) (omega arith))
                (λ g. rw g (omega arith)));
            entries_bound = s.entries_bound;
            replacements_bound = simp length-append (omega arith);
            entries_proved = s.entries_proved;
            unproved_pinged = All-append MayStay m.replacements _ s.unproved_pinged (refl, tt);
            ranges = s.ranges;
            settled = All-append (Settled m.entries) m.replacements _ s.settled (refl, tt);
          }

      repinged-sound : Every Ok repinged → Sound repinged
      repinged-sound every =
          record {
            entries_sound = every.0;
            replacements_sound = every.1;
            once = λ X. simp (count-update (pinged now hash) (λ p. refl) X key) (s.once X);
            entries_bound = simp length-map s.entries_bound;
            replacements_bound = simp length-map s.replacements_bound;
            entries_proved = All-update IsProved (pinged now hash) (λ p r. r) key m.entries s.entries_proved;
            unproved_pinged = All-update MayStay (pinged now hash) (λ p r. or_true (is_proved p.proof)) key m.replacements s.unproved_pinged;
            ranges = ranges_update (pinged now hash) (λ p. refl) key m.entries s.ranges;
            settled =
                settled-alike m.entries (update key (pinged now hash) m.entries) (alike_update (pinged now hash) (λ p. refl) key m.entries)
                (update key (pinged now hash) m.replacements)
                (All-update (Settled m.entries) (pinged now hash) (λ p r. r) key m.replacements s.settled);
          }

      pub sound_ping_sent : home key ≡ true → IsAddress address → no_room key m ≡ false → Sound (on_ping_sent now key address udp tcp hash m)
      unfolding on_ping_sent
      sound_ping_sent at_home form room =
          let every : Every Ok (on_ping_sent now key address udp tcp hash m) =
          every_ping_sent Ok now m (s.entries_sound, s.replacements_sound) key address udp tcp hash
          (λ _. record {
            at_home = at_home;
            seen_by = omega arith;
            proof-by = tt;
            ping-by = omega arith;
            address-form = address-form address udp tcp form;
          })
          (pinged-ok hash) in
          by_test (empty (held key m))
          (λ g. rw g (joined-sound (rw g at every) g (leb-false max_replacements (length m.replacements) (rw g at room))))
          (λ g. rw g (repinged-sound (rw g at every)))

    -- ---- datagrams

    module _ (key : Bytes) (m : Contents) (s : Sound m) where
      pub sound-heard : Sound (on_heard now key m)
      unfolding on_heard
      sound-heard =
          let every = every-heard Ok now m (s.entries_sound, s.replacements_sound) key heard-ok in
          record {
            entries_sound = every.0;
            replacements_sound = every.1;
            once = λ X. simp (count-to_tail (heard now) (λ p. refl) X key, count-update (heard now) (λ p. refl) X key) (s.once X);
            entries_bound = simp (length-to_tail (heard now)) s.entries_bound;
            replacements_bound = simp length-map s.replacements_bound;
            entries_proved = All-to_tail IsProved (heard now) (λ p r. r) key m.entries s.entries_proved;
            unproved_pinged = All-update MayStay (heard now) (λ p r. r) key m.replacements s.unproved_pinged;
            ranges = ranges_tail (heard now) (λ p. refl) key m.entries s.ranges;
            settled =
                settled-alike m.entries (to_tail key (heard now) m.entries) (alike_tail (heard now) (λ p. refl) key m.entries)
                (update key (heard now) m.replacements)
                (All-update (Settled m.entries) (heard now) (λ p r. r) key m.replacements s.settled);
          }

      abbrev taken : Contents
      taken =
          record {
            entries = to_tail key (ponged now) m.entries ++ map (ponged now) (of_key key m.replacements);
            replacements = without key m.replacements;
          }

      abbrev stayed : Contents
      stayed = record { entries = to_tail key (ponged now) m.entries; replacements = update key (ponged now) m.replacements }

      taken-sound : Every Ok taken → takes_entry key m ≡ true → Sound taken
      taken-sound every takes =
          let room = takes_room m.entries (of_key key m.replacements) takes in
          let moved = to_tail key (ponged now) m.entries in
          let al = alike_tail (ponged now) (λ p. refl) key m.entries in
          record {
            entries_sound = every.0;
            replacements_sound = every.1;
            once = λ X.
                let was = s.once X in
                let moved = simp (select-append, length-append) at (count-to_tail (ponged now) (λ p. refl) X key m.entries) in
                let taken_out = count-moved (ponged now) (λ p. refl) X key m.replacements in
                simp (select-append, length-append) (omega arith);
            entries_bound =
                let one = s.once key in
                simp (length-append, length-map) (omega (arith, length-split (is_of key) m.entries));
            replacements_bound = omega (arith, length-select (λ p. not (is_of key p)) m.replacements, s.replacements_bound);
            entries_proved =
                All-append IsProved (to_tail key (ponged now) m.entries) _
                (All-to_tail IsProved (ponged now) (λ p r. refl) key m.entries s.entries_proved)
                (All-map Ok IsProved (ponged now) (λ p r. refl) (of_key key m.replacements) (All-select Ok (is_of key) m.replacements s.replacements_sound));
            unproved_pinged = All-select MayStay _ m.replacements s.unproved_pinged;
            ranges =
                ranges_taken (ponged now) (λ p. refl) m.entries moved (of_key key m.replacements) al
                (ranges_tail (ponged now) (λ p. refl) key m.entries s.ranges) (omega (arith, s.once key)) takes;
            settled =
                All-imp (Settled moved) (Settled (moved ++ map (ponged now) (of_key key m.replacements)))
                (λ p r. not_later moved (map (ponged now) (of_key key m.replacements)) p r) (without key m.replacements)
                (settled-alike m.entries moved al (without key m.replacements) (All-select (Settled m.entries) _ m.replacements s.settled));
          }

      of-key : (l : List Entry) → All (λ p. may_take m.entries p.endpoint ≡ false) (of_key key l) → All (λ p. is_of key p ≡ true → may_take m.entries p.endpoint ≡ false) l
      of-key [] = λ a. tt
      of-key (p ∷ l) =
          by_test (is_of key p)
          (λ g. rw g (λ a. ((λ _. a.0), of-key l a.1)))
          (λ g. rw g (λ a. ((λ t. never (sym t)), of-key l a)))

      stayed-sound : Every Ok stayed → takes_entry key m ≡ false → Sound stayed
      stayed-sound every stays =
          record {
            entries_sound = every.0;
            replacements_sound = every.1;
            once = λ X. simp (count-to_tail (ponged now) (λ p. refl) X key, count-update (ponged now) (λ p. refl) X key) (s.once X);
            entries_bound = simp (length-to_tail (ponged now)) s.entries_bound;
            replacements_bound = simp length-map s.replacements_bound;
            entries_proved = All-to_tail IsProved (ponged now) (λ p r. refl) key m.entries s.entries_proved;
            unproved_pinged = All-update MayStay (ponged now) (λ p r. refl) key m.replacements s.unproved_pinged;
            ranges = ranges_tail (ponged now) (λ p. refl) key m.entries s.ranges;
            settled =
                settled-alike m.entries (to_tail key (ponged now) m.entries) (alike_tail (ponged now) (λ p. refl) key m.entries)
                (update key (ponged now) m.replacements)
                (All-update-by (λ p. (is_of key p ≡ true → may_take m.entries p.endpoint ≡ false) × Settled m.entries p) (Settled m.entries) (ponged now) key
                (λ p r i. r.0 i) (λ p r i. r.1) m.replacements
                (All-and _ _ m.replacements (of-key m.replacements (any_false (λ e. may_take m.entries e.endpoint) (of_key key m.replacements) stays)) s.settled));
          }

      pub sound-pong : Sound (on_pong now key m)
      unfolding on_pong
      sound-pong =
          let every : Every Ok (on_pong now key m) = every-pong Ok now m (s.entries_sound, s.replacements_sound) key ponged-ok in
          by_test (takes_entry key m)
          (λ g. rw g (taken-sound (rw g at every) g))
          (λ g. rw g (stayed-sound (rw g at every) g))

    -- ---- sweep

    pub sound-sweep : (m : Contents) → Sound m → Sound (on_sweep now m)
    unfolding on_sweep
    sound-sweep m s =
        let stay = select (stays_entry now) m.entries in
        let line = select (stays_replacement now) m.replacements in
        let fewer = length-select (stays_entry now) m.entries in
        let most = s.entries_bound in
        let every = every-sweep Ok now m (s.entries_sound, s.replacements_sound) in
        record {
          entries_sound = every.0;
          replacements_sound = every.1;
          once = λ X.
              let was = s.once X in
              let split = promoted_or_remaining X stay line in
              let a = length-select (stays_entry now) (of_key X m.entries) in
              let c = length-select (stays_replacement now) (of_key X m.replacements) in
              simp (select-append, length-append)
              (omega (arith, ap length (select-comm (is_of X) (stays_entry now) m.entries), ap length (select-comm (is_of X) (stays_replacement now) m.replacements)));
          entries_bound = simp length-append (length-promoted stay line (omega arith));
          replacements_bound = omega (arith, length-remaining stay line, length-select (stays_replacement now) m.replacements, s.replacements_bound);
          entries_proved =
              All-append IsProved stay (promoted stay line) (All-select IsProved (stays_entry now) m.entries s.entries_proved)
              (promoted_proved stay line);
          unproved_pinged = All-remaining MayStay stay line (All-select MayStay (stays_replacement now) m.replacements s.unproved_pinged);
          ranges = ranges_promoted stay line (ranges_select (stays_entry now) m.entries s.ranges);
          settled = promoted_all stay line;
        }
