-- The test `keeps_rules`, with the two bounds, is exactly the facts of a sound bucket.
use Prim.Native.Nat.{ℕ, ◌≤◌}
use mathlib.Core.Path.{◌≡◌, refl}
use mathlib.Core.Logic.{◌⊎◌}
use mathlib.Core.Bool.{Bool, true, false, not, ◌&&◌, ◌||◌}
use mathlib.Core.List.{List, [], ◌∷◌, ◌++◌}
use native.Mathlib.Omega.{arith}
use borrow.Author.Tests.{leb-true, le-leb, ltb-true, ltb-false, eq-eqb, ne_eqb, not-true}
use lib.Dec.{leb, ltb}
use lib.ListN.{length, length-append}
use Rattle.octets.specs.Octets.{Bytes}
use Rattle.octets.proofs.Laws.{same_eq, same_refl}
use Rattle.lists.specs.Lists.{any, all, All}
use Rattle.lists.proofs.Laws.{by_test, and_left, and_right, select-append, select-none, any_false, any_none, all_true, true-all, All-imp, All-append, All-left, All-right, All-and}
use Rattle.entry.specs.declared.Entry.{Entry}
use Rattle.entry.specs.declared.EndpointProof.{EndpointProof}
use Rattle.entry.specs.declared.EndpointProof.TheVariants.{Unproved, At}
use Rattle.entry.specs.declared.PingState.{PingState}
use Rattle.entry.specs.declared.PingState.TheVariants.{Quiet, Out}
use Rattle.bucket_model.specs.Contents.{Contents}
use Rattle.bucket_model.specs.Rules.{max_entries, max_replacements, max_of_range, is_of, of_key, is_proved, is_out, range_count, may_take, is_promoted}
use Rattle.bucket_model.specs.Sound.{proof_by, ping_by, in_time, address_form, entry_sound, may_wait, distinct, ranges_kept, keeps_rules}
use Rattle.bucket_model.specs.Facts.{ProofBy, PingBy}
pub use Rattle.bucket_model.specs.Facts.{EntrySound, BucketSound}

-- an address of 4 or 16 bytes
abbrev pub IsAddress : Bytes → Type 0
IsAddress address = (length address ≡ 4) ⊎ (length address ≡ 16)

-- ---- one entry

proof_by_test : (clock : ℕ) (pr : EndpointProof) → proof_by clock pr ≡ true → ProofBy clock pr
proof_by_test clock Unproved h = tt
proof_by_test clock (At t) h = leb-true t.0 clock h

test_proof_by : (clock : ℕ) (pr : EndpointProof) → ProofBy clock pr → proof_by clock pr ≡ true
test_proof_by clock Unproved h = refl
test_proof_by clock (At t) h = le-leb t.0 clock h

ping_by_test : (clock : ℕ) (pi : PingState) → ping_by clock pi ≡ true → PingBy clock pi
ping_by_test clock Quiet h = tt
ping_by_test clock (Out t) h = leb-true t.0 clock h

test_ping_by : (clock : ℕ) (pi : PingState) → PingBy clock pi → ping_by clock pi ≡ true
test_ping_by clock Quiet h = refl
test_ping_by clock (Out t) h = le-leb t.0 clock h

module _ (home : Bytes → Bool) (clock : ℕ) where
  entry-facts : (p : Entry) → entry_sound home clock p ≡ true → EntrySound home clock p
  unfolding entry_sound
  entry-facts p h =
      let rest = and_right (home p.key) (in_time clock p && address_form p.endpoint) h in
      let times = and_left (in_time clock p) (address_form p.endpoint) rest in
      let seen = leb p.seen.0 clock in
      let stamps = and_right seen (proof_by clock p.proof && ping_by clock p.ping) times in
      record {
        at_home = and_left (home p.key) (in_time clock p && address_form p.endpoint) h;
        seen_by = leb-true p.seen.0 clock (and_left seen (proof_by clock p.proof && ping_by clock p.ping) times);
        proof-by = proof_by_test clock p.proof (and_left (proof_by clock p.proof) (ping_by clock p.ping) stamps);
        ping-by = ping_by_test clock p.ping (and_right (proof_by clock p.proof) (ping_by clock p.ping) stamps);
        address-form = and_right (in_time clock p) (address_form p.endpoint) rest;
      }

  entry-test : (p : Entry) → EntrySound home clock p → entry_sound home clock p ≡ true
  unfolding entry_sound
  entry-test p s =
      rw (
        s.at_home,
        le-leb p.seen.0 clock s.seen_by,
        test_proof_by clock p.proof s.proof-by,
        test_ping_by clock p.ping s.ping-by,
        s.address-form,
      )

-- ---- distinct keys

pub distinct_once : (l : List Entry) → distinct l ≡ true → (key : Bytes) → length (of_key key l) ≤ 1
unfolding distinct
distinct_once [] h key = omega arith
distinct_once (p ∷ l) h key =
    let apart = not-true (any (is_of p.key) l) (and_left (not (any (is_of p.key) l)) (distinct l) h) in
    by_test (is_of key p)
    (λ g.
    let is = same_eq key p.key g in
    let none : length (of_key key l) ≡ 0 = rw is (select-none (is_of p.key) l (any_false (is_of p.key) l apart)) in
    rw g (omega arith))
    (λ g. rw g (distinct_once l (and_right (not (any (is_of p.key) l)) (distinct l) h) key))

pub once_distinct : (l : List Entry) → ((key : Bytes) → length (of_key key l) ≤ 1) → distinct l ≡ true
unfolding distinct
once_distinct [] h = refl
once_distinct (p ∷ l) h =
    let self : length (p ∷ of_key p.key l) ≤ 1 = rw (same_refl p.key) at (h p.key) in
    rw (any_none (is_of p.key) l (omega arith))
    (once_distinct l (λ key. by_test (is_of key p)
    (λ g. let one : length (p ∷ of_key key l) ≤ 1 = rw g at (h key) in omega arith)
    (λ g. rw g at (h key))))

-- ---- replacements

may_pinged : (t : List Entry) (p : Entry) → may_wait t p ≡ true → (is_proved p.proof || is_out p.ping) ≡ true
may_pinged t p = by_test (is_proved p.proof) (λ g. rw g (λ h. refl)) (λ g. rw g (λ h. h))

may_settled : (t : List Entry) (p : Entry) → may_wait t p ≡ true → is_promoted t p ≡ false
may_settled t p = by_test (is_proved p.proof) (λ g. rw g (λ h. not-true (may_take t p.endpoint) h)) (λ g. rw g (λ h. refl))

settled_may : (t : List Entry) (p : Entry) → ((is_proved p.proof || is_out p.ping) ≡ true) × (is_promoted t p ≡ false) → may_wait t p ≡ true
settled_may t p =
    by_test (is_proved p.proof)
    (λ g. rw g (λ h. rw h.1))
    (λ g. rw g (λ h. h.0))

-- ---- a bucket

module _ (home : Bytes → Bool) (clock : ℕ) (m : Contents) where
  pub rules-sound : length m.entries ≤ max_entries → length m.replacements ≤ max_replacements → keeps_rules home clock m ≡ true
      → BucketSound home clock m
  unfolding keeps_rules
  rules-sound few few' h =
      let l = m.entries ++ m.replacements in
      let each = all (entry_sound home clock) l in
      let proved = all (λ p. is_proved p.proof) m.entries in
      let ranges = ranges_kept m.entries in
      let wait = all (may_wait m.entries) m.replacements in
      let rest = and_right each (distinct l && (proved && (ranges && wait))) h in
      let rest' = and_right (distinct l) (proved && (ranges && wait)) rest in
      let rest'' = and_right proved (ranges && wait) rest' in
      let sound : All (EntrySound home clock) l =
      All-imp (λ p. entry_sound home clock p ≡ true) (EntrySound home clock) (entry-facts home clock) l
      (all_true (entry_sound home clock) l (and_left each (distinct l && (proved && (ranges && wait))) h)) in
      let waits = all_true (may_wait m.entries) m.replacements (and_right ranges wait rest'') in
      record {
        entries_sound = All-left (EntrySound home clock) m.entries m.replacements sound;
        replacements_sound = All-right (EntrySound home clock) m.entries m.replacements sound;
        once = λ key.
            simp (select-append, length-append) at (distinct_once l (and_left (distinct l) (proved && (ranges && wait)) rest) key);
        entries_bound = few;
        replacements_bound = few';
        entries_proved = all_true (λ p. is_proved p.proof) m.entries (and_left proved (ranges && wait) rest');
        unproved_pinged =
            All-imp (λ p. may_wait m.entries p ≡ true) (λ p. (is_proved p.proof || is_out p.ping) ≡ true) (may_pinged m.entries)
            m.replacements waits;
        ranges =
            All-imp (λ p. leb (range_count p.endpoint m.entries) max_of_range ≡ true) (λ p. range_count p.endpoint m.entries ≤ max_of_range)
            (λ p g. leb-true (range_count p.endpoint m.entries) max_of_range g)
            m.entries (all_true (λ p. leb (range_count p.endpoint m.entries) max_of_range) m.entries (and_left ranges wait rest''));
        settled =
            All-imp (λ p. may_wait m.entries p ≡ true) (λ p. is_promoted m.entries p ≡ false) (may_settled m.entries)
            m.replacements waits;
      }

  pub sound-rules : BucketSound home clock m → keeps_rules home clock m ≡ true
  unfolding keeps_rules
  sound-rules s =
      let l = m.entries ++ m.replacements in
      rw (
        true-all (entry_sound home clock) l
            (All-imp (EntrySound home clock) (λ p. entry_sound home clock p ≡ true) (entry-test home clock) l
            (All-append (EntrySound home clock) m.entries m.replacements s.entries_sound s.replacements_sound)),
        once_distinct l (λ key. simp (select-append, length-append) (s.once key)),
        true-all (λ p. is_proved p.proof) m.entries s.entries_proved,
        true-all (λ p. leb (range_count p.endpoint m.entries) max_of_range) m.entries
            (All-imp (λ p. range_count p.endpoint m.entries ≤ max_of_range) (λ p. leb (range_count p.endpoint m.entries) max_of_range ≡ true)
            (λ p g. le-leb (range_count p.endpoint m.entries) max_of_range g) m.entries s.ranges),
      )
      (true-all (may_wait m.entries) m.replacements
      (All-imp (λ p. ((is_proved p.proof || is_out p.ping) ≡ true) × (is_promoted m.entries p ≡ false)) (λ p. may_wait m.entries p ≡ true)
      (settled_may m.entries) m.replacements
      (All-and (λ p. (is_proved p.proof || is_out p.ping) ≡ true) (λ p. is_promoted m.entries p ≡ false) m.replacements
      s.unproved_pinged s.settled)))
