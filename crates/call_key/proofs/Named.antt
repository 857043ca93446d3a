-- The head that the answer to a waiting pong names is what a head call then gives: that pong changes no entry of its bucket. Assumes nothing.
use Prim.Native.Nat.{ℕ, ◌+◌, ◌^◌, ◌≤◌, ◌<◌}
use mathlib.Core.Path.{◌≡◌, refl, sym, ap, ap₂, ◌∙◌}
use mathlib.Core.Bool.{true, false}
use mathlib.Core.List.{List, [], ◌∷◌, ◌++◌, map, append-nil}
use native.Mathlib.Omega.{arith}
use borrow.Author.Tests.{eq-eqb, eqb-true, ltb-false, not-false}
use lib.Dec.{eqb, ltb}
use lib.ListN.{length, get_or}
use Rattle.octets.specs.Octets.{Bytes, IsBytes, part, store, number, big_endian}
use Rattle.octets.proofs.Laws.{length_part, bytes_part, length-store, part-store, length-big_endian, number-big_endian}
use Rattle.lists.specs.Lists.{first, any}
use Rattle.lists.proofs.Laws.{by_test, never, passed, any_none, empty-append}
use Rattle.node.specs.declared.Endpoint.{Endpoint}
use Rattle.node.specs.declared.Node.{Node}
use Rattle.entry.specs.declared.Entry.{Entry}
use Rattle.entry.specs.declared.PingState.{PingState}
use Rattle.node.specs.declared.UnixSeconds.{UnixSeconds}
use Rattle.entry.specs.Layout.{no_entry}
use Rattle.distance.specs.Distance.{home}
use Rattle.bucket_model.specs.Contents.{Contents, encode_bucket, decode_bucket}
use Rattle.bucket_model.specs.Rules.{max_entries, is_of, of_key, to_tail, ponged, may_take, on_pong, has_entry, free_entry, range_taken}
use Rattle.bucket_model.proofs.Kept.{sound-later, sound-pong}
use Rattle.bucket_model.proofs.Values.{sound-encoded, decoded-sound, values-pong}
use Rattle.bucket_lookup.proofs.ByKey.{none_of, none-without}
use Rattle.table_model.specs.Layout.{own_of, clock_of, count_of, number_at, offset_of, bucket_bytes, bucket_at, header_sound}
use Rattle.table_model.specs.Sound.{bucket_sound}
use Rattle.table_model.proofs.Header.{header-sound, sound-header}
use Rattle.table_model.proofs.Table.{header-kept, bucket-stored, own-kept, behind-kept}
use Rattle.table_model.proofs.Sound.{SoundBucket, bucket-size, bucket-back}
use Rattle.packet.specs.declared.Pong.{Pong}
use Rattle.packet.specs.declared.Packet.{Packet}
use Rattle.packet.specs.declared.Packet.TheVariants as packet
use Rattle.packet.specs.declared.Parsed.TheVariants as parsed
use Rattle.packet_datagram.specs.Datagram.{read_at}
use Rattle.call_history.specs.Model.{Env, Call, datagram, is_own, is_kept, slot}
use Rattle.call_history.specs.Keccak.{with_keccak}
use Rattle.call_model.specs.Calls.{env_of, touches, unsound_for, bytes_after}
use Rattle.call_model.specs.Reading.{reading}
use Rattle.call_model.proofs.Form.{both_sound}
use Rattle.call_touched.specs.Steps.{SoundAt, with_bucket}
use Rattle.call_touched.proofs.Slots.{fits}
use Rattle.call_answer.specs.declared.Standing.TheVariants.{Waiting}
use Rattle.call_answer.specs.declared.Outcome.TheVariants as outcome
use Rattle.call_answer.specs.declared.Received.{Received}
use Rattle.call_answer.specs.Answer.{head_of, accepted, unless_refused}
use Rattle.call_answer.specs.Answer as answer
use Rattle.call_judge.specs.declared.Judged.TheVariants.{Passed}
use Rattle.call_judge.specs.Steps.{datagram_front, judged}
use Rattle.call_datagram.specs.Steps.{packet_number, delivered, after_delivery}
use Rattle.call_datagram.specs.Received.{received}
use Rattle.call_datagram.proofs.Datagram.{front-passed, whole, ready, done}
use Rattle.call_datagram.proofs.Answered.{answer-number}
use Rattle.call_key.specs.Number.{key_number}
use Rattle.call_key.specs.Head.{head_node, head_entry, first_of, head_on}
use Rattle.call_key.specs.Named.{waiting_pong, HeadNamed}

-- ---- a pong that leaves its sender in line

first_is : (l : List Entry) → 1 ≤ length l → first_of l ≡ head_entry (get_or l 0 no_entry)
first_is [] h = absurd (omega arith)
first_is (e ∷ l) h = refl

-- none takes an entry where none is free
may_not : (l : List Entry) (a : Endpoint) → ltb (length l) max_entries ≡ false → may_take l a ≡ false
unfolding may_take
may_not l a full = rw full refl

none_takes : (l rs : List Entry) → ltb (length l) max_entries ≡ false → any (λ e. may_take l e.endpoint) rs ≡ false
none_takes l [] full = refl
none_takes l (e ∷ rs) full = rw (may_not l e.endpoint full) (none_takes l rs full)

module _ (now : ℕ) (key : Bytes) (b : Contents) (seated : has_entry key b ≡ false) (free : free_entry b ≡ false) where
  entries-stay : (on_pong now key b).entries ≡ b.entries
  unfolding on_pong
  entries-stay =
      let l : List Entry = b.entries in
      let none : any (is_of key) l ≡ false = any_none (is_of key) l (empty-append [] (of_key key l) (not-false _ seated)).1 in
      let stay : to_tail key (ponged now) l ≡ l =
      ap₂ (λ (x y : List Entry). x ++ map (ponged now) y) (none-without key l none) (none_of key l none) ∙ append-nil l in
      rw (none_takes l (of_key key b.replacements) free) stay

  head-stays : first_of (on_pong now key b).entries ≡ head_entry (head_of b)
  head-stays = ap first_of entries-stay ∙ first_is b.entries (omega (arith, ltb-false (length b.entries) 16 free))

-- what the answer says of the bucket
pub record Waits (key : Bytes) (b : Contents) (x : Packet) (head : Node) (ping : PingState) : Type 0 where
  pub pong : Pong
  pub packet_is : x ≡ packet.Pong pong
  pub seated : has_entry key b ≡ false
  pub free : free_entry b ≡ false
  pub named : head_entry (head_of b) ≡ head_node head ping

module _ (now : ℕ) (address : Bytes) (udp : ℕ) (key : Bytes) (b : Contents) (p : Pong) (head : Node) (ping : PingState) where
  outcome-of : {r : Received} → r ≡ waiting_pong p head ping → r.outcome ≡ outcome.Pong p (Waiting ping)
  outcome-of e = ap (λ (r : Received). r.outcome) e

  waits : (x : Packet) → accepted now address udp key x b ≡ waiting_pong p head ping → Waits key b x head ping
  waits (packet.Ping q) = λ e. let o = outcome-of e in never (cc)
  waits (packet.Pong q) =
      by_test (has_entry key b)
      (λ t. rw t (λ e. let o = outcome-of e in never (cc)))
      (λ t. by_test (range_taken key b)
      (λ u. rw (t, u) (λ e. let o = outcome-of e in never (cc)))
      (λ u. by_test (free_entry b)
      (λ f. rw (t, u, f) (λ e. let o = outcome-of e in never (cc)))
      (λ f. rw (t, u, f) (λ e.
      let o = outcome-of e in
      let same : (head_of b).ping ≡ ping = cc in
      record {
        pong = q;
        packet_is = refl;
        seated = t;
        free = f;
        named = ap₂ head_node (ap (λ (r : Received). r.head) e) same;
      }))))
  waits (packet.FindNode q) = λ e. let o = outcome-of e in never (cc)
  waits (packet.Neighbors q) = λ e. let o = outcome-of e in never (cc)
  waits (packet.EnrRequest q) = λ e. let o = outcome-of e in never (cc)
  waits (packet.EnrResponse q) = λ e. let o = outcome-of e in never (cc)

  not-refused : (n : ℕ) (x : Packet) → unless_refused n (accepted now address udp key x b) ≡ waiting_pong p head ping
      → (n ≡ 0) × (accepted now address udp key x b ≡ waiting_pong p head ping)
  not-refused n x =
      by_test (eqb n 0)
      (λ t. let zero : n ≡ 0 = eqb-true n 0 t in rw t (λ e. (zero, e)))
      (λ t. rw t (λ e. let o = outcome-of e in never (cc)))

-- ---- a bucket put back where it was, and the clock: the key still leads there, and it is sound

module _ (s : Bytes) (j : ℕ) (h : SoundAt s j) (m : Contents) (now : ℕ) (in-range : now < 2 ^ 64) (sound : SoundBucket (home (own_of s) (number_at (count_of s) j)) now m) where
  abbrev stored : Bytes
  stored = store s (offset_of j) (encode_bucket m)

  abbrev after : Bytes
  after = with_bucket s j m now

  eight : length (big_endian 8 now) ≡ 8
  eight = length-big_endian 8 now

  own-after : own_of after ≡ own_of s
  own-after = own-kept stored (big_endian 8 now) eight ∙ header-kept s (encode_bucket m) j 0 32 (omega arith)

  behind-after : (at n : ℕ) → 40 ≤ at → at + n ≤ 512 → part after at n ≡ part s at n
  behind-after at n a e = behind-kept stored (big_endian 8 now) eight at n a ∙ header-kept s (encode_bucket m) j at n e

  count-after : count_of after ≡ count_of s
  count-after = ap number (behind-after 40 2 (omega arith) (omega arith))

  length-after : length after ≡ length s
  length-after = simp length-store

  clock-after : clock_of after ≡ now
  clock-after =
      let room : 32 + length (big_endian 8 now) ≤ length stored = omega (arith, eight, fits s j h, length-store (encode_bucket m) s (offset_of j)) in
      ap (λ (n : ℕ). number (part after 32 n)) (sym eight) ∙ ap number (part-store (big_endian 8 now) stored 32 room) ∙ number-big_endian 8 now in-range

  bytes_after_is : bucket_bytes after j ≡ encode_bucket m
  bytes_after_is =
      behind-kept stored (big_endian 8 now) eight (offset_of j) 2862 (omega arith)
      ∙ bucket-stored s (encode_bucket m) j (bucket-size (home (own_of s) (number_at (count_of s) j)) now m sound) (fits s j h)

  header-after : header_sound after ≡ true
  header-after =
      let was = header-sound s h.header in
      sound-header after
      (record {
        one = omega (arith, count-after, was.one);
        most = omega (arith, count-after, was.most);
        size = length-after ∙ was.size ∙ ap offset_of (sym count-after);
        zeros = behind-after 42 470 (omega arith) (omega arith) ∙ was.zeros;
      })

  bucket-after : bucket_at after j ≡ m
  bucket-after = ap decode_bucket bytes_after_is ∙ bucket-back (home (own_of s) (number_at (count_of s) j)) now m sound

  sound-after : bucket_sound after j ≡ true
  sound-after = rw (own-after, count-after, clock-after, bytes_after_is) (sound-encoded (home (own_of s) (number_at (count_of s) j)) now m sound.rules sound.values)

  env-after : env_of reading after ≡ env_of reading s
  env-after = ap₂ (with_keccak reading) own-after count-after

  module _ (key : Bytes) (here : slot (env_of reading s) key ≡ j) (whole : eqb (length key) 64 ≡ true) (own : is_own (env_of reading s) key ≡ false) (kept : is_kept (env_of reading s) key ≡ true) where
    leads-here : slot (env_of reading after) key ≡ j
    leads-here = ap (λ (x : Env). slot x key) env-after ∙ here

    unsound-after : unsound_for reading after key ≡ false
    unsound-after =
        (both_sound (header_sound after) (touches reading after key) (bucket_sound after (slot (env_of reading after) key))).0
        (header-after, λ _. ap (bucket_sound after) leads-here ∙ sound-after)

    head-after : head_on after key ≡ first_of m.entries
    unfolding head_on key_number
    head-after =
        let not_own : is_own (env_of reading after) key ≡ false = ap (λ (x : Env). is_own x key) env-after ∙ own in
        let kept_after : is_kept (env_of reading after) key ≡ true = ap (λ (x : Env). is_kept x key) env-after ∙ kept in
        rw (unsound-after, whole, not_own, kept_after)
        (ap (λ (i : ℕ). first_of (bucket_at after i).entries) leads-here ∙ ap (λ (x : Contents). first_of x.entries) bucket-after)

-- ---- the claim

module _ (s : Bytes) (now : ℕ) (unix : UnixSeconds) (address : Bytes) (udp : ℕ) (key g : Bytes) (bs : IsBytes s) (in-range : now < 2 ^ 64) (p : Pong) (head : Node) (ping : PingState) (e : received s now unix.0 address udp key g ≡ waiting_pong p head ping) where
  abbrev call : Call
  call = datagram now unix.0 address udp key g

  abbrev j : ℕ
  j = slot (env_of reading s) key

  abbrev b : Contents
  b = bucket_at s j

  front : first (datagram_front s now address key (reading g unix.0)) ≡ 0
  front = front-passed s now unix address key g udp (sym (answer-number s now unix address udp key g) ∙ ap answer.number_of e)

  -- the packet that was read
  module _ (x : Packet) (is : read_at g unix ≡ parsed.Packet x) where
    is_judged : judged s now unix address key g ≡ Passed j x
    unfolding judged
    is_judged = rw (eq-eqb (first (datagram_front s now address key (reading g unix.0))) 0 front, is) refl

    sound-before : SoundAt s j
    sound-before = (ready s now unix address key g udp is_judged).0

    told : (delivered s j now address udp key g x ≡ received s now unix.0 address udp key g) × (after_delivery s j now address udp key g x ≡ bytes_after reading s call)
    told = done s now unix address key g udp is_judged refl refl

    answered : (packet_number s j now address udp key g x ≡ 0) × (accepted now address udp key x b ≡ waiting_pong p head ping)
    unfolding delivered
    answered = not-refused now address udp key b p head ping (packet_number s j now address udp key g x) x (told.0 ∙ e)

    sender-waits : Waits key b x head ping
    sender-waits = waits now address udp key b p head ping x answered.1

    left : bytes_after reading s call ≡ with_bucket s j (on_pong now key b) now
    unfolding after_delivery
    left = sym told.1 ∙ rw (eq-eqb (packet_number s j now address udp key g x) 0 answered.0, sender-waits.packet_is) refl

    still-sound : SoundBucket (home (own_of s) (number_at (count_of s) j)) now (on_pong now key b)
    still-sound =
        let q = home (own_of s) (number_at (count_of s) j) in
        let was = decoded-sound q (clock_of s) (bucket_bytes s j) (length_part s (offset_of j) 2862 (omega (arith, fits s j sound-before))) (bytes_part s (offset_of j) 2862 bs) sound-before.bucket in
        record {
          rules = sound-pong q now key b (sound-later q (clock_of s) now b (ready s now unix address key g udp is_judged).1 was.0);
          values = values-pong now in-range b was.1 key;
        }

    named : head_on (bytes_after reading s call) key ≡ head_node head ping
    named =
        let facts = passed (datagram_front s now address key (reading g unix.0)) refl front in
        let keyed = facts.1.1.1.1 in
        ap (λ (t : Bytes). head_on t key) left
        ∙ head-after s j sound-before (on_pong now key b) now in-range still-sound key refl (not-false _ keyed.0) keyed.1.1.0 (not-false _ keyed.1.1.1.1.1.1.1.0)
        ∙ head-stays now key b sender-waits.seated sender-waits.free
        ∙ sender-waits.named

pub head-named : HeadNamed
head-named s now unix address udp key g bs is p head ping e =
    let u : UnixSeconds = record { 0 = unix } in
    let w = whole s now u address key g udp (front s now u address udp key g bs is.0 p head ping e) in
    named s now u address udp key g bs is.0 p head ping e w.0 w.1
