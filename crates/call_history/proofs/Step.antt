-- One call: what an accepted call has passed, and the buckets that it leaves.
use Prim.Native.Nat.{ℕ, ◌+◌, ◌-◌, ◌^◌, ◌<◌, ◌≤◌}
use mathlib.Core.Path.{◌≡◌, refl, ap, sym, ◌∙◌}
use mathlib.Core.Logic.{inl, inr}
use mathlib.Core.Bool.{true, false}
use mathlib.Core.List.{[], ◌∷◌, map}
use native.Mathlib.Omega.{arith}
use borrow.Author.Tests.{ltb-true, ltb-false, leb-true, eqb-true, eqb-false, eq-eqb, not-false, le-leb, le-ltb}
use lib.Dec.{eqb, ltb}
use lib.ListN.{length, replicate, length-map, length-replicate, get_or-eq_default, get_or-replicate}
use Rattle.node.specs.Nodes.{is_address}
use Rattle.octets.specs.Octets.{Bytes, IsBytes, same_bytes}
use Rattle.octets.proofs.Laws.{same_refl}
use Rattle.lists.specs.Lists.{modify}
use Rattle.lists.proofs.Laws.{by_test, never, Passed, numbered, passed, get_d_modify_same, get_d_modify_other, get_d_map}
use Rattle.bucket_model.specs.Contents.{Contents, no_contents}
use Rattle.bucket_model.specs.Rules.{not_verified, ping_out, no_room, on_pong, on_heard, on_sweep}
use Rattle.bucket_model.proofs.Sound.{IsAddress}
use Rattle.keccak.proofs.Laws.{keccak256-length, keccak256_bytes}
use Rattle.distance.specs.Distance.{bit_length, home}
use Rattle.call_history.specs.Model.{Env, Lawful, Fault, wrong_length, wrong_hash, unknown_type, bad_list, bad_field, expired, Reading, is_refused, refused, ping, pong, other, Call, datagram, ping_sent, sweep, Table, is_own, distance_to, bucket_number, first_kept, is_kept, slot, home_at, fresh, bucket_at, bucket_of, packet_refusals, datagram_refusals, ping_sent_refusals, answer, Accepted, on_datagram, effect, next}
use Rattle.call_history.specs.Keccak.{with_keccak}
use Rattle.call_history.specs.Words.{is_pong, OwnBucket}
use Rattle.distance.proofs.Laws.{distance-less, distance-zero, bit_length_positive, bit_length-most}
use Rattle.distance.proofs.Buckets.{in_bucket_bits}

-- ---- by cases

-- what a packet does to its signer's bucket: nothing, where it is refused or its signer not verified; it is heard, or its pong is taken
pub by_packet : (P : Contents → Type 0) (now : ℕ) (address : Bytes) (udp : ℕ) (key : Bytes) (r : Reading) (b : Contents)
    → ((fault : Fault) → r ≡ refused fault → P b)
    → (is_pong r ≡ false → not_verified now address udp key b ≡ true → P b)
    → (is_pong r ≡ false → not_verified now address udp key b ≡ false → P (on_heard now key b))
    → (is_pong r ≡ true → P (on_pong now key b))
    → P (on_datagram now address udp key r b)
by_packet P now address udp key (refused fault) b n f g h = n fault refl
by_packet P now address udp key ping b n f g h = by_test (not_verified now address udp key b) (λ t. rw t (f refl t)) (λ t. rw t (g refl t))
by_packet P now address udp key (pong hash) b n f g h = h refl
by_packet P now address udp key other b n f g h = by_test (not_verified now address udp key b) (λ t. rw t (f refl t)) (λ t. rw t (g refl t))

pub by_datagram : (P : Contents → Type 0) (now : ℕ) (address : Bytes) (udp : ℕ) (key : Bytes) (r : Reading) (b : Contents)
    → (is_pong r ≡ false → P b) → (is_pong r ≡ false → P (on_heard now key b)) → (is_pong r ≡ true → P (on_pong now key b))
    → P (on_datagram now address udp key r b)
by_datagram P now address udp key r b f g h =
    by_packet P now address udp key r b (λ fault is. f (rw is)) (λ no _. f no) (λ no _. g no) h

is_address_lem : (address : Bytes) → is_address address ≡ true → IsAddress address
is_address_lem address =
    by_test (eqb (length address) 4)
    (λ g. λ h. inl (eqb-true (length address) 4 g))
    (λ g. rw g (λ h. inr (eqb-true (length address) 16 h)))

module _ (e : Env) where
  -- a proof of what a call leaves, by whether it is accepted
  pub by_answer : (P : Table → Type 0) (s : Table) (c : Call) → (Accepted e s c → P (effect e s c)) → ((Accepted e s c → ⊥) → P s) → P (next e s c)
  by_answer P s c f g =
      by_test (eqb (answer e s c) 0)
      (λ h. rw h (f (eqb-true (answer e s c) 0 h)))
      (λ h. rw h (g (eqb-false (answer e s c) 0 h)))

  -- ---- a key's bucket

  module _ (law : Lawful e) (key : Bytes) where
    less : distance_to e key < 2 ^ 256
    less = distance-less e.own (e.hash key) law.own_size (law.hash_size _) law.own_bytes (law.hash_bytes _)

    pub home-own : (i : ℕ) → home_at e i key ≡ true → OwnBucket e i key
    unfolding bucket_number
    home-own i h =
        let bits : bit_length (distance_to e key) ≡ first_kept e + i + 1 =
        eqb-true (bit_length (distance_to e key)) (first_kept e + i + 1) (sym (in_bucket_bits (first_kept e + i) (distance_to e key) less) ∙ h) in
        (h, le-leb (first_kept e) (bucket_number e key) (omega arith), omega arith)

    apart : is_own e key ≡ false → distance_to e key ≡ 0 → ⊥
    apart not_own none =
        let same : e.own ≡ e.hash key =
        distance-zero e.own (e.hash key) law.own_size (law.hash_size _) law.own_bytes (law.hash_bytes _) none in
        let own_key : is_own e key ≡ true = ap (λ h. same_bytes h e.own) (sym same) ∙ same_refl e.own in
        never (sym own_key ∙ not_own)

    pub slot-home : is_own e key ≡ false → is_kept e key ≡ true → home_at e (slot e key) key ≡ true
    unfolding bucket_number
    slot-home not_own is_kept =
        let d = distance_to e key in
        let apart_is = apart not_own in
        let bits = bit_length_positive d (omega arith) less in
        let kept = leb-true (first_kept e) (bucket_number e key) is_kept in
        in_bucket_bits (first_kept e + slot e key) d less
        ∙ eq-eqb (bit_length d) (first_kept e + slot e key + 1) (omega arith)

  pub slot-less : (key : Bytes) → is_kept e key ≡ true → slot e key < e.kept
  unfolding bucket_number
  slot-less key is_kept =
      let kept = leb-true (first_kept e) (bucket_number e key) is_kept in
      omega (arith, bit_length-most (distance_to e key))

  -- ---- what an accepted call has passed

  packet-numbered : (now : ℕ) (address : Bytes) (udp : ℕ) (key : Bytes) (r : Reading) (b : Contents)
      → numbered (packet_refusals e now address udp key r b) ≡ true
  packet-numbered now address udp key (refused fault) b = refl
  packet-numbered now address udp key ping b = refl
  packet-numbered now address udp key (pong hash) b = refl
  packet-numbered now address udp key other b = refl

  -- an accepted datagram or ping-sent call
  pub record Keyed (s : Table) (now : ℕ) (key address : Bytes) : Type 0 where
    pub in_time : s.clock ≤ now
    pub whole : length key ≡ 64
    pub address-form : IsAddress address
    pub not_own : is_own e key ≡ false
    pub is_kept : is_kept e key ≡ true

  pub datagram-keyed : (s : Table) (now unix : ℕ) (address : Bytes) (udp : ℕ) (key bytes : Bytes)
      → Accepted e s (datagram now unix address udp key bytes) → Keyed s now key address
  unfolding datagram_refusals
  datagram-keyed s now unix address udp key bytes h =
      let r = e.read bytes unix in
      let b = bucket_of e s key in
      let facts : Passed (datagram_refusals e s.clock b now address udp key r) =
      passed (datagram_refusals e s.clock b now address udp key r) (packet-numbered now address udp key r b) h in
      record {
        in_time = ltb-false now s.clock facts.0;
        whole = eqb-true (length key) 64 (not-false (eqb (length key) 64) facts.1.1.1.0);
        address-form = is_address_lem address (not-false (is_address address) facts.1.1.1.1.0);
        not_own = facts.1.1.1.1.1.0;
        is_kept = not-false (is_kept e key) facts.1.1.1.1.1.1.1.1.1.1.0;
      }

  -- it is read
  pub datagram-read : (s : Table) (now unix : ℕ) (address : Bytes) (udp : ℕ) (key bytes : Bytes)
      → Accepted e s (datagram now unix address udp key bytes) → (fault : Fault) → e.read bytes unix ≡ refused fault → ⊥
  unfolding datagram_refusals
  datagram-read s now unix address udp key bytes h fault is =
      let r = e.read bytes unix in
      let b = bucket_of e s key in
      let facts : Passed (datagram_refusals e s.clock b now address udp key r) =
      passed (datagram_refusals e s.clock b now address udp key r) (packet-numbered now address udp key r b) h in
      go fault is facts
    where
      go : (fault : Fault) → e.read bytes unix ≡ refused fault
          → Passed (datagram_refusals e s.clock (bucket_of e s key) now address udp key (e.read bytes unix)) → ⊥
      go wrong_length is facts = never (sym (ap (is_refused 3) is) ∙ facts.1.0)
      go wrong_hash is facts = never (sym (ap (is_refused 4) is) ∙ facts.1.1.0)
      go unknown_type is facts = never (sym (ap (is_refused 8) is) ∙ facts.1.1.1.1.1.1.0)
      go bad_list is facts = never (sym (ap (is_refused 9) is) ∙ facts.1.1.1.1.1.1.1.0)
      go bad_field is facts = never (sym (ap (is_refused 10) is) ∙ facts.1.1.1.1.1.1.1.1.0)
      go expired is facts = never (sym (ap (is_refused 11) is) ∙ facts.1.1.1.1.1.1.1.1.1.0)

  pub record PingAllowed (s : Table) (now : ℕ) (key address hash : Bytes) : Type 0 where
    pub keyed : Keyed s now key address
    pub hash-whole : length hash ≡ 32
    pub none_out : ping_out key (bucket_of e s key) ≡ false
    pub room : no_room key (bucket_of e s key) ≡ false

  pub ping-allowed : (s : Table) (now : ℕ) (key address : Bytes) (udp tcp : ℕ) (hash : Bytes)
      → Accepted e s (ping_sent now key address udp tcp hash) → PingAllowed s now key address hash
  unfolding ping_sent_refusals
  ping-allowed s now key address udp tcp hash a =
      let b = bucket_of e s key in
      let facts : Passed (ping_sent_refusals e s.clock b now key address udp hash) =
      passed (ping_sent_refusals e s.clock b now key address udp hash) refl a in
      record {
        keyed = record {
          in_time = ltb-false now s.clock facts.0;
          whole = eqb-true (length key) 64 (not-false (eqb (length key) 64) facts.1.1.0);
          address-form = is_address_lem address (not-false (is_address address) facts.1.1.1.0);
          not_own = facts.1.1.1.1.0;
          is_kept = not-false (is_kept e key) facts.1.1.1.1.1.0;
        };
        hash-whole = eqb-true (length hash) 32 (not-false (eqb (length hash) 32) facts.1.0);
        none_out = facts.1.1.1.1.1.1.1.0;
        room = facts.1.1.1.1.1.1.1.1.0;
      }

  pub sweep-in-time : (s : Table) (now : ℕ) → Accepted e s (sweep now) → s.clock ≤ now
  sweep-in-time s now h = ltb-false now s.clock (passed ((ltb now s.clock, 2) ∷ []) refl h).0

  pub sweep-accepted : (s : Table) (now : ℕ) → s.clock ≤ now → Accepted e s (sweep now)
  sweep-accepted s now h = rw (le-ltb now s.clock h)

  -- ---- the buckets of the table that a call leaves

  module _ (s : Table) (sized : length s.buckets ≡ e.kept) (now : ℕ) (key : Bytes) (f : Contents → Contents) (is_kept : is_kept e key ≡ true) where
    -- the table with f applied to the key's bucket
    abbrev pub changed : Table
    changed = record { clock = now; buckets = modify (slot e key) f s.buckets }

    pub own-bucket : bucket_of e changed key ≡ f (bucket_of e s key)
    own-bucket = get_d_modify_same (slot e key) f s.buckets no_contents (omega (arith, slot-less key is_kept))

    pub other-bucket : (i : ℕ) → (i ≡ slot e key → ⊥) → bucket_at e changed i ≡ bucket_at e s i
    other-bucket i h = get_d_modify_other i (slot e key) f s.buckets no_contents h

    -- what holds of each bucket, by whether it is the key's
    pub by_bucket : (P : ℕ → Contents → Type 0) → P (slot e key) (f (bucket_of e s key)) → ((i : ℕ) → (i ≡ slot e key → ⊥) → P i (bucket_at e s i))
        → (i : ℕ) → P i (bucket_at e changed i)
    by_bucket P here there i =
        by_test (eqb i (slot e key))
        (λ g. rw (eqb-true i (slot e key) g, own-bucket) here)
        (λ g. rw (other-bucket i (eqb-false i (slot e key) g)) (there i (eqb-false i (slot e key) g)))

  pub swept_bucket : (s : Table) (now i : ℕ) → bucket_at e (effect e s (sweep now)) i ≡ on_sweep now (bucket_at e s i)
  unfolding on_sweep
  swept_bucket s now i =
      by_test (ltb i (length s.buckets))
      (λ h. get_d_map (on_sweep now) s.buckets i no_contents (ltb-true i (length s.buckets) h))
      (λ h.
      let out_of_it = ltb-false i (length s.buckets) h in
      get_or-eq_default (map (on_sweep now) s.buckets) no_contents (simp length-map out_of_it)
      ∙ ap (on_sweep now) (sym (get_or-eq_default s.buckets no_contents out_of_it)))

  pub fresh-bucket : (i : ℕ) → bucket_at e (fresh e) i ≡ no_contents
  fresh-bucket i =
      by_test (ltb i e.kept)
      (λ h. get_or-replicate e.kept i no_contents no_contents (ltb-true i e.kept h))
      (λ h. get_or-eq_default (replicate e.kept no_contents) no_contents
      (omega (arith, length-replicate e.kept no_contents, ltb-false i e.kept h)))

-- with Keccak-256, a key is at home in the bucket that the crate distance says
pub home_is : (read : Bytes → ℕ → Reading) (own : Bytes) (buckets i : ℕ) (key : Bytes)
    → home_at (with_keccak read own buckets) i key ≡ home own (256 - buckets + i) key
unfolding home
home_is read own buckets i key = refl

pub keccak_lawful : (read : Bytes → ℕ → Reading) (own : Bytes) (buckets : ℕ) → length own ≡ 32 → IsBytes own → Lawful (with_keccak read own buckets)
keccak_lawful read own buckets size bytes =
    record { hash_size = keccak256-length; hash_bytes = keccak256_bytes; own_size = size; own_bytes = bytes }
