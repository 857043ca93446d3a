-- From the head on, entries are in the order in which they were last put at the tail.
use Prim.Native.Nat.{ℕ, ◌-◌, ◌<◌, ◌≤◌}
use mathlib.Core.Path.{◌≡◌, refl, ap, sym, ◌∙◌, subst}
use mathlib.Core.Logic.{inl, inr}
use mathlib.Core.Bool.{Bool, true, false, cond, not, ◌&&◌, ◌||◌, and-false}
use mathlib.Core.List.{List, [], ◌∷◌, ◌++◌, map, append_assoc}
use native.Mathlib.Omega.{arith}
use borrow.Author.Tests.{eq-eqb, ne_eqb, ltb-true, ltb-false, not-true}
use lib.Dec.{ltb}
use lib.ListN.{length}
use Rattle.octets.specs.Octets.{Bytes, same_bytes}
use Rattle.octets.proofs.Laws.{same_eq, same_refl}
use Rattle.lists.specs.Lists.{select, empty, All, Rising}
use Rattle.lists.proofs.Laws.{by_test, never, nil, All-select, All-append, All-imp, All-every, All-right, All-and, Rising-select, Rising-map, Rising-imp}
use Rattle.entry.specs.declared.Entry.{Entry}
use Rattle.bucket_model.specs.Contents.{Contents}
use Rattle.bucket_model.specs.Rules.{takes_entry, is_promoted, is_of, of_key, without, held, is_proved, pinged, ponged, promoted, stays_entry, stays_replacement, on_ping_sent, on_pong, on_heard, on_sweep}
use Rattle.bucket_model.proofs.Keys.{All-promoted}
use Rattle.bucket_model.proofs.View.{kept_replacements, own-heard, own-pong-stays, own-pong-takes}
use Rattle.bucket_model.proofs.Promotion.{Below}
use Rattle.call_history.specs.Model.{Env, Call, datagram, ping_sent, sweep, closest, unclocked, Table, slot, bucket_at, bucket_of, answer, Accepted, on_datagram, next, Event, Run, advance}
use Rattle.call_history.specs.Words.{OwnBucket, entry_of, pong_from, begins, began, heard_from, tails, TailedBefore}
use Rattle.call_history.specs.Demand3.{InOrder, EntriesInOrder}
use Rattle.call_history.proofs.Step.{by_packet, by_answer, datagram-keyed, datagram-read, ping-allowed, by_bucket, swept_bucket}
use Rattle.call_history.proofs.Sound.{TableSound, own-buckets, next-sound}
use Rattle.call_history.proofs.Entry.{is_held}
use Rattle.call_history.proofs.Order.{other_key, latest-le, none-away}

-- ---- lists

module _ {A : Type 0} where
  Rising-append : (R : A → A → Type 0) (l m : List A) → Rising R l → Rising R m → All (λ a. All (R a) m) l → Rising R (l ++ m)
  Rising-append R [] m rl rm h = rm
  Rising-append R (a ∷ l) m rl rm h = (All-append (R a) l m rl.0 h.0, Rising-append R l m rl.1 rm h.1)

  Rising-one : (R : A → A → Type 0) (l : List A) → length l ≤ 1 → Rising R l
  Rising-one R [] h = tt
  Rising-one R (a ∷ []) h = (tt, tt)
  Rising-one R (a ∷ b ∷ l) h = absurd (omega arith)

  select-passes : (q : A → Bool) (l : List A) → All (λ a. q a ≡ true) (select q l)
  select-passes q [] = tt
  select-passes q (a ∷ l) = by_test (q a) (λ h. rw h (h, select-passes q l)) (λ h. rw h (select-passes q l))

  some : (l : List A) → empty l ≡ false → 0 < length l
  some [] h = never h
  some (a ∷ l) h = omega arith

Rising-promoted : (R : Entry → Entry → Type 0) (t l : List Entry) → Rising R l → Rising R (promoted t l)
Rising-promoted R t [] r = tt
Rising-promoted R t (p ∷ l) r =
    by_test (is_promoted t p)
    (λ g. rw g (All-promoted (R p) (t ++ (p ∷ [])) l r.0, Rising-promoted R (t ++ (p ∷ [])) l r.1))
    (λ g. rw g (Rising-promoted R t l r.1))

-- each entry is one of those of its key
found : (l : List Entry) → All (λ p. empty (of_key p.key l) ≡ false) l
found [] = tt
found (p ∷ l) = (
  rw (same_refl p.key),
  All-imp (λ q. empty (of_key q.key l) ≡ false) (λ q. empty (of_key q.key (p ∷ l)) ≡ false)
      (λ q h. by_test (is_of q.key p) (λ g. rw g) (λ g. rw g h)) l (found l),
)

-- ---- a packet of a node moves it to the tail, and no other

module _ (now : ℕ) (key : Bytes) (b : Contents) where
  abbrev MovedTo : Contents → Type 0
  MovedTo c = c.entries ≡ without key b.entries ++ of_key key c.entries

  heard-moves : MovedTo (on_heard now key b)
  unfolding on_heard
  heard-moves = ap (λ m. without key b.entries ++ m) (sym (own-heard now key b).entries)

  pong-moves : MovedTo (on_pong now key b)
  unfolding on_pong
  pong-moves =
      let away = without key b.entries in
      let es = map (ponged now) (of_key key b.entries) in
      let rs = map (ponged now) (of_key key b.replacements) in
      by_test (takes_entry key b)
      (λ g.
      let is : (on_pong now key b).entries ≡ away ++ (es ++ rs) = rw g (append_assoc away es rs) in
      is ∙ ap (λ m. away ++ m) (sym (own-pong-takes now key b g).entries))
      (λ g.
      let is : (on_pong now key b).entries ≡ away ++ es = rw g in
      is ∙ ap (λ m. away ++ m) (sym (own-pong-stays now key b g).entries))

module _ (e : Env) where
  abbrev Before : List (Event e) → Entry → Entry → Type 0
  Before log p q = TailedBefore e log p.key q.key

  -- its node has an entry
  abbrev Has : Table → Entry → Type 0
  Has s p = empty (entry_of e p.key s) ≡ false

  module _ (s : Table) (ok : TableSound e s) (i : ℕ) where
    has-entry : All (Has s) (bucket_at e s i).entries
    has-entry =
        let l = (bucket_at e s i).entries in
        All-imp (λ p. (empty (of_key p.key l) ≡ false) × OwnBucket e i p.key) (Has s) (λ p h. rw h.1.2 h.0) l
        (All-and (λ p. empty (of_key p.key l) ≡ false) (λ p. OwnBucket e i p.key) l (found l) (own-buckets e s ok i).0)

    no-entry : All (λ p. empty (entry_of e p.key s) ≡ true) (bucket_at e s i).replacements
    no-entry =
        let b = bucket_at e s i in
        let l = b.replacements in
        All-imp (λ p. (empty (of_key p.key l) ≡ false) × OwnBucket e i p.key) (λ p. empty (entry_of e p.key s) ≡ true)
        (λ p h. rw h.1.2
        (ap empty (nil (of_key p.key b.entries) (omega (arith, (ok.each i).once p.key, some (of_key p.key l) h.0)))))
        l
        (All-and (λ p. empty (of_key p.key l) ≡ false) (λ p. OwnBucket e i p.key) l (found l) (own-buckets e s ok i).1)

  -- no stay of a node with an entry begins
  no_start : (s : Table) (X : Bytes) → empty (entry_of e X s) ≡ false → (c : Call) → begins e X s c ≡ false
  no_start s X h (datagram now unix address udp key bytes) = refl
  no_start s X h (ping_sent now key address udp tcp hash) =
      by_test (same_bytes X key)
      (λ g.
      let own : empty (entry_of e key s) ≡ false = rw (same_eq X key g) at h in
      rw (is_held now key (bucket_of e s key) (some (entry_of e key s) own)) (simp and-false))
      (λ g. rw g)
  no_start s X h (sweep now) = refl
  no_start s X h (closest target room) = refl
  no_start s X h (unclocked c) = refl

  -- ---- the entries after a call: those that keep their numbers, and after them those that it puts at the tail

  module _ (r : Run e) (c : Call) where
    abbrev the_log : List (Event e)
    the_log = record { given = r.table; call = c } ∷ r.log

    abbrev moves : Bytes → Bool
    moves X = pong_from e X r.table c || heard_from e X r.table c

    abbrev Stays : Entry → Type 0
    Stays p = (tails e p.key r.table c ≡ false) × (begins e p.key r.table c ≡ false)

    abbrev Comes : Entry → Type 0
    Comes p = tails e p.key r.table c ≡ true

    stays : (l : List Entry) → All (Has r.table) l → All (λ p. moves p.key ≡ false) l → All Stays l
    stays l has quiet =
        All-imp (λ p. Has r.table p × (moves p.key ≡ false)) Stays
        (λ p h. (rw h.0 h.1, no_start r.table p.key h.0 c)) l
        (All-and (Has r.table) (λ p. moves p.key ≡ false) l has quiet)

    kept : (l : List Entry) → All Stays l → Rising (Before r.log) l → Rising (Before the_log) l
    kept = Rising-imp (Before r.log) (Before the_log) Stays (λ p q hp hq h. rw (hp.0, hq.0, hp.1, hq.1) h)

    joined : (l m : List Entry) → All Stays l → Rising (Before r.log) l → All Comes m → Rising (Below (began e the_log)) m
        → Rising (Before the_log) (l ++ m)
    joined l m stay rl come rm =
        Rising-append (Before the_log) l m (kept l stay rl)
        (Rising-imp (Below (began e the_log)) (Before the_log) Comes (λ p q hp hq h. inr (rw (hp, hq), h)) m come rm)
        (All-imp Stays (λ p. All (Before the_log p) m)
        (λ p hp. All-imp Comes (Before the_log p)
        (λ q hq. inl (rw (hp.0, hq) (omega (arith, latest-le e (λ v. tails e p.key v.given v.call) r.log)))) m come)
        l stay)

  module _ (r : Run e) (ok : TableSound e r.table) (in_order : InOrder e r) (entries-in-order : EntriesInOrder e r) where
    -- a bucket of the table that the call leaves is in order
    abbrev Ordered : Call → Contents → Type 0
    Ordered c b =
        All (Has (next e r.table c)) b.entries → ((X : Bytes) → length (of_key X b.entries) ≤ 1) → Rising (Before (the_log r c)) b.entries

    -- none of the bucket's nodes moves
    still : (c : Call) (i : ℕ) → All (λ p. moves r c p.key ≡ false) (bucket_at e r.table i).entries
        → Rising (Before (the_log r c)) (bucket_at e r.table i).entries
    still c i quiet =
        let l = (bucket_at e r.table i).entries in
        kept r c l (stays r c l (has-entry r.table ok i) quiet) (entries-in-order i)

    all-still : (c : Call) (i : ℕ) → ((X : Bytes) → moves r c X ≡ false) → Rising (Before (the_log r c)) (bucket_at e r.table i).entries
    all-still c i quiet = still c i (All-every _ (λ p. quiet p.key) (bucket_at e r.table i).entries)

    module _ (now unix : ℕ) (address : Bytes) (udp : ℕ) (key bytes : Bytes) where
      abbrev the_call : Call
      the_call = datagram now unix address udp key bytes

      abbrev the_entries : List Entry
      the_entries = (bucket_of e r.table key).entries

      others : (l : List Entry) → All (λ p. is_of key p ≡ false) l → All (λ p. moves r the_call p.key ≡ false) l
      others = All-imp (λ p. is_of key p ≡ false) (λ p. moves r the_call p.key ≡ false) (λ p h. rw (other_key key p.key h))

      -- the packet puts its signer at the tail
      moved : (b : Contents) → MovedTo now key (bucket_of e r.table key) b → moves r the_call key ≡ true → Ordered the_call b
      moved b is at_tail has once =
          let l = without key the_entries in
          let m = of_key key b.entries in
          rw is
          (joined r the_call l m
          (stays r the_call l (All-select (Has r.table) (λ p. not (is_of key p)) the_entries (has-entry r.table ok (slot e key)))
          (others l
          (All-imp (λ p. not (is_of key p) ≡ true) (λ p. is_of key p ≡ false) (λ p h. not-true (is_of key p) h) l
          (select-passes (λ p. not (is_of key p)) the_entries))))
          (Rising-select (Before r.log) (λ p. not (is_of key p)) the_entries (entries-in-order (slot e key)))
          (All-imp (λ p. Has (next e r.table the_call) p × (is_of key p ≡ true)) (Comes r the_call)
          (λ p h. by_test (empty (entry_of e p.key r.table))
          (λ g. rw (g, h.0))
          (λ g. rw g (ap (moves r the_call) (sym (same_eq key p.key h.1)) ∙ at_tail)))
          m
          (All-and (Has (next e r.table the_call)) (λ p. is_of key p ≡ true) m
          (All-select (Has (next e r.table the_call)) (is_of key) b.entries has)
          (select-passes (is_of key) b.entries)))
          (Rising-one (Below (began e (the_log r the_call))) m (once key)))

      -- the signer's bucket
      here : Accepted e r.table the_call → Ordered the_call (on_datagram now address udp key (e.read bytes unix) (bucket_of e r.table key))
      here a =
          let reading = e.read bytes unix in
          let b = bucket_of e r.table key in
          let answered = eq-eqb (answer e r.table the_call) 0 a in
          by_packet (Ordered the_call) now address udp key reading b
          (λ fault is. absurd (datagram-read e r.table now unix address udp key bytes a fault is))
          (λ no unverified has once. all-still the_call (slot e key) (λ X. rw (no, unverified) (simp and-false)))
          (λ no verified. moved (on_heard now key b) (heard-moves now key b) (rw (same_refl key, no, answered, verified)))
          (λ is. moved (on_pong now key b) (pong-moves now key b) (rw (same_refl key, is, answered)))

      packet-order : (i : ℕ) → Ordered the_call (bucket_at e (next e r.table the_call) i)
      packet-order i =
          by_answer e (λ s'. Ordered the_call (bucket_at e s' i)) r.table the_call
          (λ a. by_bucket e r.table ok.sized now key (on_datagram now address udp key (e.read bytes unix))
          (datagram-keyed e r.table now unix address udp key bytes a).is_kept (λ i b. Ordered the_call b)
          (here a)
          (λ i away has once.
          let l = (bucket_at e r.table i).entries in
          still the_call i (others l (none-away e key i away l (own-buckets e r.table ok i).0)))
          i)
          (λ rejected has once. all-still the_call i (λ X. rw (ne_eqb (answer e r.table the_call) 0 rejected) (simp and-false)))

    pinged-order : (now : ℕ) (key address : Bytes) (udp tcp : ℕ) (hash : Bytes)
        → Rising (Before (the_log r (ping_sent now key address udp tcp hash))) (on_ping_sent now key address udp tcp hash (bucket_of e r.table key)).entries
    unfolding on_ping_sent
    pinged-order now key address udp tcp hash =
        let c = ping_sent now key address udp tcp hash in
        let b = bucket_of e r.table key in
        let was = all-still c (slot e key) (λ X. refl) in
        let same_key : (p : Entry) → (cond (is_of key p) (pinged now hash p) p).key ≡ p.key =
        λ p. by_test (is_of key p) (λ h. rw h) (λ h. rw h) in
        by_test (empty (held key b))
        (λ g. rw g was)
        (λ g. rw g (Rising-map (Before (the_log r c)) (λ p. cond (is_of key p) (pinged now hash p) p)
        (λ p q h.
        subst (λ k. TailedBefore e (the_log r c) k (cond (is_of key q) (pinged now hash q) q).key) (sym (same_key p))
        (subst (λ k. TailedBefore e (the_log r c) p.key k) (sym (same_key q)) h)) b.entries was))

    swept-order : (now i : ℕ) → Ordered (sweep now) (on_sweep now (bucket_at e r.table i))
    unfolding on_sweep
    swept-order now i has once =
        let c = sweep now in
        let b = bucket_at e r.table i in
        let l = select (stays_entry now) b.entries in
        let line = kept_replacements now b in
        joined r c l (promoted l line)
        (stays r c l (All-select (Has r.table) (stays_entry now) b.entries (has-entry r.table ok i)) (All-every _ (λ p. refl) l))
        (Rising-select (Before r.log) (stays_entry now) b.entries (entries-in-order i))
        (All-imp (λ p. (empty (entry_of e p.key r.table) ≡ true) × Has (next e r.table c) p) (Comes r c) (λ p h. rw (h.0, h.1))
        (promoted l line)
        (All-and (λ p. empty (entry_of e p.key r.table) ≡ true) (Has (next e r.table c)) (promoted l line)
        (All-promoted (λ p. empty (entry_of e p.key r.table) ≡ true) l line
        (All-select (λ p. empty (entry_of e p.key r.table) ≡ true) (stays_replacement now) b.replacements (no-entry r.table ok i)))
        (All-right (Has (next e r.table c)) l (promoted l line) has)))
        (Rising-promoted (Below (began e r.log)) l line (Rising-select (Below (began e r.log)) (stays_replacement now) b.replacements (in_order i)))

    ordered : (c : Call) (i : ℕ) → Ordered c (bucket_at e (next e r.table c) i)
    ordered (datagram now unix address udp key bytes) i = packet-order now unix address udp key bytes i
    ordered (ping_sent now key address udp tcp hash) i =
        let c = ping_sent now key address udp tcp hash in
        by_answer e (λ s'. Ordered c (bucket_at e s' i)) r.table c
        (λ a. by_bucket e r.table ok.sized now key (on_ping_sent now key address udp tcp hash)
        (ping-allowed e r.table now key address udp tcp hash a).keyed.is_kept (λ i b. Ordered c b)
        (λ has once. pinged-order now key address udp tcp hash)
        (λ i _ has once. all-still c i (λ X. refl))
        i)
        (λ _ has once. all-still c i (λ X. refl))
    ordered (sweep now) i =
        by_answer e (λ s'. Ordered (sweep now) (bucket_at e s' i)) r.table (sweep now)
        (λ a. rw (swept_bucket e r.table now i) (swept-order now i))
        (λ _ has once. all-still (sweep now) i (λ X. refl))
    ordered (closest target room) i =
        let c = closest target room in
        by_answer e (λ s'. Ordered c (bucket_at e s' i)) r.table c
        (λ _ has once. all-still c i (λ X. refl))
        (λ _ has once. all-still c i (λ X. refl))
    ordered (unclocked c) i = λ has once. all-still (unclocked c) i (λ X. refl)

    pub advance-entries : (c : Call) → EntriesInOrder e (advance e r c)
    advance-entries c i =
        let after = next-sound e r.table ok c in
        ordered c i (has-entry (next e r.table c) after i) (λ X. omega (arith, (after.each i).once X))
