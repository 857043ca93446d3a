-- The line of replacements: who of it a sweep promotes, and how each rule keeps its order.
use Prim.Native.Nat.{ℕ, ◌-◌, ◌<◌, ◌≤◌}
use mathlib.Core.Path.{◌≡◌, refl, sym, ◌∙◌}
use mathlib.Core.Bool.{Bool, true, false, cond, not, ◌&&◌, and-false}
use mathlib.Core.List.{List, [], ◌∷◌, ◌++◌, append-nil, append_assoc}
use native.Mathlib.Omega.{arith}
use borrow.Author.Tests.{le-ltb, lt-ltb}
use lib.Dec.{ltb}
use lib.ListN.{length}
use Rattle.octets.specs.Octets.{Bytes}
use Rattle.octets.proofs.Laws.{same_eq}
use Rattle.lists.specs.Lists.{select, empty, before, All, Rising}
use Rattle.lists.proofs.Laws.{by_test, never, and_right, All-none, Rising-select, Rising-snoc, Rising-map}
use Rattle.entry.specs.declared.Entry.{Entry}
use Rattle.bucket_model.specs.Contents.{Contents}
use Rattle.bucket_model.specs.Rules.{max_entries, is_of, of_key, update, held, is_proved, pinged, ponged, heard, new_entry, may_take, is_promoted, max_of_range, range_count, takes_entry, promoted, remaining, stays_entry, stays_replacement, on_ping_sent, on_pong, on_heard, on_sweep}
use Rattle.bucket_model.specs.Facts.{SeatFor}
use Rattle.bucket_model.proofs.Keys.{KeepsKey, All-remaining, promoted_or_remaining}
use Rattle.bucket_model.proofs.Ranges.{take_room, take_range, may-take}

-- ---- who is promoted

abbrev pub proved_entry : Entry → Bool
proved_entry p = is_proved p.proof

module _ (X : Bytes) where
  -- the entries that X finds taken at its turn
  unfoldable pub taken_before : List Entry → List Entry → List Entry
  taken_before t l = t ++ promoted t (before (is_of X) l)

  pub promoted-room : (t l : List Entry) → length (of_key X l) ≤ 1 → 0 < length (of_key X (promoted t l)) → SeatFor X (taken_before t l) l
  unfolding taken_before
  promoted-room t [] = λ o h. absurd (omega arith)
  promoted-room t (p ∷ l) =
      by_test (is_of X p)
      (λ f. by_test (is_promoted t p)
      (λ g. simp (f, g, append-nil) (λ o h.
      let may = and_right (is_proved p.proof) (may_take t p.endpoint) g in
      (take_room t p.endpoint may, (take_range t p.endpoint may, All-none _ (of_key X l) (omega arith)))))
      (λ g. simp (f, g) (λ o h. absurd (omega (arith, promoted_or_remaining X t l)))))
      (λ f. by_test (is_promoted t p)
      (λ g. simp (f, g) (λ o h. rw append_assoc at (promoted-room (t ++ (p ∷ [])) l o h)))
      (λ g. simp (f, g) (λ o h. promoted-room t l o h)))

  pub room-promoted : (t l : List Entry) → All (λ p. proved_entry p ≡ true) (of_key X l) → 0 < length (of_key X l) → SeatFor X (taken_before t l) l
      → 0 < length (of_key X (promoted t l))
  unfolding taken_before
  room-promoted t [] = λ a h o. absurd (omega arith)
  room-promoted t (p ∷ l) =
      by_test (is_of X p)
      (λ f. by_test (is_promoted t p)
      (λ g. simp (f, g) (λ a h o. omega arith))
      (λ g. simp (f, append-nil) (λ a h o.
      let may = may-take t p.endpoint o.0 o.1.0 in
      never (sym (rw (a.0, may)) ∙ g))))
      (λ f. by_test (is_promoted t p)
      (λ g. simp (f, g) (λ a h o. room-promoted (t ++ (p ∷ [])) l a h (rw append_assoc o)))
      (λ g. simp (f, g) (λ a h o. room-promoted t l a h o)))

-- a property of the node in line, through a promotion
module _ (P : Entry → Type 0) (X : Bytes) where
  pub of_key-promoted : (t l : List Entry) → All P (of_key X l) → All P (of_key X (promoted t l))
  of_key-promoted t [] = λ a. tt
  of_key-promoted t (p ∷ l) =
      by_test (is_promoted t p)
      (λ g. by_test (is_of X p)
      (λ f. simp (g, f) (λ a. (a.0, of_key-promoted (t ++ (p ∷ [])) l a.1)))
      (λ f. simp (g, f) (λ a. of_key-promoted (t ++ (p ∷ [])) l a)))
      (λ g. by_test (is_of X p)
      (λ f. simp (g, f) (λ a. of_key-promoted t l a.1))
      (λ f. simp (g, f) (λ a. of_key-promoted t l a)))

  pub of_key-remaining : (t l : List Entry) → All P (of_key X l) → All P (of_key X (remaining t l))
  of_key-remaining t [] = λ a. tt
  of_key-remaining t (p ∷ l) =
      by_test (is_promoted t p)
      (λ g. by_test (is_of X p)
      (λ f. simp (g, f) (λ a. of_key-remaining (t ++ (p ∷ [])) l a.1))
      (λ f. simp (g, f) (λ a. of_key-remaining (t ++ (p ∷ [])) l a)))
      (λ g. by_test (is_of X p)
      (λ f. simp (g, f) (λ a. (a.0, of_key-remaining t l a.1)))
      (λ f. simp (g, f) (λ a. of_key-remaining t l a)))

-- ---- a line in rising order of a rank of its keys

module _ (rank : Bytes → ℕ) where
  abbrev pub Below : Entry → Entry → Type 0
  Below p q = rank p.key < rank q.key

  updated-key : (key : Bytes) (f : Entry → Entry) → KeepsKey f → (p : Entry) → (cond (is_of key p) (f p) p).key ≡ p.key
  updated-key key f kf p = by_test (is_of key p) (λ h. rw h (kf p)) (λ h. rw h)

  rising-update : (key : Bytes) (f : Entry → Entry) → KeepsKey f → (l : List Entry) → Rising Below l → Rising Below (update key f l)
  rising-update key f kf l r =
      Rising-map Below (λ p. cond (is_of key p) (f p) p) (λ p q h. rw (updated-key key f kf p, updated-key key f kf q) h) l r

  rising-remaining : (t l : List Entry) → Rising Below l → Rising Below (remaining t l)
  rising-remaining t [] r = tt
  rising-remaining t (p ∷ l) r =
      by_test (is_promoted t p)
      (λ g. rw g (rising-remaining (t ++ (p ∷ [])) l r.1))
      (λ g. rw g (All-remaining (Below p) t l r.0, rising-remaining t l r.1))

  none-lower : (q : Entry → Bool) (X : Bytes) (l : List Entry) → All (λ p. rank X < rank p.key) l
      → select (λ p. q p && ltb (rank p.key) (rank X)) l ≡ []
  none-lower q X [] a = refl
  none-lower q X (p ∷ l) a =
      let behind : rank X < rank p.key = a.0 in
      simp (le-ltb (rank p.key) (rank X) (omega arith), and-false, none-lower q X l a.1)

  lower : (X : Bytes) (p : Entry) (l : List Entry) → All (Below p) l → 0 < length (of_key X l) → rank p.key < rank X
  lower X p [] = λ a h. absurd (omega arith)
  lower X p (q ∷ l) =
      by_test (is_of X q)
      (λ g. λ a h. rw (same_eq X q.key g) a.0)
      (λ g. rw g (λ a h. lower X p l a.1 h))

  -- those of a lower rank than X are those that stand before it
  pub lower-before : (q : Entry → Bool) (X : Bytes) (l : List Entry) → Rising Below l → 0 < length (of_key X l)
      → select (λ p. q p && ltb (rank p.key) (rank X)) l ≡ select q (before (is_of X) l)
  lower-before q X [] = λ r h. absurd (omega arith)
  lower-before q X (p ∷ l) =
      by_test (is_of X p)
      (λ g. λ r h.
      let is = same_eq X p.key g in
      let behind : All (λ p. rank X < rank p.key) l = rw is r.0 in
      simp (g, le-ltb (rank p.key) (rank X) (rw is (omega arith)), and-false, none-lower q X l behind))
      (λ g. rw g (λ r h.
      by_test (q p)
      (λ f. simp (f, lt-ltb (rank p.key) (rank X) (lower X p l r.0 h), lower-before q X l r.1 h))
      (λ f. simp (f, lower-before q X l r.1 h))))

  module _ (now : ℕ) (key : Bytes) (b : Contents) (r : Rising Below b.replacements) where
    pub rising-heard : Rising Below (on_heard now key b).replacements
    unfolding on_heard
    rising-heard = rising-update key (heard now) (λ p. refl) b.replacements r

    pub rising-pong : Rising Below (on_pong now key b).replacements
    unfolding on_pong
    rising-pong =
        by_test (takes_entry key b)
        (λ g. rw g (Rising-select Below (λ p. not (is_of key p)) b.replacements r))
        (λ g. rw g (rising-update key (ponged now) (λ p. refl) b.replacements r))

    -- the new node has to rank above the others
    pub rising_ping_sent : (address : Bytes) (udp tcp : ℕ) (hash : Bytes)
        → (empty (held key b) ≡ true → All (λ p. rank p.key < rank key) b.replacements)
        → Rising Below (on_ping_sent now key address udp tcp hash b).replacements
    unfolding on_ping_sent
    rising_ping_sent address udp tcp hash last =
        by_test (empty (held key b))
        (λ g. rw g (Rising-snoc Below (new_entry now key address udp tcp hash) b.replacements (last g) r))
        (λ g. rw g (rising-update key (pinged now hash) (λ p. refl) b.replacements r))

  pub rising-sweep : (now : ℕ) (b : Contents) → Rising Below b.replacements → Rising Below (on_sweep now b).replacements
  unfolding on_sweep
  rising-sweep now b r =
      rising-remaining (select (stays_entry now) b.entries) (select (stays_replacement now) b.replacements)
      (Rising-select Below (stays_replacement now) b.replacements r)
