-- The entries of one key, through each change of a list of entries.
use Prim.Native.Nat.{ℕ, ◌+◌, ◌-◌, ◌<◌, ◌≤◌}
use mathlib.Core.Path.{◌≡◌, refl}
use mathlib.Core.Bool.{true, false, ◌&&◌}
use mathlib.Core.List.{List, [], ◌∷◌, ◌++◌, map, append-nil, append_assoc}
use native.Mathlib.Omega.{arith}
use lib.ListN.{length, length-append, length-map}
use Rattle.octets.specs.Octets.{Bytes, same_bytes}
use Rattle.octets.proofs.Laws.{same_eq}
use Rattle.lists.specs.Lists.{All}
use Rattle.lists.proofs.Laws.{by_test, and_left, and_right, select-append, length-split, All-select, All-append, All-map}
use Rattle.entry.specs.declared.Entry.{Entry}
use Rattle.bucket_model.specs.Rules.{max_entries, is_of, of_key, without, update, to_tail, is_proved, may_take, is_promoted, promoted, remaining}
use Rattle.bucket_model.proofs.Ranges.{take_room, not_later}

-- f leaves the key as it is
abbrev pub KeepsKey : (Entry → Entry) → Type 0
KeepsKey f = (p : Entry) → (f p).key ≡ p.key

not_of : (X k : Bytes) (p : Entry) → same_bytes X k ≡ false → is_of k p ≡ true → is_of X p ≡ false
not_of X k p d h = rw (← same_eq k p.key h) d

-- ---- the same key

pub of_key-without : (k : Bytes) (l : List Entry) → of_key k (without k l) ≡ []
of_key-without k [] = refl
of_key-without k (p ∷ l) = by_test (is_of k p) (λ h. simp (h, of_key-without k l)) (λ h. simp (h, of_key-without k l))

pub of_key-of_key : (k : Bytes) (l : List Entry) → of_key k (of_key k l) ≡ of_key k l
of_key-of_key k [] = refl
of_key-of_key k (p ∷ l) = by_test (is_of k p) (λ h. simp (h, of_key-of_key k l)) (λ h. simp (h, of_key-of_key k l))

module _ (f : Entry → Entry) (kf : KeepsKey f) where
  pub of_key-map : (X : Bytes) (l : List Entry) → of_key X (map f l) ≡ map f (of_key X l)
  of_key-map X [] = refl
  of_key-map X (p ∷ l) = by_test (is_of X p) (λ h. simp (kf p, h, of_key-map X l)) (λ h. simp (kf p, h, of_key-map X l))

  pub of_key-update : (k : Bytes) (l : List Entry) → of_key k (update k f l) ≡ map f (of_key k l)
  of_key-update k [] = refl
  of_key-update k (p ∷ l) = by_test (is_of k p) (λ h. simp (h, kf p, of_key-update k l)) (λ h. simp (h, of_key-update k l))

  pub of_key-to_tail : (k : Bytes) (l : List Entry) → of_key k (to_tail k f l) ≡ map f (of_key k l)
  of_key-to_tail k l = simp (select-append, of_key-without k l, of_key-map k (of_key k l), of_key-of_key k l)

-- ---- another key

module _ (X k : Bytes) (d : same_bytes X k ≡ false) where
  pub other-without : (l : List Entry) → of_key X (without k l) ≡ of_key X l
  other-without [] = refl
  other-without (p ∷ l) =
      by_test (is_of k p)
      (λ h. simp (h, not_of X k p d h, other-without l))
      (λ h. by_test (is_of X p) (λ g. simp (h, g, other-without l)) (λ g. simp (h, g, other-without l)))

  pub other_of_key : (l : List Entry) → of_key X (of_key k l) ≡ []
  other_of_key [] = refl
  other_of_key (p ∷ l) =
      by_test (is_of k p) (λ h. simp (h, not_of X k p d h, other_of_key l)) (λ h. simp (h, other_of_key l))

  module _ (f : Entry → Entry) (kf : KeepsKey f) where
    pub other-map : (l : List Entry) → of_key X (map f (of_key k l)) ≡ []
    other-map l = simp (of_key-map f kf X, other_of_key l)

    pub other-update : (l : List Entry) → of_key X (update k f l) ≡ of_key X l
    other-update [] = refl
    other-update (p ∷ l) =
        by_test (is_of k p)
        (λ h. simp (h, kf p, not_of X k p d h, other-update l))
        (λ h. by_test (is_of X p) (λ g. simp (h, g, other-update l)) (λ g. simp (h, g, other-update l)))

    pub other_to_tail : (l : List Entry) → of_key X (to_tail k f l) ≡ of_key X l
    other_to_tail l = simp (select-append, other-without l, other-map l, append-nil)

-- ---- lengths

pub length-to_tail : (f : Entry → Entry) (k : Bytes) (l : List Entry) → length (to_tail k f l) ≡ length l
length-to_tail f k l = simp (length-append, length-map) (length-split (is_of k) l)

-- ---- the promotion of a line, where the entries t are taken

pub length-promoted : (t l : List Entry) → length t ≤ max_entries → length t + length (promoted t l) ≤ max_entries
length-promoted t [] h = omega arith
length-promoted t (p ∷ l) h =
    by_test (is_promoted t p)
    (λ g.
    let room = take_room t p.endpoint (and_right (is_proved p.proof) (may_take t p.endpoint) g) in
    let more = simp length-append at (length-promoted (t ++ (p ∷ [])) l (simp length-append (omega arith))) in
    rw g (omega arith))
    (λ g. rw g (length-promoted t l h))

pub promoted_proved : (t l : List Entry) → All (λ p. is_proved p.proof ≡ true) (promoted t l)
promoted_proved t [] = tt
promoted_proved t (p ∷ l) =
    by_test (is_promoted t p)
    (λ g. rw g (and_left (is_proved p.proof) (may_take t p.endpoint) g, promoted_proved (t ++ (p ∷ [])) l))
    (λ g. rw g (promoted_proved t l))

pub length-remaining : (t l : List Entry) → length (remaining t l) ≤ length l
length-remaining t [] = omega arith
length-remaining t (p ∷ l) =
    by_test (is_promoted t p)
    (λ g. rw g (omega (arith, length-remaining (t ++ (p ∷ [])) l)))
    (λ g. rw g (omega (arith, length-remaining t l)))

-- no proved node that may still take an entry stays in line
pub promoted_all : (t l : List Entry) → All (λ p. is_promoted (t ++ promoted t l) p ≡ false) (remaining t l)
promoted_all t [] = tt
promoted_all t (p ∷ l) =
    by_test (is_promoted t p)
    (λ g. rw g (rw append_assoc at (promoted_all (t ++ (p ∷ [])) l)))
    (λ g. rw g (not_later t (promoted t l) p g, promoted_all t l))

-- an entry of the line is promoted or stays, once
pub promoted_or_remaining : (X : Bytes) (t l : List Entry)
    → length (of_key X (promoted t l)) + length (of_key X (remaining t l)) ≡ length (of_key X l)
promoted_or_remaining X t [] = omega arith
promoted_or_remaining X t (p ∷ l) =
    by_test (is_promoted t p)
    (λ g. let ih = promoted_or_remaining X (t ++ (p ∷ [])) l in
    by_test (is_of X p) (λ f. simp (g, f) (omega arith)) (λ f. simp (g, f) (omega arith)))
    (λ g. let ih = promoted_or_remaining X t l in
    by_test (is_of X p) (λ f. simp (g, f) (omega arith)) (λ f. simp (g, f) (omega arith)))

-- ---- what holds of each entry

module _ (P : Entry → Type 0) where
  pub All-update : (f : Entry → Entry) → ((p : Entry) → P p → P (f p)) → (k : Bytes) (l : List Entry) → All P l → All P (update k f l)
  All-update f h k [] a = tt
  All-update f h k (p ∷ l) a =
      by_test (is_of k p)
      (λ g. rw g (h p a.0, All-update f h k l a.1))
      (λ g. rw g (a.0, All-update f h k l a.1))

  -- by whether it is of the key
  pub All-update-by : (Q : Entry → Type 0) (f : Entry → Entry) (k : Bytes)
      → ((p : Entry) → P p → is_of k p ≡ true → Q (f p)) → ((p : Entry) → P p → is_of k p ≡ false → Q p)
      → (l : List Entry) → All P l → All Q (update k f l)
  All-update-by Q f k h g [] a = tt
  All-update-by Q f k h g (p ∷ l) a =
      by_test (is_of k p)
      (λ i. rw i (h p a.0 i, All-update-by Q f k h g l a.1))
      (λ i. rw i (g p a.0 i, All-update-by Q f k h g l a.1))

  pub All-to_tail : (f : Entry → Entry) → ((p : Entry) → P p → P (f p)) → (k : Bytes) (l : List Entry) → All P l → All P (to_tail k f l)
  All-to_tail f h k l a =
      All-append P (without k l) (map f (of_key k l)) (All-select P _ l a) (All-map P P f h (of_key k l) (All-select P (is_of k) l a))

  pub All-promoted : (t l : List Entry) → All P l → All P (promoted t l)
  All-promoted t [] a = tt
  All-promoted t (p ∷ l) a =
      by_test (is_promoted t p)
      (λ g. rw g (a.0, All-promoted (t ++ (p ∷ [])) l a.1))
      (λ g. rw g (All-promoted t l a.1))

  pub All-remaining : (t l : List Entry) → All P l → All P (remaining t l)
  All-remaining t [] a = tt
  All-remaining t (p ∷ l) a =
      by_test (is_promoted t p)
      (λ g. rw g (All-remaining (t ++ (p ∷ [])) l a.1))
      (λ g. rw g (a.0, All-remaining t l a.1))

-- ---- how many entries a key has

module _ (f : Entry → Entry) (kf : KeepsKey f) (X k : Bytes) where
  pub count-update : (l : List Entry) → length (of_key X (update k f l)) ≡ length (of_key X l)
  count-update l =
      by_test (same_bytes X k)
      (λ h. rw (same_eq X k h) (simp (of_key-update f kf k l, length-map)))
      (λ h. simp (other-update X k h f kf l))

  pub count-to_tail : (l : List Entry) → length (of_key X (to_tail k f l)) ≡ length (of_key X l)
  count-to_tail l =
      by_test (same_bytes X k)
      (λ h. rw (same_eq X k h) (simp (of_key-to_tail f kf k l, length-map)))
      (λ h. simp (other_to_tail X k h f kf l))

  -- taken out of one list and put into another
  pub count-moved : (l : List Entry) → length (of_key X (map f (of_key k l))) + length (of_key X (without k l)) ≡ length (of_key X l)
  count-moved l =
      by_test (same_bytes X k)
      (λ h. rw (same_eq X k h) (simp (of_key-map f kf, of_key-of_key k l, of_key-without k l, length-map) (omega arith)))
      (λ h. simp (other-map X k h f kf l, other-without X k h l) (omega arith))
