-- Whether a key's node is held and where, by its lookup in its bucket. Assumes nothing.
use mathlib.Core.Path.{◌≡◌, refl, sym, ap, ap₂, ◌∙◌}
use mathlib.Core.Bool.{Bool, true, false, not}
use mathlib.Core.List.{List, [], ◌∷◌, ◌++◌}
use Prim.Native.Nat.{ℕ, suc, ◌+◌, ◌-◌, ◌≤◌, ◌<◌}
use native.Mathlib.Omega.{arith}
use borrow.Author.Tests.{eqb-true, leb-true, not-true, not-false}
use lib.Dec.{eqb}
use lib.ListN.{length}
use Rattle.octets.specs.Octets.{Bytes, IsBytes, same_bytes}
use Rattle.octets.proofs.Laws.{same_refl, length_part, bytes_part}
use Rattle.lists.specs.Lists.{any, before, empty}
use Rattle.lists.proofs.Laws.{by_test, never, passed}
use Rattle.keccak.specs.Sponge.{keccak256}
use Rattle.keccak.proofs.Laws.{keccak256-length, keccak256_bytes}
use Rattle.distance.specs.Distance.{distance, log_distance, number_of_distance}
use Rattle.distance.proofs.LogDistance.{log-distance}
use Rattle.node.specs.declared.Node.{Node}
use Rattle.entry.specs.declared.Entry.{Entry}
use Rattle.entry.specs.Nodes.{node_of}
use Rattle.bucket_model.specs.Contents.{Contents}
use Rattle.bucket_model.specs.Rules.{is_of, held}
use Rattle.bucket_model.specs.Sound.{distinct}
use Rattle.bucket.specs.declared.Position.{Position}
use Rattle.bucket.specs.declared.Position.TheVariants.{Absent, InEntries, InReplacements}
use Rattle.bucket.specs.declared.Bucket.{Bucket}
use Rattle.bucket.specs.Steps.{index_of, contents, Shows, position_of}
use Rattle.bucket.proofs.Laws.{of_shown}
use Rattle.bucket_lookup.specs.declared.Lookup.{Lookup}
use Rattle.bucket_lookup.specs.Steps.{only_at, found, Ready, LooksUp}
use Rattle.bucket_lookup.proofs.ByKey.{located}
use Rattle.table_model.specs.Layout.{own_of, count_of, bucket_at}
use Rattle.table_model.proofs.Header.{header-sound}
use Rattle.call_history.specs.Model.{bucket_number, is_own, is_kept, slot}
use Rattle.call_model.specs.Calls.{env_of, bucket_for, unsound_for}
use Rattle.call_model.specs.Reading.{reading}
use Rattle.call_touched.proofs.Touch.{header-there}
use Rattle.call_key.specs.declared.Held.{Held}
use Rattle.call_key.specs.declared.Held.TheVariants as at
use Rattle.call_key.specs.declared.Found.{Found}
use Rattle.call_key.specs.Number.{key_number}
use Rattle.call_key.specs.Held.{held_in, first_node, found_in, not_found, found_on}
use Rattle.call_key.specs.Steps.{FewBefore, held_at}

-- ---- the place of a key in its bucket

module _ {A : Type 0} (q : A → Bool) where
  index-before : (l : List A) → index_of q l ≡ length (before q l)
  index-before [] = refl
  index-before (a ∷ l) = by_test (q a) (λ t. rw t refl) (λ t. rw t (ap suc (index-before l)))

  any_below : (l : List A) → index_of q l < length l → any q l ≡ true
  any_below [] h = absurd (omega arith)
  any_below (a ∷ l) h =
      by_test (q a) (λ t. rw t refl) (λ t. rw t (any_below l (let z : suc (index_of q l) < suc (length l) = rw t at h in omega arith)))

module _ (key : Bytes) (m : Contents) (keys : distinct (m.entries ++ m.replacements) ≡ true) where
  place_is : (l : List Entry) {i : ℕ} → i ≡ index_of (is_of key) l → i + 1 ≡ suc (length (before (is_of key) l))
  place_is l e = omega (arith, e, index-before (is_of key) l)

  held-is : (d : ℕ) → held_at d (position_of key m) ≡ held_in d key m
  held-is d =
      located key m keys
      (λ i p f no. rw (p, any_below (is_of key) m.entries f.below) (ap (at.Entry d) (place_is m.entries f.at)))
      (λ i p no f. rw (p, no, any_below (is_of key) m.replacements f.below) (ap (at.Replacement d) (place_is m.replacements f.at)))
      (λ p no no'. rw (p, no, no') refl)

  few-before : length m.entries ≤ 16 → length m.replacements ≤ 16 → {p : Position} → p ≡ position_of key m → FewBefore p
  few-before n k e =
      rw e (located {P = FewBefore (position_of key m)} key m keys
      (λ i p f no. rw p (omega (arith, f.at, f.below)))
      (λ i p no f. rw p (omega (arith, f.at, f.below)))
      (λ p no no'. rw p tt))

  -- ---- by what a lookup finds

  absent : (p : Position) (e : Entry) → empty (only_at p e) ≡ true → p ≡ Absent
  absent Absent e h = refl
  absent (InEntries i) e h = absurd (let z : ◌≡◌ {A = ℕ} 0 1 = cc in omega arith)
  absent (InReplacements i) e h = absurd (let z : ◌≡◌ {A = ℕ} 0 1 = cc in omega arith)

  its-node : (p : Position) (e : Entry) → empty (only_at p e) ≡ false → node_of e ≡ first_node (only_at p e)
  its-node Absent e h = absurd (let z : ◌≡◌ {A = ℕ} 0 1 = cc in omega arith)
  its-node (InEntries i) e h = refl
  its-node (InReplacements i) e h = refl

  module _ (d : ℕ) (l : Lookup) (h : LooksUp key m l) where
    made : {x : Held} {n : Node} → x ≡ held_in d key m → n ≡ first_node (held key m) → record { number = 0; held = x; node = n } ≡ found_in d key m
    made e f = ap₂ (λ (x : Held) (n : Node). record { number = 0; held = x; node = n }) e f

    found_nowhere : empty (found l) ≡ true → not_found 0 ≡ found_in d key m
    found_nowhere e =
        let p : l.position ≡ Absent = absent l.position l.entry e in
        let none : [] ≡ held key m = sym (ap (λ (x : Position). only_at x l.entry) p) ∙ h.held in
        made (ap (held_at d) (sym p ∙ h.position) ∙ held-is d) (ap first_node none)

    found-there : empty (found l) ≡ false → {x : Held} {n : Node} → x ≡ held_at d l.position → n ≡ node_of l.entry
        → record { number = 0; held = x; node = n } ≡ found_in d key m
    found-there e ex en =
        made (ex ∙ ap (held_at d) h.position ∙ held-is d) (en ∙ its-node l.position l.entry e ∙ ap first_node h.held)

-- of a bucket by value
module _ (key : Bytes) (b : Bucket) (m : Contents) (sh : Shows b m) (ready : Ready b) (l : Lookup) (h : LooksUp key (contents b) l) where
  keys-apart : distinct (m.entries ++ m.replacements) ≡ true
  keys-apart = of_shown (λ (x : Contents). distinct (x.entries ++ x.replacements) ≡ true) b m sh ready.keys

  looks : LooksUp key m l
  looks = of_shown (λ (x : Contents). LooksUp key x l) b m sh h

  pub few : FewBefore l.position
  few = few-before key m keys-apart sh.entries.fits sh.replacements.fits looks.position

  module _ (d : ℕ) {is : Bool} (e : is ≡ not (empty (found l))) where
    pub nowhere : is ≡ false → {r : Found} → r ≡ not_found 0 → r ≡ found_in d key m
    nowhere t er = er ∙ found_nowhere key m keys-apart d l looks (not-false _ (sym e ∙ t))

    pub somewhere : is ≡ true → {x : Held} {n : Node} → x ≡ held_at d l.position → n ≡ node_of l.entry
        → record { number = 0; held = x; node = n } ≡ found_in d key m
    somewhere t = found-there key m keys-apart d l looks (not-true _ (sym e ∙ t))

-- ---- the distance of a kept bucket

module _ (s key : Bytes) (bs : IsBytes s) (zero : eqb (key_number s key) 0 ≡ true) where
  slot-distance : 257 - count_of s + slot (env_of reading s) key ≡ log_distance (own_of s) (keccak256 key)
  unfolding key_number bucket_number
  slot-distance =
      let tests = passed (
      (unsound_for reading s key, 1)
      ∷ (not (eqb (length key) 64), 5)
      ∷ (is_own (env_of reading s) key, 7)
      ∷ (not (is_kept (env_of reading s) key), 12)
      ∷ []
      ) refl (eqb-true (key_number s key) 0 zero) in
      let header = header-sound s (header-there s key tests.0) in
      let is = log-distance (own_of s) (keccak256 key) (length_part s 0 32 (omega (arith, header.size))) (keccak256-length key) (bytes_part s 0 32 bs) (keccak256_bytes key) in
      let apart : (log_distance (own_of s) (keccak256 key) ≡ 0) → ⊥ =
      λ z. let own : same_bytes (keccak256 key) (own_of s) ≡ true = ap (same_bytes (keccak256 key)) (is.equal.0 z) ∙ same_refl (keccak256 key) in
      never (sym own ∙ tests.1.1.0) in
      let kept = leb-true (256 - count_of s) (number_of_distance (distance (own_of s) (keccak256 key))) (not-false _ tests.1.1.1.0) in
      omega (arith, apart, header.one, header.most, kept)

  pub found-place : {r : Found} {i : ℕ} → i ≡ slot (env_of reading s) key → r ≡ found_in (257 - count_of s + i) key (bucket_at s i) → r ≡ found_on s key
  unfolding found_on
  found-place e er =
      er ∙ ap (λ (j : ℕ). found_in (257 - count_of s + j) key (bucket_at s j)) e
      ∙ ap (λ (d : ℕ). found_in d key (bucket_for reading s key)) slot-distance
      ∙ sym (rw zero refl)

-- ---- by the number

module _ (s key : Bytes) where
  pub refused-find : {r : Found} {n : ℕ} → (eqb (key_number s key) 0 ≡ false) × (n ≡ key_number s key) → r ≡ not_found n → r ≡ found_on s key
  unfolding found_on
  refused-find (g, e) er = er ∙ ap not_found e ∙ sym (rw g refl)
