-- Laws of `init`: its answers, the bytes that it writes, and that they are sound. Assumes nothing.
use mathlib.Core.Path.{◌≡◌, refl, sym, ap, ◌∙◌}
use mathlib.Core.Bool.{true, false, not, ◌&&◌}
use mathlib.Core.List.{[], ◌∷◌, ◌++◌, append_assoc, append-nil, flat_map}
use Prim.Native.Nat.{ℕ, ◌+◌, ◌*◌, ◌≤◌}
use native.Mathlib.Omega.{arith}
use borrow.Author.Tests.{le-leb, leb-true, eq-eqb, ne_eqb, not-false}
use lib.Dec.{eqb, leb}
use lib.ListN.{length, take, drop, replicate, length-append, length-replicate, length-drop, take-append-drop, replicate-append-replicate}
use lib.Seq.{length-take-le}
use Rattle.octets.specs.Octets.{Bytes, store, big_endian}
use Rattle.octets.proofs.Laws.Numbers.{length-big_endian}
use Rattle.lists.proofs.Laws.{by_test, and_left, and_right, passed}
use Rattle.keccak.specs.Sponge.{keccak256}
use Rattle.keccak.proofs.Laws.{keccak256-length}
use Rattle.bucket_model.specs.Contents.{no_contents, encode_bucket}
use Rattle.table_model.specs.Layout.{encode_header, encode_table, offset_of}
use Rattle.table_model.specs.Sound.{table_sound}
use Rattle.table_model.proofs.Records.{store_middle}
use Rattle.table_model.proofs.Sound.{form_is_sound}
use Rattle.table_model.proofs.Fresh.{fresh_zeros, fresh_form}
use Rattle.table.specs.Init.{room_for, init_answer, init_table, fresh_table, InitKept}

-- ---- the answer, and what it leaves

module _ (s key : Bytes) (count : ℕ) where
  pub wrong-room : room_for count s ≡ false → (1 ≡ init_answer s key count) × (s ≡ init_table s key count)
  unfolding init_answer init_table
  wrong-room h = (simp h, simp h)

  pub wrong-key : room_for count s ≡ true → eqb (length key) 64 ≡ false → (5 ≡ init_answer s key count) × (s ≡ init_table s key count)
  unfolding init_answer init_table
  wrong-key h k = (simp (h, k), simp (h, k))

  pub made : room_for count s ≡ true → eqb (length key) 64 ≡ true → (0 ≡ init_answer s key count) × (fresh_table key count ≡ init_table s key count)
  unfolding init_answer init_table
  made h k = (simp (h, k), simp (h, k))

pub room : (count : ℕ) (s : Bytes) → 1 ≤ count → count ≤ 256 → length s ≡ offset_of count → room_for count s ≡ true
room count s a b c = simp (le-leb 1 count a, le-leb count 256 b, eq-eqb (length s) (offset_of count) c)

-- ---- the three stores

-- zeros as the header and the buckets have them
split_zeros : (m : ℕ) → replicate {A = ℕ} (480 + m) 0 ≡ replicate 8 0 ++ replicate 2 0 ++ (replicate 470 0 ++ replicate m 0)
split_zeros m =
    let e : 480 + m ≡ 10 + (470 + m) = omega arith in
    ap (λ (k : ℕ). replicate {A = ℕ} k 0) e
    ∙ sym (replicate-append-replicate 10 (470 + m) 0)
    ∙ ap (λ l. replicate 10 0 ++ l) (sym (replicate-append-replicate 470 m 0))

zero_clock : big_endian 8 0 ≡ replicate 8 0
unfolding big_endian
zero_clock = refl

pub fresh_stores : (s key : Bytes) (count : ℕ) → length s ≡ offset_of count
    → store (store (store s 0 (keccak256 key)) 32 (replicate (480 + count * 2862) 0)) 40 (big_endian 2 count) ≡ fresh_table key count
unfolding encode_table encode_header
fresh_stores s key count n =
    let hash : Bytes = keccak256 key in
    let size : length hash ≡ 32 = keccak256-length key in
    let zeros : Bytes = replicate (480 + count * 2862) 0 in
    let rest : Bytes = replicate 470 0 ++ replicate (count * 2862) 0 in
    let own : store s 0 hash ≡ hash ++ drop 32 s ++ [] =
    ap (λ l. store l 0 hash) (sym (take-append-drop 32 s))
    ∙ store_middle [] (take 32 s) hash (drop 32 s) 0 refl (size ∙ sym (length-take-le 32 s (omega arith)))
    ∙ sym (append-nil (hash ++ drop 32 s)) in
    let same : length zeros ≡ length (drop 32 s) = length-replicate (480 + count * 2862) 0 ∙ omega (arith, length-drop 32 s) in
    let cleared : store (store s 0 hash) 32 zeros ≡ (hash ++ replicate 8 0) ++ replicate 2 0 ++ rest =
    ap (λ l. store l 32 zeros) own
    ∙ store_middle hash (drop 32 s) zeros [] 32 size same
    ∙ append-nil (hash ++ zeros)
    ∙ ap (λ l. hash ++ l) (split_zeros (count * 2862))
    ∙ simp append_assoc in
    let front : length (hash ++ replicate 8 0) ≡ 40 = length-append hash (replicate 8 0) ∙ omega arith in
    let counted : (hash ++ big_endian 8 0) ++ big_endian 2 count ++ rest ≡ encode_header hash 0 count ++ replicate (count * 2862) 0 =
    simp append_assoc in
    ap (λ l. store l 40 (big_endian 2 count)) cleared
    ∙ store_middle (hash ++ replicate 8 0) (replicate 2 0) (big_endian 2 count) rest 40 front (length-big_endian 2 count)
    ∙ ap (λ l. (hash ++ l) ++ big_endian 2 count ++ rest) (sym zero_clock)
    ∙ counted
    ∙ ap (λ l. encode_header hash 0 count ++ l) (sym (fresh_zeros count))
    ∙ ap (λ (m : ℕ). encode_header hash 0 m ++ flat_map encode_bucket (replicate count no_contents)) (sym (length-replicate count no_contents))

-- the calls of `write_fresh`, one after the other
pub stored_fresh : (s key : Bytes) (count : ℕ) → length s ≡ offset_of count
    → {hash l₁ l₂ l₃ : Bytes}
    → hash ≡ keccak256 key
    → l₁ ≡ store s 0 hash
    → l₂ ≡ store l₁ 32 (replicate (480 + count * 2862) 0)
    → l₃ ≡ store l₂ 40 (big_endian 2 count)
    → l₃ ≡ fresh_table key count
stored_fresh s key count n e e₁ e₂ e₃ = cc (fresh_stores s key count n)

-- ---- an accepted `init`

module _ (s key : Bytes) (count : ℕ) (zero : init_answer s key count ≡ 0) where
  has_room : room_for count s ≡ true
  unfolding init_answer
  has_room = not-false (room_for count s) (passed ((not (room_for count s), 1) ∷ (not (eqb (length key) 64), 5) ∷ []) refl zero).0

  pub from-1 : 1 ≤ count
  from-1 = leb-true 1 count (and_left (leb 1 count) (leb count 256 && eqb (length s) (offset_of count)) has_room)

  pub to-256 : count ≤ 256
  to-256 =
      let rest = and_right (leb 1 count) (leb count 256 && eqb (length s) (offset_of count)) has_room in
      leb-true count 256 (and_left (leb count 256) (eqb (length s) (offset_of count)) rest)

  pub is-fresh : init_table s key count ≡ fresh_table key count
  unfolding init_table
  is-fresh = rw zero refl

pub init_kept : InitKept
unfolding init_table
init_kept =
    record {
      number_listed = λ s key count.
          by_test (room_for count s)
          (λ r. by_test (eqb (length key) 64) (λ k. rw (← (made s key count r k).0) refl) (λ k. rw (← (wrong-key s key count r k).0) refl))
          (λ r. rw (← (wrong-room s key count r).0) refl);
      refused_unchanged = λ s key count h. rw (ne_eqb (init_answer s key count) 0 h) refl;
      fresh_sound = λ s key count zero.
          ap table_sound (is-fresh s key count zero)
          ∙ form_is_sound (keccak256 key) 0 (replicate count no_contents)
          (fresh_form (keccak256 key) count (keccak256-length key) (from-1 s key count zero) (to-256 s key count zero));
    }
