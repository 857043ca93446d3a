-- The byte form of what bytes hold, record by record. Assumes nothing.
use mathlib.Core.Path.{◌≡◌, refl, sym, ap, ◌∙◌}
use mathlib.Core.Bool.{Bool, true, cond, ◌&&◌}
use mathlib.Core.List.{List, [], ◌∷◌, ◌++◌}
use Prim.Native.Nat.{ℕ, zero, suc, ◌+◌, ◌-◌, ◌*◌, ◌≤◌}
use native.Mathlib.Omega.{arith}
use borrow.Author.Tests.{eqb-true, eq-eqb}
use lib.Dec.{eqb}
use lib.ListN.{length, get_or, take, replicate, length-append}
use lib.Seq.{drop-cons, take_all}
use Rattle.octets.specs.Octets.{Bytes, IsBytes, part, number, big_endian, same_bytes}
use Rattle.octets.proofs.Laws.{length_part, part_all, bytes_part, big_endian-number, number-big_endian, same_refl, same_eq}
use Rattle.lists.proofs.Laws.{by_test}
use Rattle.entry.specs.declared.Stamp.{Stamp}
use Rattle.entry.specs.declared.Entry.{Entry}
use Rattle.entry.specs.Layout.{encode_entry, decode_entry, encode_endpoint, decode_endpoint, encode_stamp, decode_stamp, proof_stamp, proof_of, ping_stamp, ping_of}
use Rattle.entry.proofs.Laws.{length-encode_entry, length-encode_stamp, decode-endpoint, decode-entry}
use Rattle.bucket_model.specs.Contents.{entries_at, encode_entries, encode_list, encode_bucket, decode_bucket}
use Rattle.bucket_model.proofs.ByteForm.{length-entries_at, decode_is_entry, entries_at_are, length-encode_entries, length-encode_list}
use Rattle.bucket_sound.specs.Steps.{stamp_form, all_records}
use Rattle.bucket_sound.proofs.Tests.{both_ways, and_true, or_false, same_append, part-row}

part_one : (s : Bytes) (at : ℕ) → at + 1 ≤ length s → part s at 1 ≡ get_or s at 0 ∷ []
unfolding part
part_one s at h = ap (λ l. take 1 l) (drop-cons s at 0 (omega arith))

number-part : (s : Bytes) (at n : ℕ) → at + n ≤ length s → IsBytes s → big_endian n (number (part s at n)) ≡ part s at n
number-part s at n h b = rw (length_part s at n h) at (big_endian-number (part s at n) (bytes_part s at n b))

-- ---- a stamp

-- what a stamp is written as
abbrev tidy : Stamp → Stamp
tidy s = cond (eqb s.flag 0) (record { flag = 0; time = 0 }) (record { flag = 1; time = s.time })

tidy_proof : (s : Stamp) → proof_stamp (proof_of s) ≡ tidy s
tidy_proof s = by_test (eqb s.flag 0) (λ t. rw t refl) (λ t. rw t refl)

tidy_ping : (s : Stamp) → ping_stamp (ping_of s) ≡ tidy s
tidy_ping s = by_test (eqb s.flag 0) (λ t. rw t refl) (λ t. rw t refl)

zero_bytes : (t : Bytes) → length t ≡ 8 → IsBytes t → same_bytes (big_endian 8 0) t ≡ eqb (number t) 0
zero_bytes t h b =
    let back : big_endian 8 (number t) ≡ t = rw h at (big_endian-number t b) in
    both_ways (same_bytes (big_endian 8 0) t) (eqb (number t) 0)
    (λ e. eq-eqb (number t) 0 (ap number (sym (same_eq (big_endian 8 0) t e)) ∙ number-big_endian 8 0 (omega arith)))
    (λ e. let z : number t ≡ 0 = eqb-true _ _ e in
    let is : big_endian 8 0 ≡ t = rw z at back in
    ap (λ l. same_bytes l t) is ∙ same_refl t)

eqb_swap : (x y : ℕ) → eqb x y ≡ eqb y x
eqb_swap x y = both_ways (eqb x y) (eqb y x) (λ e. eq-eqb y x (sym (eqb-true x y e))) (λ e. eq-eqb x y (sym (eqb-true y x e)))

stamp_at : (x : ℕ) (t : Bytes) → length t ≡ 8 → IsBytes t
    → same_bytes (encode_stamp (tidy (record { flag = x; time = number t }))) (x ∷ t) ≡ stamp_form (record { flag = x; time = number t })
unfolding encode_stamp same_bytes
stamp_at x t h b =
    by_test (eqb x 0)
    (λ e. let z : x ≡ 0 = eqb-true _ _ e in rw z (zero_bytes t h b))
    (λ e.
    let back : big_endian 8 (number t) ≡ t = rw h at (big_endian-number t b) in
    rw (e, back, same_refl t, and_true, or_false) (eqb_swap 1 x))

stamp-form : (s : Bytes) → length s ≡ 9 → IsBytes s → same_bytes (encode_stamp (tidy (decode_stamp s))) s ≡ stamp_form (decode_stamp s)
unfolding decode_stamp part
stamp-form [] h b = absurd (omega arith)
stamp-form (x ∷ t) h b =
    let n : length t ≡ 8 = omega arith in
    rw (take_all 8 t (omega arith)) (stamp_at x t n (λ k. b (suc k)))

-- ---- an endpoint and an entry

endpoint_form : (s : Bytes) (at : ℕ) → at + 21 ≤ length s → IsBytes s → encode_endpoint (decode_endpoint (part s at 21)) ≡ part s at 21
unfolding encode_endpoint
endpoint_form s at h b =
    rw (decode-endpoint s at, number-part s (at + 17) 2 (omega arith) b, number-part s (at + 19) 2 (omega arith) b)
    (ap (λ l. l ++ part s (at + 1) 16 ++ part s (at + 17) 2 ++ part s (at + 19) 2) (sym (part_one s at (omega arith)))
    ∙ rw (part-row s at 1 16, part-row s at 17 2, part-row s at 19 2) refl)

-- the byte form of the entry in a record is the record where its two stamps are in form
pub entry_form : (s : Bytes) (at : ℕ) → at + 143 ≤ length s → IsBytes s
    → same_bytes (encode_entry (decode_entry (part s at 143))) (part s at 143)
    ≡ (stamp_form (decode_stamp (part s (at + 93) 9)) && stamp_form (decode_stamp (part s (at + 102) 9)))
unfolding encode_entry
entry_form s at h b =
    let k : Bytes = part s at 64 in
    let e : Bytes = part s (at + 64) 21 in
    let t : Bytes = part s (at + 85) 8 in
    let p : Bytes = part s (at + 93) 9 in
    let q : Bytes = part s (at + 102) 9 in
    let r : Bytes = part s (at + 111) 32 in
    let whole : k ++ e ++ t ++ p ++ q ++ r ≡ part s at 143 =
    rw (part-row s at 64 21, part-row s at 85 8, part-row s at 93 9, part-row s at 102 9, part-row s at 111 32) refl in
    let front : Bytes = k ++ e ++ t in
    let pt : Bytes = encode_stamp (tidy (decode_stamp p)) in
    let qt : Bytes = encode_stamp (tidy (decode_stamp q)) in
    let written : encode_entry (decode_entry (part s at 143)) ≡ front ++ pt ++ qt ++ r =
    rw (decode-entry s at) (rw (endpoint_form s (at + 64) (omega arith) b, number-part s (at + 85) 8 (omega arith) b, tidy_proof (decode_stamp p), tidy_ping (decode_stamp q)) refl) in
    let np : length pt ≡ length p = length-encode_stamp (tidy (decode_stamp p)) ∙ sym (length_part s (at + 93) 9 (omega arith)) in
    let nq : length qt ≡ length q = length-encode_stamp (tidy (decode_stamp q)) ∙ sym (length_part s (at + 102) 9 (omega arith)) in
    let n₁ : length (front ++ pt) ≡ length (front ++ p) = length-append front pt ∙ ap (λ n. length front + n) np ∙ sym (length-append front p) in
    let n₂ : length (front ++ pt ++ qt) ≡ length (front ++ p ++ q) =
    length-append (front ++ pt) qt ∙ omega (arith, n₁, nq) ∙ sym (length-append (front ++ p) q) in
    ap (λ l. same_bytes l (part s at 143)) written
    ∙ ap (λ l. same_bytes (front ++ pt ++ qt ++ r) l) (sym whole)
    ∙ same_append (front ++ pt ++ qt) r (front ++ p ++ q) r n₂
    ∙ ap (λ b. same_bytes (front ++ pt ++ qt) (front ++ p ++ q) && b) (same_refl r)
    ∙ and_true (same_bytes (front ++ pt ++ qt) (front ++ p ++ q))
    ∙ same_append (front ++ pt) qt (front ++ p) q n₁
    ∙ ap (λ b. b && same_bytes qt q) (same_append front pt front p refl)
    ∙ ap (λ b. (b && same_bytes pt p) && same_bytes qt q) (same_refl front)
    ∙ ap (λ b. b && same_bytes qt q) (stamp-form p (length_part s (at + 93) 9 (omega arith)) (bytes_part s (at + 93) 9 b))
    ∙ ap (λ b. stamp_form (decode_stamp p) && b) (stamp-form q (length_part s (at + 102) 9 (omega arith)) (bytes_part s (at + 102) 9 b))

-- ---- lists and buckets

-- a record is the byte form of its entry
abbrev pub is_form : Bytes → Bool
is_form r = same_bytes (encode_entry (decode_entry r)) r

entry_size : (s : Bytes) (at : ℕ) → at + 143 ≤ length s → IsBytes s → length (encode_entry (decode_entry (part s at 143))) ≡ 143
entry_size s at h b = let is = decode_is_entry s at h b in length-encode_entry (decode_entry (part s at 143)) is.key is.address is.hash

nothing : (s : Bytes) (at : ℕ) → same_bytes [] (part s at 0) ≡ true
unfolding same_bytes part
nothing s at = refl

entries_form : (s : Bytes) (at n : ℕ) → at + n * 143 ≤ length s → IsBytes s
    → same_bytes (encode_entries (entries_at s at n)) (part s at (n * 143)) ≡ all_records is_form s at n
unfolding encode_entries entries_at all_records
entries_form s at zero h b = nothing s at
entries_form s at (suc n) h b =
    let e : 143 + n * 143 ≡ suc n * 143 = omega arith in
    let row : part s at 143 ++ part s (at + 143) (n * 143) ≡ part s at (suc n * 143) = part-row s at 143 (n * 143) ∙ ap (λ k. part s at k) e in
    ap (λ l. same_bytes (encode_entry (decode_entry (part s at 143)) ++ encode_entries (entries_at s (at + 143) n)) l) (sym row)
    ∙ same_append (encode_entry (decode_entry (part s at 143))) (encode_entries (entries_at s (at + 143) n)) (part s at 143) (part s (at + 143) (n * 143))
    (entry_size s at (omega arith) b ∙ sym (length_part s at 143 (omega arith)))
    ∙ ap (λ t. is_form (part s at 143) && t) (entries_form s (at + 143) n (omega arith) b)

-- whether n bytes from index at are zero
abbrev pub unused : Bytes → ℕ → ℕ → Bool
unused s at n = same_bytes (replicate n 0) (part s at n)

pub list_form : (s : Bytes) (at n cap : ℕ) → n ≤ cap → at + cap * 143 ≤ length s → IsBytes s
    → same_bytes (encode_list cap (entries_at s at n)) (part s at (cap * 143)) ≡ (all_records is_form s at n && unused s (at + n * 143) ((cap - n) * 143))
unfolding encode_list
list_form s at n cap le h b =
    let e : n * 143 + (cap - n) * 143 ≡ cap * 143 = omega arith in
    let row : part s at (n * 143) ++ part s (at + n * 143) ((cap - n) * 143) ≡ part s at (cap * 143) =
    part-row s at (n * 143) ((cap - n) * 143) ∙ ap (λ k. part s at k) e in
    let size : length (encode_entries (entries_at s at n)) ≡ length (part s at (n * 143)) =
    length-encode_entries (entries_at s at n) (entries_at_are s at n (omega arith) b) ∙ ap (λ k. k * 143) (length-entries_at s at n) ∙ sym (length_part s at (n * 143) (omega arith)) in
    rw (← row, length-entries_at s at n)
    (same_append (encode_entries (entries_at s at n)) (replicate ((cap - n) * 143) 0) (part s at (n * 143)) (part s (at + n * 143) ((cap - n) * 143)) size
    ∙ ap (λ t. t && unused s (at + n * 143) ((cap - n) * 143)) (entries_form s at n (omega arith) b))

list_size : (s : Bytes) (at n cap : ℕ) → n ≤ cap → at + cap * 143 ≤ length s → IsBytes s → length (encode_list cap (entries_at s at n)) ≡ cap * 143
list_size s at n cap le h b =
    length-encode_list cap (entries_at s at n) (length-encode_entries (entries_at s at n) (entries_at_are s at n (omega arith) b)) (omega (arith, length-entries_at s at n))

pub bucket_form : (s : Bytes) → length s ≡ 2862 → IsBytes s → get_or s 0 0 ≤ 16 → get_or s 1 0 ≤ 4
    → same_bytes (encode_bucket (decode_bucket s)) s
    ≡ ((all_records is_form s 2 (get_or s 0 0) && unused s (2 + get_or s 0 0 * 143) ((16 - get_or s 0 0) * 143))
    && (all_records is_form s 2290 (get_or s 1 0) && unused s (2290 + get_or s 1 0 * 143) ((4 - get_or s 1 0) * 143)))
unfolding encode_bucket decode_bucket
bucket_form s h b n m =
    let es : List Entry = entries_at s 2 (get_or s 0 0) in
    let rs : List Entry = entries_at s 2290 (get_or s 1 0) in
    let counts : Bytes = (length es ∷ []) ++ (length rs ∷ []) in
    let is : counts ≡ part s 0 2 =
    rw (length-entries_at s 2 (get_or s 0 0), length-entries_at s 2290 (get_or s 1 0))
    (ap (λ l. l ++ (get_or s 1 0 ∷ [])) (sym (part_one s 0 (omega arith))) ∙ ap (λ l. part s 0 1 ++ l) (sym (part_one s 1 (omega arith))) ∙ part-row s 0 1 1) in
    let whole : part s 0 2 ++ part s 2 2288 ++ part s 2290 572 ≡ s =
    rw (part-row s 0 2 2288, part-row s 0 2290 572) (part_all s 2862 (omega arith)) in
    let size : length (counts ++ encode_list 16 es) ≡ length (part s 0 2 ++ part s 2 2288) =
    length-append counts (encode_list 16 es)
    ∙ omega (arith, list_size s 2 (get_or s 0 0) 16 n (omega arith) b, length_part s 0 2 (omega arith), length_part s 2 2288 (omega arith))
    ∙ sym (length-append (part s 0 2) (part s 2 2288)) in
    ap (λ l. same_bytes (counts ++ encode_list 16 es ++ encode_list 4 rs) l) (sym whole)
    ∙ same_append (counts ++ encode_list 16 es) (encode_list 4 rs) (part s 0 2 ++ part s 2 2288) (part s 2290 572) size
    ∙ ap (λ l. same_bytes (l ++ encode_list 16 es) (part s 0 2 ++ part s 2 2288) && same_bytes (encode_list 4 rs) (part s 2290 572)) is
    ∙ ap (λ t. t && same_bytes (encode_list 4 rs) (part s 2290 572)) (same_append (part s 0 2) (encode_list 16 es) (part s 0 2) (part s 2 2288) refl)
    ∙ ap (λ t. (t && same_bytes (encode_list 16 es) (part s 2 2288)) && same_bytes (encode_list 4 rs) (part s 2290 572)) (same_refl (part s 0 2))
    ∙ ap (λ t. t && same_bytes (encode_list 4 rs) (part s 2290 572)) (list_form s 2 (get_or s 0 0) 16 n (omega arith) b)
    ∙ ap (λ t. (all_records is_form s 2 (get_or s 0 0) && unused s (2 + get_or s 0 0 * 143) ((16 - get_or s 0 0) * 143)) && t) (list_form s 2290 (get_or s 1 0) 4 m (omega arith) b)
