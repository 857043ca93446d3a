-- Laws of a bucket's byte form: its sizes, and that what a bucket holds is read back from it. Assumes nothing.
use mathlib.Core.Path.{◌≡◌, refl, sym, ap, ◌∙◌}
use mathlib.Core.Bool.{Bool, true, false, cond}
use mathlib.Core.List.{List, [], ◌∷◌, ◌++◌, append_assoc, append-nil}
use Prim.Native.Nat.{ℕ, zero, suc, ◌+◌, ◌-◌, ◌*◌, ◌^◌, ◌≤◌, ◌<◌}
use native.Mathlib.Nat.{add-zero}
use native.Mathlib.Numerals.{add-one}
use native.Mathlib.Omega.{arith}
use lib.Dec.{eqb}
use lib.ListN.{length, get_or, replicate, length-append, length-replicate}
use Rattle.octets.specs.Octets.{Bytes, IsBytes, part, number}
use Rattle.octets.proofs.Laws.{part_middle, length_part, number_less, get_d_part, part-part}
use Rattle.lists.specs.Lists.{All}
use Rattle.entry.specs.declared.Entry.{Entry}
use Rattle.entry.specs.declared.EndpointProof.TheVariants.{Unproved, At}
use Rattle.entry.specs.declared.PingState.TheVariants.{Quiet, Out}
use Rattle.entry.specs.Layout.{encode_entry, decode_entry, no_entry}
use Rattle.entry.specs.Values.{IsEntry, ProofFits, PingFits}
use Rattle.entry.proofs.Laws.{decode_encode, length-encode_entry, decode-entry, decode-endpoint, decode-stamp}
use Rattle.bucket_model.specs.Contents.{Contents, entries_at, encode_entries, encode_list, encode_bucket, decode_bucket}
pub use Rattle.bucket_model.specs.Facts.{IsContents}
use Rattle.bucket_model.specs.Claims.{EncodeInjective}

-- ---- entries in bytes

pub length-entries_at : (s : Bytes) (at n : ℕ) → length (entries_at s at n) ≡ n
unfolding entries_at
length-entries_at s at zero = refl
length-entries_at s at (suc n) = ap suc (length-entries_at s (at + 143) n)

-- one entry more
pub entries_at_next : (s : Bytes) (at i : ℕ) → entries_at s at (i + 1) ≡ entries_at s at i ++ (decode_entry (part s (at + i * 143) 143) ∷ [])
unfolding entries_at
entries_at_next s at i = rw add-one (go at i)
  where
    go : (at i : ℕ) → entries_at s at (suc i) ≡ entries_at s at i ++ (decode_entry (part s (at + i * 143) 143) ∷ [])
    go at zero = let e : at ≡ at + 0 * 143 = omega arith in ap (λ k. decode_entry (part s k 143) ∷ []) e
    go at (suc i) =
        let e : at + 143 + i * 143 ≡ at + suc i * 143 = omega arith in
        ap (λ l. decode_entry (part s at 143) ∷ l) (rw e at (go (at + 143) i))

-- the entry with an index
pub entry_at : (s : Bytes) (at n i : ℕ) → i < n → get_or (entries_at s at n) i no_entry ≡ decode_entry (part s (at + i * 143) 143)
unfolding entries_at
entry_at s at zero i h = absurd (omega arith)
entry_at s at (suc n) zero h = let z : at ≡ at + 0 * 143 = omega arith in ap (λ (k : ℕ). decode_entry (part s k 143)) z
entry_at s at (suc n) (suc i) h =
    let z : at + 143 + i * 143 ≡ at + suc i * 143 = omega arith in
    entry_at s (at + 143) n i (omega arith) ∙ ap (λ (k : ℕ). decode_entry (part s k 143)) z

-- entries in a part of the bytes
pub entries_at-part : (s : Bytes) (at n i m : ℕ) → i + m * 143 ≤ n → entries_at (part s at n) i m ≡ entries_at s (at + i) m
unfolding entries_at
entries_at-part s at n i zero h = refl
entries_at-part s at n i (suc m) h =
    let first : decode_entry (part (part s at n) i 143) ≡ decode_entry (part s (at + i) 143) = ap decode_entry (part-part s at n i 143 (omega arith)) in
    let e : at + (i + 143) ≡ at + i + 143 = omega arith in
    let rest : entries_at (part s at n) (i + 143) m ≡ entries_at s (at + i + 143) m =
    rw e at (entries_at-part s at n (i + 143) m (omega arith)) in
    cc

pub encode_entries_next : (xs : List Entry) (e : Entry) → encode_entries (xs ++ (e ∷ [])) ≡ encode_entries xs ++ encode_entry e
unfolding encode_entries
encode_entries_next [] e = append-nil (encode_entry e)
encode_entries_next (x ∷ xs) e =
    ap (λ l. encode_entry x ++ l) (encode_entries_next xs e) ∙ sym (append_assoc (encode_entry x) (encode_entries xs) (encode_entry e))

-- ---- a bucket in bytes

pub length-encode_list : (cap : ℕ) (xs : List Entry) → length (encode_entries xs) ≡ length xs * 143 → length xs ≤ cap → length (encode_list cap xs) ≡ cap * 143
unfolding encode_list
length-encode_list cap xs n h = simp (length-append, length-replicate, n) (omega arith)

pub length-encode_bucket : (m : Contents) → length (encode_list 16 m.entries) ≡ 2288 → length (encode_list 4 m.replacements) ≡ 572 → length (encode_bucket m) ≡ 2862
unfolding encode_bucket
length-encode_bucket m n k = simp (length-append, n, k)

-- the bucket in a part of the bytes
pub decode-bucket : (s : Bytes) (at : ℕ) → at + 2862 ≤ length s → get_or s at 0 ≤ 16 → get_or s (at + 1) 0 ≤ 4
    → decode_bucket (part s at 2862) ≡ record { entries = entries_at s (at + 2) (get_or s at 0); replacements = entries_at s (at + 2290) (get_or s (at + 1) 0) }
unfolding decode_bucket
decode-bucket s at h n m =
    cc (
      get_d_part s at 2862 0 (omega arith),
      get_d_part s at 2862 1 (omega arith),
      add-zero at,
      entries_at-part s at 2862 2 (get_or s at 0) (omega arith),
      entries_at-part s at 2862 2290 (get_or s (at + 1) 0) (omega arith),
    )

-- ---- what a bucket holds is read back from its byte form

size : (e : Entry) → IsEntry e → length (encode_entry e) ≡ 143
size e h = length-encode_entry e h.key h.address h.hash

pub length-encode_entries : (xs : List Entry) → All IsEntry xs → length (encode_entries xs) ≡ length xs * 143
unfolding encode_entries
length-encode_entries [] h = refl
length-encode_entries (x ∷ xs) h =
    length-append (encode_entry x) (encode_entries xs) ∙ omega (arith, size x h.0, length-encode_entries xs h.1)

pub length_bucket : (m : Contents) → IsContents m → length (encode_bucket m) ≡ 2862
length_bucket m h =
    length-encode_bucket m
    (length-encode_list 16 m.entries (length-encode_entries m.entries h.entries) h.most)
    (length-encode_list 4 m.replacements (length-encode_entries m.replacements h.replacements) h.most_waiting)

entries_at-encode : (xs : List Entry) → All IsEntry xs → (s pre post : Bytes) (at : ℕ) → s ≡ pre ++ encode_entries xs ++ post → length pre ≡ at
    → entries_at s at (length xs) ≡ xs
unfolding entries_at encode_entries
entries_at-encode [] h s pre post at e n = refl
entries_at-encode (x ∷ xs) h s pre post at e n =
    let e₁ : s ≡ pre ++ encode_entry x ++ (encode_entries xs ++ post) = e ∙ simp append_assoc in
    let e₂ : s ≡ (pre ++ encode_entry x) ++ encode_entries xs ++ post = e ∙ simp append_assoc in
    let first : part s at 143 ≡ encode_entry x = part_middle s pre (encode_entry x) (encode_entries xs ++ post) at 143 e₁ n (size x h.0) in
    let entry : decode_entry (part s at 143) ≡ x = ap decode_entry first ∙ decode_encode x h.0 in
    let k : length (pre ++ encode_entry x) ≡ at + 143 = length-append pre (encode_entry x) ∙ omega (arith, size x h.0) in
    let rest : entries_at s (at + 143) (length xs) ≡ xs = entries_at-encode xs h.1 s (pre ++ encode_entry x) post (at + 143) e₂ k in
    cc

pub decode_encode_bucket : (m : Contents) → IsContents m → decode_bucket (encode_bucket m) ≡ m
unfolding decode_bucket encode_bucket encode_list
decode_encode_bucket m h =
    let s : Bytes = encode_bucket m in
    let counts : Bytes = (length m.entries ∷ []) ++ (length m.replacements ∷ []) in
    let es : Bytes = encode_entries m.entries in
    let rs : Bytes = encode_entries m.replacements in
    let ze : Bytes = replicate ((16 - length m.entries) * 143) 0 in
    let zr : Bytes = replicate ((4 - length m.replacements) * 143) 0 in
    let line : length (es ++ ze) ≡ 16 * 143 = length-encode_list 16 m.entries (length-encode_entries m.entries h.entries) h.most in
    let first : s ≡ counts ++ es ++ (ze ++ (rs ++ zr)) = simp append_assoc in
    let second : s ≡ (counts ++ (es ++ ze)) ++ rs ++ zr = simp append_assoc in
    let k : length (counts ++ (es ++ ze)) ≡ 2290 = length-append counts (es ++ ze) ∙ omega arith in
    let entries : entries_at s 2 (length m.entries) ≡ m.entries =
    entries_at-encode m.entries h.entries s counts (ze ++ (rs ++ zr)) 2 first refl in
    let replacements : entries_at s 2290 (length m.replacements) ≡ m.replacements =
    entries_at-encode m.replacements h.replacements s (counts ++ (es ++ ze)) zr 2290 second k in
    ap (λ xs. record { entries = xs; replacements = entries_at s 2290 (length m.replacements) }) entries
    ∙ ap (λ xs. record { entries = m.entries; replacements = xs }) replacements

pub encode_injective : EncodeInjective
encode_injective m n hm hn e = sym (decode_encode_bucket m hm) ∙ ap decode_bucket e ∙ decode_encode_bucket n hn

-- ---- what bytes hold is what a bucket can hold

proof_fits : (b : Bool) (t : ℕ) → t < 2 ^ 64 → ProofFits (cond b Unproved (At (record { 0 = t })))
proof_fits true t h = tt
proof_fits false t h = h

ping_fits : (b : Bool) (t : ℕ) → t < 2 ^ 64 → PingFits (cond b Quiet (Out (record { 0 = t })))
ping_fits true t h = tt
ping_fits false t h = h

pub decode_is_entry : (s : Bytes) (at : ℕ) → at + 143 ≤ length s → IsBytes s → IsEntry (decode_entry (part s at 143))
decode_is_entry s at h bs =
    rw (decode-entry s at, decode-endpoint s (at + 64), decode-stamp s (at + 93), decode-stamp s (at + 102))
    (record {
      key = length_part s at 64 (omega arith);
      address = length_part s (at + 64 + 1) 16 (omega arith);
      hash = length_part s (at + 111) 32 (omega arith);
      udp = number_less s (at + 64 + 17) 2 (omega arith) bs;
      tcp = number_less s (at + 64 + 19) 2 (omega arith) bs;
      seen = number_less s (at + 85) 8 (omega arith) bs;
      proof = proof_fits (eqb (get_or s (at + 93) 0) 0) _ (number_less s (at + 93 + 1) 8 (omega arith) bs);
      ping = ping_fits (eqb (get_or s (at + 102) 0) 0) _ (number_less s (at + 102 + 1) 8 (omega arith) bs);
    })

pub entries_at_are : (s : Bytes) (at n : ℕ) → at + n * 143 ≤ length s → IsBytes s → All IsEntry (entries_at s at n)
unfolding entries_at
entries_at_are s at zero h bs = tt
entries_at_are s at (suc n) h bs = (decode_is_entry s at (omega arith) bs, entries_at_are s (at + 143) n (omega arith) bs)

pub decode_bucket_is : (s : Bytes) → length s ≡ 2862 → IsBytes s → get_or s 0 0 ≤ 16 → get_or s 1 0 ≤ 4 → IsContents (decode_bucket s)
unfolding decode_bucket
decode_bucket_is s n bs h k =
    record {
      entries = entries_at_are s 2 (get_or s 0 0) (omega arith) bs;
      replacements = entries_at_are s 2290 (get_or s 1 0) (omega arith) bs;
      most = omega (arith, length-entries_at s 2 (get_or s 0 0));
      most_waiting = omega (arith, length-entries_at s 2290 (get_or s 1 0));
    }
