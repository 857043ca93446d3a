-- Laws of lists of entries by value. Assumes nothing.
use mathlib.Core.Path.{◌≡◌, refl, sym, ap, subst, ◌∙◌}
use mathlib.Core.Bool.{Bool, true, false}
use mathlib.Core.List.{List, [], ◌∷◌, ◌++◌, map}
use Prim.Native.Nat.{ℕ, ◌+◌, ◌-◌, ◌*◌, ◌≤◌, ◌<◌}
use native.Mathlib.Numerals.{add-one}
use native.Mathlib.Omega.{arith}
use lib.Dec.{ltb}
use lib.ListN.{length, take, set, get_or, length-append, length-set, length-map, replicate}
use lib.Seq.{take-suc, take-suc-set, take-set-lt, length-take-le, take-take}
use borrow.Author.Tests.{lt-ltb, le-ltb, ltb-false}
use Rattle.std.specs.List.{position, position_or_len}
use Rattle.std.specs.Option.{unwrap_or}
use Rattle.std.proofs.lemmas.List.Recursion.{is_position_or_len}
use Rattle.octets.specs.Octets.{Bytes, part, store, cut}
use Rattle.octets.proofs.Laws.{cut_last, length_cut, store-append}
use Rattle.lists.proofs.Laws.{by_test}
use Rattle.entry.specs.declared.Entry.{Entry}
use Rattle.entry.specs.Layout.{encode_entry, decode_entry, no_entry}
use Rattle.bucket_model.specs.Contents.{Contents, entries_at, encode_entries, encode_list, encode_bucket}
use Rattle.bucket_model.specs.Rules.{is_of}
use Rattle.bucket_model.proofs.ByteForm.{length-entries_at, entries_at_next, encode_entries_next, length-encode_list}
use Rattle.bucket.specs.declared.EntryList.{EntryList}
use Rattle.bucket.specs.declared.Bucket.{Bucket}
use Rattle.bucket.specs.declared.Position.TheVariants.{Absent, InEntries, InReplacements}
use Rattle.bucket.specs.Steps.{listed, Holds, remove_at, index_of, contents, Shows, InBounds, position_of}

-- the type says how long an array of structs is, of the list of their machine values
pub length_mapped : (X Y : Type 0) (f : X → Y) (l : List X) (n : ℕ) → length (map f l) ≡ n → length l ≡ n
length_mapped X Y f l n e = sym (length-map l f) ∙ e

pub length-listed : (l : EntryList) → length l.items ≡ 16 → l.len ≤ 16 → length (listed l) ≡ l.len
length-listed l e h = length-take-le l.len l.items (omega arith)

-- what a list holds, it holds
pub holds_listed : (l : EntryList) → length l.items ≡ 16 → l.len ≤ 16 → Holds l (listed l)
holds_listed l e h =
    let n : length (listed l) ≡ l.len = length-listed l e h in
    record { count = sym n; fits = omega arith; held = refl }

-- what a bucket shows is its contents
pub shown : (b : Bucket) (m : Contents) → Shows b m → contents b ≡ m
shown b m h =
    ap (λ xs. record { entries = xs; replacements = listed b.replacements }) h.entries.held
    ∙ ap (λ xs. record { entries = m.entries; replacements = xs }) h.replacements.held

-- what holds of a bucket's contents holds of what it shows
pub of_shown : (P : Contents → Type 0) (b : Bucket) (m : Contents) → Shows b m → P (contents b) → P m
of_shown P b m h = subst P (shown b m h)

-- a bucket that shows contents within bounds is within bounds
pub bounded_shown : (b : Bucket) (m : Contents) → Shows b m → length m.entries ≤ 16 → length m.replacements ≤ 4 → InBounds b
bounded_shown b m h n k = record { entries = omega (arith, h.entries.count); replacements = omega (arith, h.replacements.count) }

-- ---- changes

pub push_holds : (l : EntryList) (e : Entry) → length l.items ≡ 16 → l.len < 16
    → Holds (record { len = l.len + 1; items = set l.items l.len e }) (listed l ++ (e ∷ []))
push_holds l e w h =
    let n : length (listed l ++ (e ∷ [])) ≡ l.len + 1 = simp (length-append, length-listed l w (omega arith)) in
    record {
      count = sym n;
      fits = omega arith;
      held = rw add-one (take-suc-set l.items l.len e (omega arith));
    }

pub length-remove_at : (l : EntryList) (i : ℕ) → length l.items ≡ 16 → l.len ≤ 16 → i < l.len → length (remove_at i (listed l)) ≡ l.len - 1
length-remove_at l i e h hi =
    let n : length (listed l) ≡ l.len = length-listed l e h in
    length_cut i 1 (listed l) (omega arith) ∙ ap (λ k. k - 1) n

pub remove_holds : (l : EntryList) (es : List Entry) (i : ℕ) → length l.items ≡ 16 → length es ≡ 16 → l.len ≤ 16 → i < l.len
    → cut (l.len - 1) 1 (take l.len es) ≡ remove_at i (listed l)
    → Holds (record { len = l.len - 1; items = es }) (remove_at i (listed l))
remove_holds l es i e e' h hi shifted =
    let c : length (remove_at i (listed l)) ≡ l.len - 1 = length-remove_at l i e h hi in
    record {
      count = sym c;
      fits = omega arith;
      held = sym (cut_last es l.len (l.len - 1) 1 (omega arith) (omega arith)) ∙ shifted;
    }

pub replace_holds : (l : EntryList) (i : ℕ) (e : Entry) → length l.items ≡ 16 → l.len ≤ 16 → i < l.len
    → Holds (record { len = l.len; items = set l.items i e }) (set (listed l) i e)
replace_holds l i e w h hi =
    let n : length (set (listed l) i e) ≡ l.len = length-set (listed l) i e ∙ length-listed l w h in
    record {
      count = sym n;
      fits = omega arith;
      held = take-set-lt l.len l.items i e hi;
    }

-- ---- finding

module _ {A : Type 0} (q : A → Bool) where
  index_most : (l : List A) → index_of q l ≤ length l
  index_most [] = omega arith
  index_most (a ∷ l) = by_test (q a) (λ t. rw t (omega arith)) (λ t. rw t (omega (arith, index_most l)))

  by_position : (l : List A) → index_of q l ≡ position_or_len q l
  by_position l = is_position_or_len (index_of q) q refl (λ x xs. by_test (q x) (λ t. rw t refl) (λ t. rw t (omega arith))) l

  -- the library's position, and n where there is none
  pub index_found : (l : List A) (n : ℕ) → length l ≡ n → unwrap_or (position q l) n ≡ index_of q l
  index_found l n size =
      let i : ℕ = index_of q l in
      by_test (ltb i (length l))
      (λ t. rw (← by_position l, t) refl)
      (λ t. let most : n ≡ i = omega (arith, ltb-false i (length l) t, index_most l) in rw (← by_position l, t) most)

module _ (b : Bucket) (key : Bytes) (n : length (listed b.entries) ≡ b.entries.len) (k : length (listed b.replacements) ≡ b.replacements.len)
    {i : ℕ} (ei : i ≡ index_of (is_of key) (listed b.entries)) where
  pub in-entries : i < b.entries.len → InEntries i ≡ position_of key (contents b)
  unfolding position_of
  in-entries h =
      let t : ltb (index_of (is_of key) (listed b.entries)) (length (listed b.entries)) ≡ true = rw (← ei, n) (lt-ltb i b.entries.len h) in
      rw t (ap InEntries ei)

  module _ (h : b.entries.len ≤ i) {j : ℕ} (ej : j ≡ index_of (is_of key) (listed b.replacements)) where
    pub in-replacements : j < b.replacements.len → InReplacements j ≡ position_of key (contents b)
    unfolding position_of
    in-replacements g =
        let t : ltb (index_of (is_of key) (listed b.entries)) (length (listed b.entries)) ≡ false = rw (← ei, n) (le-ltb i b.entries.len h) in
        let u : ltb (index_of (is_of key) (listed b.replacements)) (length (listed b.replacements)) ≡ true = rw (← ej, k) (lt-ltb j b.replacements.len g) in
        rw (t, u) (ap InReplacements ej)

    pub in-neither : b.replacements.len ≤ j → Absent ≡ position_of key (contents b)
    unfolding position_of
    in-neither g =
        let t : ltb (index_of (is_of key) (listed b.entries)) (length (listed b.entries)) ≡ false = rw (← ei, n) (le-ltb i b.entries.len h) in
        let u : ltb (index_of (is_of key) (listed b.replacements)) (length (listed b.replacements)) ≡ false = rw (← ej, k) (le-ltb j b.replacements.len g) in
        rw (t, u) refl

-- ---- bytes

-- one entry more is loaded
pub load_turn : (s : Bytes) (at i : ℕ) (l : List Entry) (e : Entry) → i < length l → take i l ≡ entries_at s at i
    → e ≡ decode_entry (part s (at + i * 143) 143) → take (i + 1) (set l i e) ≡ entries_at s at (i + 1)
load_turn s at i l e h held is =
    let t : take (i + 1) (set l i e) ≡ take i l ++ (e ∷ []) = rw add-one (take-suc-set l i e h) in
    cc (entries_at_next s at i)

pub loaded : (s : Bytes) (at n : ℕ) (l : List Entry) → n ≤ 16 → take n l ≡ entries_at s at n
    → Holds (record { len = n; items = l }) (entries_at s at n)
loaded s at n l h held =
    let k : length (entries_at s at n) ≡ n = length-entries_at s at n in
    record { count = sym k; fits = omega arith; held = held }

-- one entry more is stored
pub store_turn : (s t u : Bytes) (at i : ℕ) (es : List Entry) → i < length es
    → length (encode_entries (take i es)) ≡ i * 143
    → t ≡ store s at (encode_entries (take i es))
    → u ≡ store t (at + i * 143) (encode_entry (get_or es i no_entry))
    → length (encode_entry (get_or es i no_entry)) ≡ 143
    → (length (encode_entries (take (i + 1) es)) ≡ (i + 1) * 143) × (u ≡ store s at (encode_entries (take (i + 1) es)))
store_turn s t u at i es h n et eu ne =
    let e = get_or es i no_entry in
    let more : encode_entries (take (i + 1) es) ≡ encode_entries (take i es) ++ encode_entry e =
    rw add-one (ap encode_entries (take-suc es i no_entry h) ∙ encode_entries_next (take i es) e) in
    let size : length (encode_entries (take (i + 1) es)) ≡ (i + 1) * 143 =
    ap length more ∙ length-append (encode_entries (take i es)) (encode_entry e) ∙ omega arith in
    let stored : u ≡ store s at (encode_entries (take (i + 1) es)) =
    cc (more, store-append (encode_entries (take i es)) (encode_entry e) s at) in
    (size, stored)

pub store_list_done : (s t u : Bytes) (at cap len : ℕ) (xs : List Entry) → length xs ≡ len → len ≤ cap
    → t ≡ store s at (encode_entries xs)
    → length (encode_entries xs) ≡ len * 143
    → u ≡ store t (at + len * 143) (replicate ((cap - len) * 143) 0)
    → (u ≡ store s at (encode_list cap xs)) × (length (encode_list cap xs) ≡ cap * 143)
unfolding encode_list
store_list_done s t u at cap len xs e h et n eu =
    let zeros : Bytes = replicate ((cap - length xs) * 143) 0 in
    let done : u ≡ store s at (encode_entries xs ++ zeros) = cc (store-append (encode_entries xs) zeros s at) in
    (done, length-encode_list cap xs (omega arith) (omega arith))

pub store_bucket_done : (s l₁ l₂ l₃ l₄ : Bytes) (at : ℕ) (b : Bucket)
    → length (listed b.entries) ≡ b.entries.len
    → length (listed b.replacements) ≡ b.replacements.len
    → l₁ ≡ store s at (b.entries.len ∷ [])
    → l₂ ≡ store l₁ (at + 1) (b.replacements.len ∷ [])
    → l₃ ≡ store l₂ (at + 2) (encode_list 16 (listed b.entries))
    → length (encode_list 16 (listed b.entries)) ≡ 2288
    → l₄ ≡ store l₃ (at + 2290) (encode_list 4 (listed b.replacements))
    → l₄ ≡ store s at (encode_bucket (contents b))
unfolding encode_bucket
store_bucket_done s l₁ l₂ l₃ l₄ at b n m e₁ e₂ e₃ k e₄ =
    let counts : Bytes = (length (listed b.entries) ∷ []) ++ (length (listed b.replacements) ∷ []) in
    let entries : Bytes = encode_list 16 (listed b.entries) in
    let two : at + length (counts ++ entries) ≡ at + 2290 = simp k in
    cc (
      store-append (length (listed b.entries) ∷ []) (length (listed b.replacements) ∷ []) s at,
      store-append counts entries s at,
      store-append (counts ++ entries) (encode_list 4 (listed b.replacements)) s at,
      two,
    )
