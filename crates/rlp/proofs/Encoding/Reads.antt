-- What is written reads back: the encoding of an item, whatever follows it, reads as that item. Assumes nothing.
use Prim.Native.Nat.{ℕ, suc, ◌+◌, ◌-◌, ◌^◌, ◌≤◌, ◌<◌}
use Rattle.std.specs.Prelude.{Option}
use mathlib.Core.Path.{◌≡◌, refl, sym, ap, subst, ◌∙◌}
use mathlib.Core.Logic.{◌≢◌}
use mathlib.Core.Bool.{Bool, true, false, cond, false≢true}
use mathlib.Core.List.{[], ◌∷◌, ◌++◌, append_assoc}
use native.Mathlib.Nat.{add-sub_cancel_left}
use native.Mathlib.Omega.{arith}
use borrow.Author.Tests.{ne_eqb, lt-ltb, le-ltb, le-leb, ltb-true, ltb-false}
use lib.Dec.{ltb, eqb}
use lib.ListN.{length, get_or, take, drop, length-append, get_or-append}
use lib.Seq.{drop_at, take-append_seam}
use Rattle.octets.specs.Octets.{Bytes, part, number}
use Rattle.rlp.specs.Numbers.{uint_bytes}
use Rattle.rlp.specs.Encoding.{header, is_plain, encode, string, list, payload_of, prefix}
use Rattle.rlp.specs.Encoding as rlp
use Rattle.rlp.specs.Reading.{item, long, sized, strict, head}
use Rattle.rlp.specs.declared.Item.{Item}
use Rattle.rlp.specs.Claims.{ReadItem}
use Rattle.rlp.proofs.Cases.{by_cases, by_eqb}
use Rattle.rlp.proofs.Numbers.{uint_bound, uint-number, uint_lead}
use Rattle.rlp.proofs.Writing.{header_short, header-long, encode-plain}

-- ---- an encoding, by its bytes before the payload

pub encode_is : (i : rlp.Item) → encode i ≡ prefix i ++ payload_of i
unfolding encode prefix
encode_is (string s) = by_cases (λ (x : Bytes). x ≡ cond (is_plain s) [] (header 0x80 (length s)) ++ s) (is_plain s) (λ e. rw e) (λ e. rw e)
encode_is (list p) = refl

pub encode-length : (i : rlp.Item) → length (encode i) ≡ length (prefix i) + length (payload_of i)
encode-length i = ap length (encode_is i) ∙ length-append (prefix i) (payload_of i)

-- ---- the first byte says which case holds

module _ (b : ℕ) (t : Bytes) where
  not_empty : eqb (length (b ∷ t)) 0 ≡ false
  not_empty = ne_eqb _ 0 (λ (z : suc (length t) ≡ 0). omega arith)

  pub head-low : b < 0x80 → head (b ∷ t) ≡ item false 0 1
  unfolding head
  head-low h = simp (not_empty, lt-ltb b 0x80 h)

  pub head-middle : 0x80 ≤ b → b < 0xc0 → head (b ∷ t) ≡ strict (b ∷ t) (sized (b ∷ t) false (b - 0x80))
  unfolding head
  head-middle h l = simp (not_empty, le-ltb b 0x80 h, lt-ltb b 0xc0 l)

  pub head-high : 0xc0 ≤ b → head (b ∷ t) ≡ sized (b ∷ t) true (b - 0xc0)
  unfolding head
  head-high h =
      let l : 0x80 ≤ b = omega arith in
      simp (not_empty, le-ltb b 0x80 l, le-ltb b 0xc0 h)

-- ---- a header of each length is read, whatever the kind

sized_short : (x tag : ℕ) (t : Bytes) (l : Bool) → tag < 56 → tag ≤ length t → sized (x ∷ t) l tag ≡ item l 1 tag
unfolding sized
sized_short x tag t l h f =
    let g : tag ≤ suc (length t) - 1 = omega arith in
    simp (lt-ltb tag 56 h, le-leb tag (suc (length t) - 1) g)

module _ (x n : ℕ) (t : Bytes) (l : Bool) (big : 56 ≤ n) (fits : n ≤ length t) where
  abbrev u : Bytes
  u = uint_bytes n

  lead : (0 < length u) × (0 < get_or u 0 0)
  lead = uint_lead n (omega arith)

  spelt : number (part (x ∷ (u ++ t)) 1 (length u)) ≡ n
  unfolding part
  spelt = ap number (take-append_seam u t) ∙ uint-number n

  first : get_or (u ++ t) 0 0 ≢ 0
  first z = let e = get_or-append u t 0 0 lead.0 in omega (arith, lead.1)

  long-read : long (x ∷ (u ++ t)) l (length u) ≡ item l (1 + length u) n
  unfolding long
  long-read =
      let a : length u ≤ suc (length (u ++ t)) - 1 = omega (arith, length-append u t) in
      let b : n ≤ suc (length (u ++ t)) - (1 + length u) = omega (arith, length-append u t) in
      simp (le-leb (length u) (suc (length (u ++ t)) - 1) a, ne_eqb (get_or (u ++ t) 0 0) 0 first, spelt, le-ltb n 56 big, le-leb n (suc (length (u ++ t)) - (1 + length u)) b)

  sized-long : sized (x ∷ (u ++ t)) l (55 + length u) ≡ item l (1 + length u) n
  unfolding sized
  sized-long =
      let a : 56 ≤ 55 + length u = omega (arith, lead.0) in
      rw (le-ltb (55 + length u) 56 a, add-sub_cancel_left 55 (length u)) long-read

-- a payload p behind its header, and anything after it: the first byte is one of the kind's, its header is read, and a payload of
-- one byte is the second
pub record Framed (base : ℕ) (l : Bool) (p rest : Bytes) : Type 0 where
  pub first : ℕ
  pub after : Bytes
  pub splits : (header base (length p) ++ p) ++ rest ≡ first ∷ after
  pub low : base ≤ first
  pub high : first < base + 64
  pub reads : sized (first ∷ after) l (first - base) ≡ item l (length (header base (length p))) (length p)
  pub one : length p ≡ 1 → get_or (first ∷ after) 1 0 ≡ get_or p 0 0

module _ (base : ℕ) (l : Bool) (p rest : Bytes) where
  abbrev n : ℕ
  n = length p

  fits : n ≤ length (p ++ rest)
  fits = omega (arith, length-append p rest)

  framed-short : n < 56 → Framed base l p rest
  framed-short h =
      let q = header_short base n h in
      record {
        first = base + n;
        after = p ++ rest;
        splits = ap (λ (x : Bytes). (x ++ p) ++ rest) q;
        low = omega arith;
        high = omega arith;
        reads = rw (q, add-sub_cancel_left base n) (sized_short (base + n) n (p ++ rest) l h fits);
        one = λ (e : n ≡ 1). get_or-append p rest 0 0 (omega arith);
      }

  framed-long : 56 ≤ n → n < 2 ^ 64 → Framed base l p rest
  framed-long h small =
      let u : Bytes = uint_bytes n in
      let q = header-long base n h in
      let x : ℕ = base + 55 + length u in
      let d : x - base ≡ 55 + length u = omega arith in
      let k : suc (length u) ≡ 1 + length u = omega arith in
      record {
        first = x;
        after = u ++ (p ++ rest);
        splits = ap (λ (y : Bytes). (y ++ p) ++ rest) q ∙ ap (λ (y : Bytes). x ∷ y) (append_assoc u p rest);
        low = omega arith;
        high = omega (arith, uint_bound n small);
        reads = rw (q, d, k) (sized-long x n (p ++ rest) l h fits);
        one = λ (e : n ≡ 1). absurd (omega arith);
      }

  framed : n < 2 ^ 64 → Framed base l p rest
  framed small = go (ltb n 56) refl
    where
      go : (b : Bool) → ltb n 56 ≡ b → Framed base l p rest
      go true e = framed-short (ltb-true n 56 e)
      go false e = framed-long (ltb-false n 56 e) small

-- ---- strings and lists

strict_item : (s : Bytes) (l : Bool) (skip size : ℕ) → (size ≡ 1 → 0x80 ≤ get_or s 1 0) → strict s (item l skip size) ≡ item l skip size
unfolding strict
strict_item s l skip size h =
    by_eqb (λ (x : Option Item). x ≡ item l skip size) size 1 (λ e. rw (le-ltb (get_or s 1 0) 0x80 (h e))) (λ _. refl)

read_list : (p rest : Bytes) → length p < 2 ^ 64 → head (encode (list p) ++ rest) ≡ item true (length (header 0xc0 (length p))) (length p)
unfolding encode
read_list p rest small =
    let f = framed 0xc0 true p rest small in
    ap head f.splits ∙ head-high f.first f.after f.low ∙ f.reads

read_plain : (b : ℕ) (rest : Bytes) → b < 0x80 → head (encode (string (b ∷ [])) ++ rest) ≡ item false 0 1
read_plain b rest h = rw (encode-plain b h) (head-low b rest h)

not_plain : (s : Bytes) → is_plain s ≡ false → length s ≡ 1 → 0x80 ≤ get_or s 0 0
not_plain [] e h = absurd (omega arith)
not_plain (b ∷ []) e h = ltb-false b 0x80 e
not_plain (b ∷ (a ∷ s)) e h = absurd (omega arith)

plain_one : (s : Bytes) → is_plain s ≡ true → (b : ℕ) × (s ≡ b ∷ []) × (b < 0x80)
plain_one [] e = absurd (false≢true e)
plain_one (b ∷ []) e = (b, refl, ltb-true b 0x80 e)
plain_one (b ∷ (a ∷ s)) e = absurd (false≢true e)

read_string : (s rest : Bytes) → length s < 2 ^ 64 → is_plain s ≡ false → head (encode (string s) ++ rest) ≡ item false (length (header 0x80 (length s))) (length s)
unfolding encode
read_string s rest small e =
    let f = framed 0x80 false s rest small in
    let g : length s ≡ 1 → 0x80 ≤ get_or (f.first ∷ f.after) 1 0 = λ o. subst (λ (x : ℕ). 0x80 ≤ x) (sym (f.one o)) (not_plain s e o) in
    rw e (ap head f.splits ∙ head-middle f.first f.after f.low f.high ∙ ap (strict (f.first ∷ f.after)) f.reads ∙ strict_item (f.first ∷ f.after) false _ (length s) g)

pub read_item : ReadItem
unfolding prefix
read_item (list p) rest small = read_list p rest small
read_item (string s) rest small = go (is_plain s) refl
  where
    go : (x : Bool) → is_plain s ≡ x → head (encode (string s) ++ rest) ≡ item false (length (cond (is_plain s) [] (header 0x80 (length s)))) (length s)
    go true e =
        let o = plain_one s e in
        rw e (ap (λ (x : Bytes). head (encode (string x) ++ rest)) o.1 ∙ read_plain o.0 rest o.2 ∙ ap (λ (x : Bytes). item false 0 (length x)) (sym o.1))
    go false e = rw e (read_string s rest small e)

-- its payload, and what follows it
pub read_payload : (i : rlp.Item) (rest : Bytes) → part (encode i ++ rest) (length (prefix i)) (length (payload_of i)) ≡ payload_of i
unfolding part
read_payload i rest =
    ap (λ (x : Bytes). part (x ++ rest) (length (prefix i)) (length (payload_of i))) (encode_is i)
    ∙ ap (λ (x : Bytes). part x (length (prefix i)) (length (payload_of i))) (append_assoc (prefix i) (payload_of i) rest)
    ∙ ap (take (length (payload_of i))) (drop_at (prefix i) (payload_of i ++ rest) (length (prefix i)) refl)
    ∙ take-append_seam (payload_of i) rest

pub read_rest : (i : rlp.Item) (rest : Bytes) → drop (length (prefix i) + length (payload_of i)) (encode i ++ rest) ≡ rest
read_rest i rest = drop_at (encode i) rest (length (prefix i) + length (payload_of i)) (encode-length i)
