-- What is read was written: a header that is read stands before that item's encoding. Assumes nothing.
use Prim.Native.Nat.{ℕ, suc, ◌+◌, ◌-◌, ◌≤◌, ◌<◌}
use Rattle.std.specs.Prelude.{Option, Some, None}
use mathlib.Core.Path.{◌≡◌, refl, sym, ap, subst, ◌∙◌}
use mathlib.Core.Logic.{◌≢◌}
use mathlib.Core.Bool.{Bool, true, false}
use mathlib.Core.List.{[], ◌∷◌, ◌++◌, append_assoc}
use native.Mathlib.Nat.{add-zero}
use native.Mathlib.Omega.{arith}
use borrow.Author.Tests.{ltb-true, ltb-false}
use lib.Dec.{ltb}
use lib.ListN.{length, get_or, take, drop, take-append-drop}
use lib.Seq.{length-take-le, drop-drop, get_or-take}
use Rattle.octets.specs.Octets.{Bytes, IsBytes, Slice, part, number}
use Rattle.octets.proofs.Laws.{bytes_take, length_part, get_d_part}
use Rattle.rlp.specs.Numbers.{uint_bytes}
use Rattle.rlp.specs.Encoding.{header, encode, item_of}
use Rattle.rlp.specs.Reading.{item, within, long, sized, strict, head}
use Rattle.rlp.specs.declared.Item.{Item}
use Rattle.rlp.specs.Claims.{ReadIsEncoding}
use Rattle.rlp.proofs.Cases.{by_leb, by_ltb, by_eqb}
use Rattle.rlp.proofs.Numbers.{number-uint}
use Rattle.rlp.proofs.Writing.{header_short, header-long, plain_not}
use Rattle.rlp.proofs.Encoding.Reads.{head-low, head-middle, head-high}

-- the payload behind its header of the kind of base, and what follows, are s; a payload of one byte has a header of one
abbrev Frame : ℕ → Bool → Bytes → Option Item → Type 0
Frame base l₀ s (Some i) =
    ((header base i.size ++ part s i.skip i.size) ++ drop (i.skip + i.size) s ≡ s) × (i.size ≡ 1 → i.skip ≡ 1) × (i.skip + i.size ≤ length s) × (i.list ≡ l₀)
Frame base l₀ s None = Unit {0}

-- a header's bytes are those of the number that they spell
spelt : (k : ℕ) (t : Bytes) → IsBytes t → 0 < k → k ≤ length t → get_or t 0 0 ≢ 0 → uint_bytes (number (take k t)) ≡ take k t
spelt k t bs p h z = number-uint (take k t) (bytes_take k t bs) (λ _. let e = get_or-take k t 0 0 p in omega arith)

module _ (base b : ℕ) (t : Bytes) (l : Bool) (bs : IsBytes t) where
  frame-short : (tag : ℕ) → tag < 56 → b ≡ base + tag → Frame base l (b ∷ t) (within (b ∷ t) l 1 tag)
  unfolding part
  frame-short tag h e =
      by_leb (Frame base l (b ∷ t)) tag (suc (length t) - 1)
      (λ f.
      let k : 1 + tag ≡ suc tag = omega arith in
      (rw (header_short base tag h, k, ← e) (ap (λ (x : Bytes). b ∷ x) (take-append-drop tag t)), (λ _. refl), omega arith, refl))
      (λ _. tt)

  frame-long : (k : ℕ) → 0 < k → b ≡ base + 55 + k → Frame base l (b ∷ t) (long (b ∷ t) l k)
  unfolding long part
  frame-long k p e =
      let u : Bytes = take k t in
      let n : ℕ = number u in
      by_leb (Frame base l (b ∷ t)) k (suc (length t) - 1)
      (λ f. by_eqb (Frame base l (b ∷ t)) (get_or t 0 0) 0 (λ _. tt)
      (λ z. by_ltb (Frame base l (b ∷ t)) n 56 (λ _. tt)
      (λ g. by_leb (Frame base l (b ∷ t)) n (suc (length t) - (1 + k))
      (λ w.
      let d : uint_bytes n ≡ u = spelt k t bs p (omega arith) z in
      let lu : length u ≡ k = length-take-le k t (omega arith) in
      let hd : header base n ≡ b ∷ u = header-long base n g ∙ ap (λ (x : Bytes). (base + 55 + length x) ∷ x) d ∙ ap (λ (x : ℕ). (base + 55 + x) ∷ u) lu ∙ ap (λ (x : ℕ). x ∷ u) (sym e) in
      let k₁ : 1 + k ≡ suc k = omega arith in
      let k₂ : 1 + k + n ≡ suc (k + n) = omega arith in (
        rw (hd, k₂, k₁, ← (drop-drop n k t)) (ap (λ (x : Bytes). b ∷ x) (append_assoc u _ _ ∙ ap (λ (x : Bytes). u ++ x) (take-append-drop n (drop k t)) ∙ take-append-drop k t)),
        (λ (o : n ≡ 1). absurd (omega arith)),
        omega arith,
        refl,
      ))
      (λ _. tt))))
      (λ _. tt)

  frame-sized : base ≤ b → Frame base l (b ∷ t) (sized (b ∷ t) l (b - base))
  unfolding sized
  frame-sized h =
      by_ltb (Frame base l (b ∷ t)) (b - base) 56
      (λ e. frame-short (b - base) e (omega arith))
      (λ e. frame-long (b - base - 55) (omega arith) (omega arith))

-- the item that is read, encoded, and what follows it, are s
abbrev Sound : Bytes → Option Item → Type 0
Sound s (Some i) = encode (item_of i.list (part s i.skip i.size)) ++ drop (i.skip + i.size) s ≡ s
Sound s None = Unit {0}

sound_list : (s : Bytes) (h : Option Item) → Frame 0xc0 true s h → Sound s h
unfolding encode
sound_list s (Some i) f = rw (f.3, length_part s i.skip i.size f.2) f.0
sound_list s None f = tt

sound_string : (s : Bytes) (h : Option Item) → Frame 0x80 false s h → Sound s (strict s h)
unfolding encode strict
sound_string s (Some i) f =
    by_eqb (Sound s) i.size 1
    (λ e. by_ltb (Sound s) (get_or s 1 0) 0x80 (λ _. tt) (λ g. done (λ _. subst (λ (x : ℕ). 0x80 ≤ x) (sym (at_one e)) g)))
    (λ e. done (λ o. absurd (e (sym len ∙ o))))
  where
    len : length (part s i.skip i.size) ≡ i.size
    len = length_part s i.skip i.size f.2

    at_one : i.size ≡ 1 → get_or (part s i.skip i.size) 0 0 ≡ get_or s 1 0
    at_one e = get_d_part s i.skip i.size 0 (omega arith) ∙ ap (λ (k : ℕ). get_or s k 0) (add-zero i.skip ∙ f.1 e)

    done : (length (part s i.skip i.size) ≡ 1 → 0x80 ≤ get_or (part s i.skip i.size) 0 0) → Sound s (Some i)
    done h = rw (f.3, plain_not (part s i.skip i.size) h, len) f.0
sound_string s None f = tt

pub head_none : head [] ≡ None
unfolding head
head_none = refl

head-sound : (s : Bytes) → IsBytes s → Sound s (head s)
unfolding encode part
head-sound [] bs = subst (Sound []) (sym head_none) tt
head-sound (b ∷ t) bs = go (ltb b 0x80) refl (ltb b 0xc0) refl
  where
    tail : IsBytes t
    tail i = bs (suc i)

    go : (x : Bool) → ltb b 0x80 ≡ x → (y : Bool) → ltb b 0xc0 ≡ y → Sound (b ∷ t) (head (b ∷ t))
    go true e y f = subst (Sound (b ∷ t)) (sym (head-low b t (ltb-true b 0x80 e))) (rw e)
    go false e true f =
        subst (Sound (b ∷ t)) (sym (head-middle b t (ltb-false b 0x80 e) (ltb-true b 0xc0 f)))
        (sound_string (b ∷ t) (sized (b ∷ t) false (b - 0x80)) (frame-sized 0x80 b t false tail (ltb-false b 0x80 e)))
    go false e false f =
        subst (Sound (b ∷ t)) (sym (head-high b t (ltb-false b 0xc0 f)))
        (sound_list (b ∷ t) (sized (b ∷ t) true (b - 0xc0)) (frame-sized 0xc0 b t true tail (ltb-false b 0xc0 f)))

pub read_is_encoding : ReadIsEncoding
read_is_encoding s l skip size sl e = subst (Sound s) e (head-sound s sl.bytes)

pub read_sound : (s : Bytes) {l : Bool} {skip size : ℕ} → Slice s → head s ≡ item l skip size → encode (item_of l (part s skip size)) ++ drop (skip + size) s ≡ s
read_sound s sl e = read_is_encoding s _ _ _ sl e
