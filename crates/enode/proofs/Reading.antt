-- Laws of reading a line: one step after the other. Assumes nothing.
use Prim.Native.Nat.{ℕ, suc, ◌+◌, ◌-◌, ◌≤◌, ◌<◌}
use mathlib.Core.Path.{◌≡◌, refl, sym, ap, ◌∙◌}
use mathlib.Core.Bool.{Bool, true, false, ◌&&◌}
use mathlib.Core.List.{List, [], ◌∷◌, ◌++◌}
use native.Mathlib.Numerals.{add-one}
use native.Mathlib.Omega.{arith}
use borrow.Author.Tests.{lt-ltb, le-ltb, ltb-true, leb-true, eq-eqb, ne_eqb}
use lib.Dec.{ltb, leb, eqb}
use lib.ListN.{length, get_or, set, take, drop, length-take, length-drop}
use lib.Seq.{drop-cons, take-suc-set}
use Rattle.octets.specs.Octets.{Bytes, part, same_bytes}
use Rattle.octets.proofs.Laws.{same_eq, same_ne, same_refl}
use Rattle.lists.specs.Lists.{all, All}
use Rattle.lists.proofs.Laws.{by_test, never, and_left, All-append}
use Rattle.std.specs.Prelude.{Option, Some, None}
use Rattle.std.specs.List.{list_all}
use Rattle.std.specs.Cmp.Lexicographic.{pointwise}
use Rattle.text.specs.Decimals.{decimal, decimal_of}
use Rattle.text.specs.Marks.{until}
use Rattle.text.proofs.Decimals.{decimal-sound}
use Rattle.text.proofs.Marks.{split_until}
use Rattle.enode.specs.Text.{discport}
use Rattle.enode.specs.Reading.{number, numbered, field_at, max_port, both, differing, udp_from, with_tcp, ports_of, with_ports, octets_from, is_keyed}
use Rattle.enode.specs.declared.Field.{Field}
use Rattle.enode.specs.declared.Ports.{Ports}

-- ---- as std says it

pub all_is : {A : Type 0} (q : A → Bool) (s : List A) → list_all q s ≡ all q s
all_is q [] = refl
all_is q (a ∷ s) = ap (λ (b : Bool). q a && b) (all_is q s)

pub same_is : (s t : Bytes) → pointwise eqb s t ≡ same_bytes s t
unfolding same_bytes
same_is [] [] = refl
same_is [] (b ∷ t) = refl
same_is (a ∷ s) [] = refl
same_is (a ∷ s) (b ∷ t) = ap (λ (r : Bool). eqb a b && r) (same_is s t)

-- a text begins with a word
pub begun_is : (w s : Bytes) → pointwise eqb w s ≡ same_bytes s w
begun_is w s = by_test (pointwise eqb w s) (λ e. e ∙ sym (eq w s e)) (λ e. e ∙ sym (ne w s e))
  where
    eq : (w s : Bytes) → pointwise eqb w s ≡ true → same_bytes s w ≡ true
    eq w s e = rw (same_eq w s (sym (same_is w s) ∙ e)) (same_refl s)

    ne : (w s : Bytes) → pointwise eqb w s ≡ false → same_bytes s w ≡ false
    ne w s e = same_ne s w (λ h. never (sym (rw h (same_refl w)) ∙ sym (same_is w s) ∙ e))

-- ---- a number before a mark

module _ (mark limit : ℕ) (s : Bytes) (at : ℕ) where
  pub field_open : at + length (until mark at s) ≡ length s → field_at mark limit s at ≡ None
  unfolding field_at
  field_open h = rw (le-ltb (at + length (until mark at s)) (length s) (omega arith))

  pub field-by : {d : Option ℕ} → at + length (until mark at s) < length s → decimal_of limit (until mark at s) ≡ d
      → field_at mark limit s at ≡ numbered d (at + length (until mark at s) + 1)
  unfolding field_at
  field-by h e = rw (lt-ltb (at + length (until mark at s)) (length s) h, e)

-- what is known of a number that was read
pub record Fielded (mark limit : ℕ) (s : Bytes) (at n next : ℕ) : Type 0 where
  pub text : drop at s ≡ decimal n ++ mark ∷ drop next s
  pub most : n ≤ limit
  pub within : next ≤ length s

unfit-number : {P : Type 0} {n next : ℕ} → None ≡ number n next → P
unfit-number h = absurd (let z : ◌≡◌ {A = ℕ} 0 1 = cc in omega arith)

number_same : {m n j k : ℕ} → number m j ≡ number n k → (m ≡ n) × (j ≡ k)
number_same {m} {n} {j} {k} h =
    let a : Field = record { value = m; next = j } in
    let b : Field = record { value = n; next = k } in
    let e : a ≡ b = cc in
    (ap (λ (f : Field). f.value) e, ap (λ (f : Field). f.next) e)

numbered-sound : (mark limit : ℕ) (s : Bytes) (at n next : ℕ) (d : Option ℕ) → at + length (until mark at s) < length s → decimal_of limit (until mark at s) ≡ d
    → numbered d (at + length (until mark at s) + 1) ≡ number n next → Fielded mark limit s at n next
numbered-sound mark limit s at n next (Some m) h e r =
    let same : m ≡ n = (number_same r).0 in
    let there : at + length (until mark at s) + 1 ≡ next = (number_same r).1 in
    let sound : (until mark at s ≡ decimal m) × (m ≤ limit) = decimal-sound limit (until mark at s) m e in
    record {
      text =
          split_until mark s at h
          ∙ ap (λ (k : ℕ). until mark at s ++ mark ∷ drop k s) there
          ∙ ap (λ (u : Bytes). u ++ mark ∷ drop next s) (sound.0 ∙ ap decimal same);
      most = omega (arith, sound.1);
      within = omega arith;
    }
numbered-sound mark limit s at n next None h e r = unfit-number r

pub field-sound : (mark limit : ℕ) (s : Bytes) (at n next : ℕ) → field_at mark limit s at ≡ number n next → Fielded mark limit s at n next
unfolding field_at
field-sound mark limit s at n next r =
    by_test (ltb (at + length (until mark at s)) (length s))
    (λ e. numbered-sound mark limit s at n next (decimal_of limit (until mark at s)) (ltb-true _ _ e) refl (rw e at r))
    (λ e. unfit-number (rw e at r))

-- ---- ports

module _ (s : Bytes) (at tcp : ℕ) where
  pub udp-end : at ≡ length s → udp_from s at tcp ≡ both tcp tcp
  unfolding udp_from
  udp-end e = rw (eq-eqb at (length s) e)

  pub udp-off : (at ≡ length s → ⊥) → same_bytes (part s at 10) discport ≡ false → udp_from s at tcp ≡ None
  unfolding udp_from
  udp-off ne t = rw (ne_eqb at (length s) ne, t)

  -- what is left is shorter than `?discport=`
  pub udp-short : (at ≡ length s → ⊥) → length s - at < 10 → udp_from s at tcp ≡ None
  unfolding part
  udp-short ne h = udp-off ne (same_ne (part s at 10) discport (λ e. omega (arith, ap length e, length-take 10 (drop at s), length-drop at s)))

  pub udp-by : {d : Option ℕ} → (at ≡ length s → ⊥) → same_bytes (part s at 10) discport ≡ true → decimal_of max_port (drop (at + 10) s) ≡ d
      → udp_from s at tcp ≡ differing tcp d
  unfolding udp_from
  udp-by ne t e = rw (ne_eqb at (length s) ne, t, e)

pub ports_by : {d : Option ℕ} (s : Bytes) (at : ℕ) → decimal_of max_port (until 0x3f at s) ≡ d
    → ports_of s at ≡ with_tcp d (udp_from s (at + length (until 0x3f at s)))
unfolding ports_of
ports_by s at e = rw e

-- ---- octets

module _ (key : Bytes) where
  -- so far the line was read to index at: these octets are read, and these marks are still to come
  pub record Read (marks₀ : List ℕ) (s : Bytes) (address : Bytes) (marks : List ℕ) (at : ℕ) : Type 0 where
    pub rest : octets_from key [] marks₀ s 137 ≡ octets_from key address marks s at
    pub small : All (λ (b : ℕ). b < 256) address
    pub within : at ≤ length s

  module _ {marks₀ : List ℕ} {s : Bytes} {address : Bytes} {at : ℕ} where
    pub octet-on : {mark : ℕ} {marks : List ℕ} {n next : ℕ} → Read marks₀ s address (mark ∷ marks) at → field_at mark 255 s at ≡ number n next
        → Read marks₀ s (address ++ (n ∷ [])) marks next
    unfolding octets_from
    octet-on {mark} {marks} {n} {next} r e =
        let f : Fielded mark 255 s at n next = field-sound mark 255 s at n next e in
        record {
          rest = r.rest ∙ rw e;
          small = All-append (λ (b : ℕ). b < 256) address (n ∷ []) r.small (omega (arith, f.most), tt);
          within = f.within;
        }

    pub octet-off : {mark : ℕ} {marks : List ℕ} → Read marks₀ s address (mark ∷ marks) at → field_at mark 255 s at ≡ None → octets_from key [] marks₀ s 137 ≡ None
    unfolding octets_from
    octet-off r e = r.rest ∙ rw e

    pub then-ports : {p : Option Ports} → Read marks₀ s address [] at → ports_of s at ≡ p → octets_from key [] marks₀ s 137 ≡ with_ports key address p
    unfolding octets_from
    then-ports r e = r.rest ∙ rw e

  -- the same where the octets so far stand at the front of a longer string
  module _ {marks₀ : List ℕ} (marks : List ℕ) {s : Bytes} (address : Bytes) {i at : ℕ} (h : i < length marks) (r : Read marks₀ s (take i address) (drop i marks) at) where
    next-mark : Read marks₀ s (take i address) (get_or marks i 0 ∷ drop (suc i) marks) at
    next-mark = rw (drop-cons marks i 0 h) at r

    pub at-octet-on : {f : Field} → i < length address → field_at (get_or marks i 0) 255 s at ≡ Some f → Read marks₀ s (take (i + 1) (set address i f.value)) (drop (i + 1) marks) f.next
    at-octet-on {f} k e = rw (add-one i, take-suc-set address i f.value k) (octet-on next-mark e)

    pub at-octet-off : field_at (get_or marks i 0) 255 s at ≡ None → octets_from key [] marks₀ s 137 ≡ None
    at-octet-off e = octet-off next-mark e

-- ---- a line

pub keyed_long : (l : Bytes) → is_keyed l ≡ true → 137 ≤ length l
keyed_long l t = leb-true 137 (length l) (and_left (leb 137 (length l)) _ t)
