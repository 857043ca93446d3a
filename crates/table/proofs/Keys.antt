-- Which bucket a key touches, by the binary digits of its distance. Assumes nothing.
use mathlib.Core.Path.{◌≡◌, refl, sym, ap, ◌∙◌}
use mathlib.Core.Bool.{Bool, true, false}
use Prim.Native.Nat.{ℕ, ◌+◌, ◌-◌, ◌*◌, ◌^◌, ◌≤◌, ◌<◌}
use native.Mathlib.Omega.{arith}
use borrow.Author.Tests.{le-leb, lt-leb, leb-true, leb-false, eqb-true, eqb-false, eq-eqb, ne_eqb}
use lib.Dec.{leb, eqb}
use lib.ListN.{length}
use Rattle.octets.specs.Octets.{Bytes, IsBytes, same_bytes}
use Rattle.octets.proofs.Laws.{length_part, bytes_part, same_refl}
use Rattle.lists.proofs.Laws.{by_test}
use Rattle.keccak.specs.Sponge.{keccak256}
use Rattle.keccak.proofs.Laws.{keccak256-length, keccak256_bytes}
use Rattle.distance.specs.Distance.{distance, bit_length, keeps_number, slot_of_number}
use Rattle.distance.proofs.Laws.{distance-less, distance-zero, bit_length_positive}
use Rattle.table_model.specs.Layout.{own_of, count_of}
use Rattle.table.specs.declared.Touched.{Touched}
use Rattle.table.specs.declared.Touched.TheVariants.{WrongKey, Own, NotKept, Slot}
use Rattle.table.specs.Steps.{pick, touched_by}

-- ---- only equal hashes have no distance

pub same_hash : (a b : Bytes) → length a ≡ 32 → length b ≡ 32 → IsBytes a → IsBytes b → bit_length (distance a b) ≡ 0 → a ≡ b
same_hash a b la lb ba bb e =
    by_test (eqb (distance a b) 0)
    (λ h. distance-zero a b la lb ba bb (eqb-true (distance a b) 0 h))
    (λ h. let apart = eqb-false (distance a b) 0 h in
    absurd (omega (arith, bit_length_positive (distance a b) (omega arith) (distance-less a b la lb ba bb))))

-- ---- each outcome, by what the calls of `touched_by` give

pub touched_wrong : (s key : Bytes) → (length key ≡ 64 → ⊥) → WrongKey ≡ touched_by s key
unfolding touched_by
touched_wrong s key h = simp (ne_eqb (length key) 64 h)

module _ (s key : Bytes) (n : length key ≡ 64) {hash own : Bytes} (eh : hash ≡ keccak256 key) (eo : own ≡ own_of s)
    {same : Bool} (es : same ≡ same_bytes hash own) where
  is_same : same ≡ same_bytes (keccak256 key) (own_of s)
  is_same = es ∙ ap (λ l. same_bytes l own) eh ∙ ap (λ l. same_bytes (keccak256 key) l) eo

  pub touched-own : same ≡ true → Own ≡ touched_by s key
  unfolding touched_by
  touched-own h = simp (eq-eqb (length key) 64 n, sym is_same ∙ h)

  module _ (bs : IsBytes s) (long : 32 ≤ length s) (h : same ≡ false)
      {bits count : ℕ} (eb : bits ≡ bit_length (distance own hash)) (ec : count ≡ count_of s) (most : count ≤ 256) where
    is-bits : bits ≡ bit_length (distance (own_of s) (keccak256 key))
    is-bits = eb ∙ ap (λ l. bit_length (distance l hash)) eo ∙ ap (λ l. bit_length (distance (own_of s) l)) eh

    size : length own ≡ 32
    size = ap length eo ∙ length_part s 0 32 long

    bytes : IsBytes own
    bytes = rw eo (bytes_part s 0 32 bs)

    some : 1 ≤ bits
    some =
        by_test (leb 1 bits)
        (λ t. leb-true 1 bits t)
        (λ t. let none : bits ≡ 0 = omega (arith, leb-false 1 bits t) in
        let equal : own ≡ keccak256 key =
        same_hash own (keccak256 key) size (keccak256-length key) bytes (keccak256_bytes key)
        (ap (λ l. bit_length (distance own l)) (sym eh) ∙ sym eb ∙ none) in
        let both : true ≡ false = sym (same_refl (keccak256 key)) ∙ ap (λ l. same_bytes (keccak256 key) l) (sym equal ∙ eo) ∙ sym is_same ∙ h in
        absurd (let zero : ◌≡◌ {A = ℕ} 0 1 = cc in omega arith))

    pub touched-kept : {r : Touched} → r ≡ pick (leb (257 - count) bits) (Slot (bits - (257 - count))) NotKept → r ≡ touched_by s key
    unfolding touched_by
    touched-kept er =
        let b : ℕ = bit_length (distance (own_of s) (keccak256 key)) in
        by_test (leb (257 - count) bits)
        (λ t. let on : leb (256 - count_of s) (b - 1) ≡ true =
        le-leb (256 - count_of s) (b - 1) (omega (arith, some, is-bits, leb-true (257 - count) bits t)) in
        let place : b - 1 - (256 - count_of s) ≡ bits - (257 - count) = omega (arith, some, is-bits) in
        er ∙ simp (t, eq-eqb (length key) 64 n, sym is_same ∙ h, on, place))
        (λ t. let off : leb (256 - count_of s) (b - 1) ≡ false =
        lt-leb (256 - count_of s) (b - 1) (omega (arith, some, is-bits, leb-false (257 - count) bits t)) in
        er ∙ simp (t, eq-eqb (length key) 64 n, sym is_same ∙ h, off))
