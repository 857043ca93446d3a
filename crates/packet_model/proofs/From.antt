-- Sizes of addresses, and the bytes that stand for one that may be unknown.
use Prim.Native.Nat.{ℕ, ◌≤◌}
use mathlib.Core.Path.{◌≡◌, refl}
use mathlib.Core.Bool.{Bool, true, false, ◌||◌}
use mathlib.Core.List.{[], ◌∷◌}
use native.Mathlib.Omega.{arith}
use borrow.Author.Tests.{eqb-true, ne_eqb}
use lib.Dec.{eqb}
use lib.ListN.{length}
use Rattle.octets.specs.Octets.{Bytes}
use Rattle.node.specs.Nodes.{is_address, is_address_size}
use Rattle.packet_model.specs.From.{is_sender_size, is_sender_address, From, unknown, known, from_said, from_bytes, is_from}

one_of : {P : Type 0} (a b : Bool) → (a || b) ≡ true → (a ≡ true → P) → (b ≡ true → P) → P
one_of true b h f g = f refl
one_of false b h f g = g h

or_true : (a : Bool) {b : Bool} → b ≡ true → (a || b) ≡ true
or_true true h = refl
or_true false h = h

pub address_range : (n : ℕ) → is_address_size n ≡ true → (4 ≤ n) × (n ≤ 16)
address_range n h = one_of (eqb n 4) (eqb n 16) h (λ e. omega (arith, eqb-true n 4 e)) (λ e. omega (arith, eqb-true n 16 e))

-- the address of a sender is never of one byte, which would be its own encoding
pub sender_range : (n : ℕ) → is_sender_size n ≡ true → (n ≡ 1 → ⊥) × (n ≤ 16)
sender_range n h =
    one_of (eqb n 0) (is_address_size n) h (λ e. let z = eqb-true n 0 e in ((λ o. omega arith), omega arith))
    (λ e. let r = address_range n e in ((λ o. omega (arith, r)), omega (arith, r)))

pub address_sender : (a : Bytes) → is_address a ≡ true → is_sender_address a ≡ true
address_sender a h = or_true (eqb (length a) 0) h

pub said_bytes : (s : Bytes) → from_bytes (from_said s) ≡ s
said_bytes [] = refl
said_bytes (b ∷ s) = refl

pub said_good : (s : Bytes) → is_sender_address s ≡ true → is_from (from_said s) ≡ true
said_good [] h = refl
said_good (b ∷ s) h = simp (ne_eqb (length (b ∷ s)) 0 (λ e. omega (arith, e))) at h

pub from_sender : (f : From) → is_from f ≡ true → is_sender_address (from_bytes f) ≡ true
from_sender unknown h = refl
from_sender (known a) h = address_sender a h
