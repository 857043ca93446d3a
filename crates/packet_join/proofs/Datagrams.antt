-- A datagram's parts in a buffer: the signature and the body, and then their hash before them.
use Prim.Native.Nat.{ℕ, suc, ◌+◌, ◌-◌, ◌≤◌}
use mathlib.Core.Path.{◌≡◌, refl, sym, ap, ◌∙◌}
use mathlib.Core.Bool.{true, ◌&&◌}
use mathlib.Core.List.{[], ◌∷◌, ◌++◌}
use native.Mathlib.Omega.{arith}
use lib.Dec.{eqb, leb}
use borrow.Author.Tests.{eqb-true, leb-true}
use lib.ListN.{length, set, take, drop, length-append}
use Rattle.octets.specs.Octets.{Bytes, part, store}
use Rattle.octets.proofs.Laws.{store-append, store-set, part-store}
use Rattle.keccak.specs.Sponge.{keccak256}
use Rattle.keccak.proofs.Laws.{keccak256-length}
use Rattle.lists.proofs.Laws.{and_left, and_right}
use Rattle.packet_join.specs.Join.{can_join, datagram}

pub signature_size : (s b : Bytes) → can_join s b ≡ true → length s ≡ 65
signature_size s b ok = eqb-true (length s) 65 (and_left (eqb (length s) 65) (leb 1 (length b) && leb (length b) 1183) ok)

pub body_size : (s b : Bytes) → can_join s b ≡ true → (1 ≤ length b) × (length b ≤ 1183)
body_size s b ok =
    let both = and_right (eqb (length s) 65) (leb 1 (length b) && leb (length b) 1183) ok in
    (leb-true 1 (length b) (and_left (leb 1 (length b)) (leb (length b) 1183) both), leb-true (length b) 1183 (and_right (leb 1 (length b)) (leb (length b) 1183) both))

pub datagram-length : (s b : Bytes) → length (datagram s b) ≡ 32 + (length s + length b)
unfolding datagram
datagram-length s b = omega (arith, length-append (keccak256 (s ++ b)) (s ++ b), length-append s b, keccak256-length (s ++ b))

-- two stores that do not meet
store_swap : (w v s : Bytes) (at j : ℕ) → at + length v ≤ j → store (store s j w) at v ≡ store (store s at v) j w
store_swap [] v s at j h = refl
store_swap (b ∷ w) v s at j h = store_swap w v (set s j b) at (suc j) (omega arith) ∙ ap (λ (x : Bytes). store x (suc j) w) (store-set v s at j b h)

-- d₂ is d with the signature and the body written
module _ (d s b d₁ d₂ : Bytes) (sized : length s ≡ 65) (room : 97 + length b ≤ length d) (e₁ : d₁ ≡ store d 32 s) (e₂ : d₂ ≡ store d₁ 97 b) where
  laid : d₂ ≡ store d 32 (s ++ b)
  laid =
      let n : 32 + length s ≡ 97 = omega arith in
      e₂ ∙ ap (λ (x : Bytes). store x 97 b) e₁ ∙ sym (store-append s b d 32 ∙ ap (λ (k : ℕ). store (store d 32 s) k b) n)

  -- what is hashed
  pub signed : take (97 + length b - 32) (drop 32 d₂) ≡ s ++ b
  unfolding part
  signed =
      let l = length-append s b in
      let n : 97 + length b - 32 ≡ length (s ++ b) = omega arith in
      ap (λ (x : Bytes). take (97 + length b - 32) (drop 32 x)) laid
      ∙ ap (λ (k : ℕ). take k (drop 32 (store d 32 (s ++ b)))) n
      ∙ part-store (s ++ b) d 32 (omega arith)

  -- with the hash before them
  pub joined : (h : Bytes) → h ≡ keccak256 (s ++ b) → store d₂ 0 h ≡ store d 0 (datagram s b)
  unfolding datagram
  joined h e =
      let hash : Bytes = keccak256 (s ++ b) in
      let n : 0 + length hash ≡ 32 = omega (arith, keccak256-length (s ++ b)) in
      ap (store d₂ 0) e
      ∙ ap (λ (x : Bytes). store x 0 hash) laid
      ∙ store_swap (s ++ b) hash d 0 32 (omega arith)
      ∙ sym (store-append hash (s ++ b) d 0 ∙ ap (λ (k : ℕ). store (store d 0 hash) k (s ++ b)) n)
