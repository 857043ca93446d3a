-- Laws of a datagram's length and hash.
use Prim.Native.Nat.{◌≤◌, ◌<◌}
use Rattle.std.specs.Prelude.{nat_eq}
use mathlib.Core.Path.{◌≡◌, refl, sym, ap, ◌∙◌}
use mathlib.Core.Bool.{Bool, true, false, ◌&&◌, false≢true}
use mathlib.Core.List.{[], ◌∷◌}
use native.Mathlib.Omega.{arith}
use borrow.Author.Tests.{leb-true}
use lib.Dec.{leb, eqb}
use lib.Pointwise.{pointwise}
use lib.ListN.{length, drop}
use Rattle.octets.specs.Octets.{Bytes, same_bytes}
use Rattle.octets.proofs.Laws.{same_ne}
use Rattle.keccak.specs.Sponge.{keccak256}
use Rattle.keccak.proofs.Laws.{keccak256-length}
use Rattle.packet_span.proofs.Parts.{bytes_out}
use Rattle.packet_envelope.specs.Envelope.{is_sized, hash_matches}

both_true : (a b : Bool) → (a && b) ≡ true → (a ≡ true) × (b ≡ true)
both_true true b e = (refl, e)
both_true false b e = absurd (false≢true e)

pub sized : (g : Bytes) → is_sized g ≡ true → (98 ≤ length g) × (length g ≤ 1280)
sized g h =
    let r = both_true (leb 98 (length g)) (leb (length g) 1280) h in
    (leb-true 98 (length g) r.0, leb-true (length g) 1280 r.1)

-- what `==` says of two byte strings
pub equal_bytes : (s t : Bytes) → pointwise nat_eq s t ≡ same_bytes s t
unfolding same_bytes
equal_bytes [] [] = refl
equal_bytes [] (b ∷ t) = refl
equal_bytes (a ∷ s) [] = refl
equal_bytes (a ∷ s) (b ∷ t) = ap (λ (x : Bool). eqb a b && x) (equal_bytes s t)

-- a datagram that is too short for a hash
pub short_hash : (g : Bytes) → length g < 32 → false ≡ hash_matches g
unfolding hash_matches
short_hash g h =
    let k : Bytes = keccak256 (drop 32 g) in
    sym (same_ne [] k (λ (e : [] ≡ k). omega (arith, ap length e, keccak256-length (drop 32 g))))
    ∙ ap (λ (x : Bytes). same_bytes x k) (bytes_out g (record { start = 0; len = 32 }) h)
