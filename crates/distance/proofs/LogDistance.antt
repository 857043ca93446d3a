-- The logarithmic distance of two hashes: 0 for equal ones, else the number of the bucket plus one.
use Prim.Native.Nat.{ℕ, zero, suc, ◌+◌, ◌<◌, ◌^◌}
use mathlib.Core.Path.{◌≡◌, refl, sym, ap, ◌∙◌}
use native.Mathlib.Omega.{arith}
use borrow.Author.Tests.{eq-eqb, eqb-true}
use lib.Bits.{xor_self}
use Rattle.octets.specs.Octets.{Bytes, number}
use Rattle.distance.specs.Distance.{distance, bit_length}
use Rattle.distance.specs.Claims.{LogDistance}
use Rattle.distance.proofs.Laws.{bit_length-zero, bit_length_positive, bit_length-most, distance-less, distance-zero}
use Rattle.distance.proofs.Buckets.{in_bucket_bits}

-- a distance with no binary digits is 0
no_digits : (d : ℕ) → d < 2 ^ 256 → bit_length d ≡ 0 → d ≡ 0
no_digits zero h e = refl
no_digits (suc d) h e = absurd (omega (arith, bit_length_positive (suc d) (omega arith) h))

self : (a : Bytes) → distance a a ≡ 0
unfolding distance
self a = xor_self (number a)

pub log-distance : LogDistance
log-distance a b la lb ba bb =
    let d : ℕ = distance a b in
    let less : d < 2 ^ 256 = distance-less a b la lb ba bb in
    record {
      equal = (
        (λ e. distance-zero a b la lb ba bb (no_digits d less e)),
        (λ e. ap (λ (x : Bytes). bit_length (distance a x)) (sym e) ∙ ap bit_length (self a) ∙ bit_length-zero),
      );
      number = λ i. (
        (λ e. in_bucket_bits i d less ∙ eq-eqb (bit_length d) (i + 1) e),
        (λ e. eqb-true (bit_length d) (i + 1) (sym (in_bucket_bits i d less) ∙ e)),
      );
      most = bit_length-most d;
    }
