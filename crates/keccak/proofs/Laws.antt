-- What callers use of a hash, whatever the message: it has 32 elements, and each is a byte. Assumes nothing.
use mathlib.Core.Path.{◌≡◌, refl}
use mathlib.Core.List.{List}
use Prim.Native.Nat.{ℕ, zero, suc, ◌/◌, ◌%◌, ◌*◌, ◌^◌, ◌<◌}
use native.Mathlib.Omega.{arith}
use lib.ListN.{length, get_or}
use Rattle.keccak_steps.specs.Lanes.{each}
use Rattle.keccak_pad.specs.Padding.{padded}
use Rattle.keccak.specs.Sponge.{absorbed, keccak256}

pub keccak256-length : (m : List ℕ) → length (keccak256 m) ≡ 32
unfolding keccak256
keccak256-length m = refl

each_below : (f : ℕ → ℕ) (bound : ℕ) → 0 < bound → ((i : ℕ) → f i < bound) → (n from k : ℕ) → get_or (each f from n) k 0 < bound
each_below f bound pos h zero from k = pos
each_below f bound pos h (suc n) from zero = h from
each_below f bound pos h (suc n) from (suc k) = each_below f bound pos h n (suc from) k

pub keccak256_bytes : (m : List ℕ) (i : ℕ) → get_or (keccak256 m) i 0 < 256
unfolding keccak256
keccak256_bytes m i =
    let a : List ℕ = absorbed (padded m) (length (padded m) / 136) in
    each_below (λ k. get_or a (k / 8) 0 / 2 ^ (8 * (k % 8)) % 256) 256 (omega arith) (λ k. omega arith) 32 0 i
