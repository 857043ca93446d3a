-- The hash that takes its blocks byte by byte is the hash. Assumes nothing.
use mathlib.Core.Path.{◌≡◌, refl, sym, ap, ◌∙◌}
use mathlib.Core.List.{List, [], ◌∷◌, ◌++◌}
use Prim.Native.Nat.{ℕ, zero, suc, ◌+◌, ◌-◌, ◌*◌, ◌/◌, ◌%◌, ◌<◌, ◌≤◌}
use native.Mathlib.Omega.{arith}
use lib.ListN.{length, get_or, take, drop, replicate, length-set, length-take, length-drop}
use Rattle.octets.specs.Octets.{IsBytes}
use Rattle.octets.proofs.Laws.{bytes_append, bytes_take, bytes_drop}
use Rattle.keccak_steps.specs.Lanes.{◌⊕◌}
use Rattle.keccak_steps.specs.Permutation.{round, rounds, round_constant, keccak_f, iota, chi, pi, rho, theta}
use Rattle.keccak_pad.specs.Padding.{rate, padding, padded}
use Rattle.keccak_blocks.specs.Blocks.{xor_block, squeezed}
use Rattle.keccak.specs.Sponge.{block_at, absorbed, keccak256}
use Rattle.keccak_bytewise.specs.Bytewise.{xor_bytes, absorbed_bytewise, keccak256_bytewise, SameHash}
use Rattle.keccak_bytewise.proofs.Bytewise.{one_by_one}

-- ---- the state has 25 lanes
round_lanes : (c : ℕ) (a : List ℕ) → length (round c a) ≡ 25
unfolding round
round_lanes c a = let b : List ℕ = chi (pi (rho (theta a))) in length-set b 0 (get_or b 0 0 ⊕ c)

permuted_lanes : (a : List ℕ) → length (keccak_f a) ≡ 25
unfolding keccak_f rounds
permuted_lanes a = round_lanes (round_constant 23) (rounds 23 a)

absorbed_lanes : (p : List ℕ) (k : ℕ) → length (absorbed p k) ≡ 25
unfolding absorbed
absorbed_lanes p zero = refl
absorbed_lanes p (suc k) = permuted_lanes (xor_block (absorbed p k) (block_at p k))

-- ---- the padded message is bytes, and its blocks are whole
bytes_zeros : (n : ℕ) (t : List ℕ) → IsBytes t → IsBytes (replicate n 0 ++ t)
bytes_zeros zero t ht i = ht i
bytes_zeros (suc n) t ht zero = omega arith
bytes_zeros (suc n) t ht (suc i) = bytes_zeros n t ht i

bytes_one : (b : ℕ) → b < 256 → IsBytes (b ∷ [])
bytes_one b h zero = h
bytes_one b h (suc i) = omega arith

bytes_padding : (n : ℕ) → IsBytes (padding n)
unfolding padding
bytes_padding zero i = omega arith
bytes_padding (suc zero) i = bytes_one 0x81 (omega arith) i
bytes_padding (suc (suc n)) zero = omega arith
bytes_padding (suc (suc n)) (suc i) = bytes_zeros n (0x80 ∷ []) (bytes_one 0x80 (omega arith)) i

block_size : (p : List ℕ) (k : ℕ) → suc k ≤ length p / 136 → length (block_at p k) ≡ 136
block_size p k h = omega (arith, length-take 136 (drop (136 * k) p), length-drop (136 * k) p)

-- ---- the state after each block
same_state : (p : List ℕ) → IsBytes p → (k : ℕ) → k ≤ length p / 136 → absorbed_bytewise p k ≡ absorbed p k
unfolding absorbed_bytewise absorbed
same_state p bs zero h = refl
same_state p bs (suc k) h =
    ap keccak_f
    (ap (λ (a : List ℕ). xor_bytes a (block_at p k) 136) (same_state p bs k (omega arith))
    ∙ one_by_one (absorbed p k) (block_at p k) (absorbed_lanes p k) (block_size p k h) (bytes_take 136 (drop (136 * k) p) (bytes_drop (136 * k) p bs)))

pub same_hash : SameHash
unfolding keccak256_bytewise keccak256 padded
same_hash m bs =
    ap squeezed (same_state (padded m) (bytes_append m (padding (136 - length m % 136)) bs (bytes_padding (136 - length m % 136))) (length (padded m) / 136) (omega arith))
