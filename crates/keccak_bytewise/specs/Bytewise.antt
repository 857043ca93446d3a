-- A block taken byte by byte, and the hash that takes its blocks so. Request C-12: the hash is to "take each whole block [..] as its 17 lanes of
-- eight bytes; show that this leaves the state that its 136 bytes taken one by one leave". Assumes nothing.
use Rattle.std.specs.Prelude.{◌≡◌, List, ℕ, zero, suc, ◌+◌, ◌-◌, ◌*◌, ◌/◌, ◌%◌, ◌^◌, ◌<◌, length, get_or, set, replicate}
use Rattle.octets.specs.Octets.{IsBytes}
use Rattle.keccak_steps.specs.Lanes.{◌⊕◌}
use Rattle.keccak_steps.specs.Permutation.{keccak_f}
use Rattle.keccak_pad.specs.Padding.{rate, padded}
use Rattle.keccak_blocks.specs.Blocks.{xor_block, squeezed}
use Rattle.keccak.specs.Sponge.{block_at, keccak256}

-- byte i of a block added into the state at its place: lane i / 8, and there byte i % 8, lowest first
unfoldable pub xor_byte : List ℕ → ℕ → ℕ → List ℕ
xor_byte a i b = set a (i / 8) (get_or a (i / 8) 0 ⊕ b * 2 ^ (8 * (i % 8)))

-- the first n bytes of a block, one by one
unfoldable pub xor_bytes : List ℕ → List ℕ → ℕ → List ℕ
xor_bytes a block zero = a
xor_bytes a block (suc n) = xor_byte (xor_bytes a block n) n (get_or block n 0)

-- 25 lanes, a block of 136 bytes: its 17 lanes at once leave the state that its bytes one by one leave
abbrev pub OneByOne : Type 0
OneByOne =
    (a block : List ℕ) → length a ≡ 25 → length block ≡ 136 → IsBytes block → xor_bytes a block 136 ≡ xor_block a block

-- the state after the first k blocks, each taken byte by byte, and the hash of a message so
unfoldable pub absorbed_bytewise : List ℕ → ℕ → List ℕ
absorbed_bytewise p zero = replicate 25 0
absorbed_bytewise p (suc k) = keccak_f (xor_bytes (absorbed_bytewise p k) (block_at p k) rate)

unfoldable pub keccak256_bytewise : List ℕ → List ℕ
keccak256_bytewise m = squeezed (absorbed_bytewise (padded m) (length (padded m) / rate))

-- the hash of bytes is the same
abbrev pub SameHash : Type 0
SameHash = (m : List ℕ) → IsBytes m → keccak256_bytewise m ≡ keccak256 m
