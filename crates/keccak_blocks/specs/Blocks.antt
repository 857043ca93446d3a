-- A block of a padded message added into the state of 25 lanes, and the first 32 bytes of a state. Assumes nothing.
use Rattle.std.specs.Prelude.{List, ℕ, ◌+◌, ◌*◌, ◌/◌, ◌%◌, ◌^◌, get_or}
use Rattle.keccak_steps.specs.Lanes.{◌⊕◌, list_of}

-- the lane whose eight bytes start at `at`, lowest first; bytes past the end count as zero
unfoldable pub lane_at : List ℕ → ℕ → ℕ
lane_at b at =
    get_or b at 0 + get_or b (at + 1) 0 * 2 ^ 8 + get_or b (at + 2) 0 * 2 ^ 16 + get_or b (at + 3) 0 * 2 ^ 24
    + get_or b (at + 4) 0 * 2 ^ 32
    + get_or b (at + 5) 0 * 2 ^ 40
    + get_or b (at + 6) 0 * 2 ^ 48
    + get_or b (at + 7) 0 * 2 ^ 56

-- a block, with zeros for the capacity, added into the state
unfoldable pub xor_block : List ℕ → List ℕ → List ℕ
xor_block a block = list_of 25 (λ i. get_or a i 0 ⊕ lane_at block (8 * i))

-- the first 32 bytes of the state, each lane's lowest byte first
abbrev pub squeezed : List ℕ → List ℕ
squeezed a = list_of 32 (λ i. get_or a (i / 8) 0 / 2 ^ (8 * (i % 8)) % 256)
