-- The padding of the original Keccak, to blocks of 136 bytes. Assumes nothing.
use Rattle.std.specs.Prelude.{List, [], ◌∷◌, ◌++◌, ℕ, zero, suc, ◌-◌, ◌%◌, length, replicate}

-- how many bytes a block has
abbrev pub rate : ℕ
rate = 136

-- n padding bytes: a first one of 01, zeros, and the last one's high bit
unfoldable pub padding : ℕ → List ℕ
padding zero = []
padding (suc zero) = 0x81 ∷ []
padding (suc (suc n)) = 0x01 ∷ (replicate n 0 ++ (0x80 ∷ []))

-- the message and its padding, which fills the last block
unfoldable pub padded : List ℕ → List ℕ
padded m = m ++ padding (rate - length m % rate)
