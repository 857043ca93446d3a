-- The lists of a burst (document 02, C-15): datagrams that one call hands over.
use Rattle.std.specs.Prelude.{ℕ, ◌+◌, ◌*◌, ◌<◌, ◌^◌, Bool, cond, ◌&&◌, List, [], ◌∷◌, eqb, leb, length, get_or, replicate}
use Rattle.octets.specs.Octets.{Bytes, Slice, part, same_bytes}
use Rattle.node.specs.Nodes.{is_address_size}

-- "takes them end to end in one buffer with a list of lengths and a signer, endpoint and clock pair for each": a signer has 64 bytes, an
-- address 17 (its length, and 16 bytes)
pub record Burst : Type 0 where
  pub buffer : Bytes
  pub lengths : List ℕ
  pub signers : Bytes
  pub addresses : Bytes
  pub ports : List ℕ
  pub millis : List ℕ
  pub unix : List ℕ

abbrev pub burst_of : Bytes → List ℕ → Bytes → Bytes → List ℕ → List ℕ → List ℕ → Burst
burst_of buffer lengths signers addresses ports millis unix =
    record { buffer = buffer; lengths = lengths; signers = signers; addresses = addresses; ports = ports; millis = millis; unix = unix }

-- "up to 32 datagrams"
abbrev pub most : ℕ
most = 32

-- of numbers, so that no sum wraps
abbrev pub sum : List ℕ → ℕ
sum [] = 0
sum (n ∷ ns) = n + sum ns

-- not "if there are more than 32, the lengths don't sum to the buffer, or the lists, that of numbers too, differ in length": `room` is how many
-- numbers the lent list has
unfoldable pub is_whole : Burst → ℕ → Bool
is_whole b room =
    let n = length b.lengths in
    leb n most
    && (eqb (length b.signers) (64 * n)
    && (eqb (length b.addresses) (17 * n)
    && (eqb (length b.ports) n
    && (eqb (length b.millis) n
    && (eqb (length b.unix) n
    && (eqb room n
    && eqb (sum b.lengths) (length b.buffer)))))))

-- "an all-zero signer key as the empty one"
abbrev pub signer_in : Bytes → Bytes
signer_in key = cond (same_bytes key (replicate 64 0)) [] key

-- an address by its length; where that is neither 4 nor 16 the empty one, which is answered as every wrong one is (`WrongAddresses`)
abbrev pub address_in : Bytes → Bytes
address_in a = cond (is_address_size (get_or a 0 0)) (part a 1 (get_or a 0 0)) []

-- the lists are values of their types
pub record IsBurst (b : Burst) : Type 0 where
  pub buffer : Slice b.buffer
  pub signers : Slice b.signers
  pub addresses : Slice b.addresses
  pub ports : (i : ℕ) → get_or b.ports i 0 < 2 ^ 16
  pub millis : (i : ℕ) → get_or b.millis i 0 < 2 ^ 64
  pub unix : (i : ℕ) → get_or b.unix i 0 < 2 ^ 64
