-- The row of one entry of a printout. Document 01, "Log and printout".
use Rattle.std.specs.Prelude.{ℕ, ◌≤◌, [], ◌∷◌}
use Rattle.octets.specs.Octets.{Bytes}
use Rattle.text.specs.Decimals.{decimal}
use Rattle.text.specs.Hex.{hex}
use Rattle.text.specs.Rows.{row}
use Rattle.printout_rows.specs.Rows.{key_text, ping_text}
use Rattle.entry.specs.declared.Entry.{Entry}
use Rattle.entry.specs.declared.EndpointProof.{EndpointProof}
use Rattle.entry.specs.declared.EndpointProof.TheVariants.{Unproved, At}
use Rattle.node.specs.Nodes.{address_of}

-- `-`
abbrev pub no_proof : Bytes
no_proof = 0x2d ∷ []

-- "proof (`-` if none)"
abbrev pub proof_text : EndpointProof → Bytes
proof_text Unproved = no_proof
proof_text (At t) = decimal t.0

-- "distance, place, first 8 key bytes, address, ports, last seen, proof (`-` if none), `quiet` or the millisecond"; the distance is the
-- logarithmic one
unfoldable pub entry_row : Bytes → ℕ → ℕ → Entry → Bytes
entry_row word distance place e =
    row word (decimal distance
    ∷ decimal place
    ∷ key_text e.key
    ∷ hex (address_of e.endpoint)
    ∷ decimal e.endpoint.udp
    ∷ decimal e.endpoint.tcp
    ∷ decimal e.seen.0
    ∷ proof_text e.proof
    ∷ ping_text e.ping
    ∷ [])

-- the address is a part of its 16 bytes
abbrev pub HasAddress : Entry → Type 0
HasAddress e = e.endpoint.len ≤ 16
