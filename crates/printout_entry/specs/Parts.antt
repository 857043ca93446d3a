-- The parts in which the row of an entry is written.
use Rattle.std.specs.Prelude.{ℕ, [], ◌∷◌, ◌++◌}
use Rattle.octets.specs.Octets.{Bytes}
use Rattle.text.specs.Decimals.{decimal}
use Rattle.text.specs.Hex.{hex}
use Rattle.text.specs.Rows.{tabbed, row_end}
use Rattle.printout_rows.specs.Rows.{ping_text}
use Rattle.node.specs.declared.Endpoint.{Endpoint}
use Rattle.node.specs.declared.MonotonicMillis.{MonotonicMillis}
use Rattle.entry.specs.declared.EndpointProof.{EndpointProof}
use Rattle.entry.specs.declared.PingState.{PingState}
use Rattle.node.specs.Nodes.{address_of}
use Rattle.printout_entry.specs.EntryRow.{proof_text}

-- the word, the distance and the place
abbrev pub place_text : Bytes → ℕ → ℕ → Bytes
place_text word distance place = word ++ tabbed (decimal distance ∷ decimal place ∷ [])

-- the address and the ports
abbrev pub endpoint_text : Endpoint → Bytes
endpoint_text e = tabbed (hex (address_of e) ∷ decimal e.udp ∷ decimal e.tcp ∷ [])

-- last seen, proof and ping, and the end of the row
abbrev pub times_text : MonotonicMillis → EndpointProof → PingState → Bytes
times_text seen proof ping = tabbed (decimal seen.0 ∷ proof_text proof ∷ ping_text ping ∷ []) ++ row_end
