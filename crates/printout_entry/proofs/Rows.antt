-- The row of an entry: its parts, and how long it gets. Assumes nothing.
use mathlib.Core.Path.{◌≡◌, ap}
use mathlib.Core.List.{List, [], ◌∷◌, ◌++◌, append_assoc, append-nil}
use Prim.Native.Nat.{ℕ, ◌≤◌, ◌<◌}
use native.Mathlib.Omega.{arith}
use lib.ListN.{length, length-take}
use Rattle.octets.specs.Octets.{Bytes}
use Rattle.octets.proofs.Progress.{concat}
use Rattle.text.specs.Decimals.{decimal}
use Rattle.text.specs.Hex.{hex}
use Rattle.text.specs.Rows.{tabbed, row_end, row}
use Rattle.text.proofs.Decimals.{length_below, length_bound}
use Rattle.text.proofs.Hex.{length-hex}
use Rattle.printout_rows.specs.Rows.{key_text, ping_text}
use Rattle.printout_rows.proofs.Rows.{tabbed-append, length-row, key_bound, ping_bound}
use Rattle.entry.specs.declared.Entry.{Entry}
use Rattle.entry.specs.declared.EndpointProof.{EndpointProof}
use Rattle.entry.specs.declared.EndpointProof.TheVariants.{Unproved, At}
use Rattle.entry.proofs.Laws.{IsEntry, ProofFits}
use Rattle.node.specs.Nodes.{address_of}
use Rattle.printout_entry.specs.EntryRow.{proof_text, entry_row}

-- ---- the row is written in four parts

pub row_parts : (word : Bytes) (a : List Bytes) (f : Bytes) (b c : List Bytes)
    → concat ((word ++ tabbed a) ∷ (0x09 ∷ f) ∷ tabbed b ∷ (tabbed c ++ row_end) ∷ []) ≡ row word (a ++ (f ∷ (b ++ c)))
row_parts word a f b c =
    let end : f ++ (tabbed b ++ (tabbed c ++ row_end)) ≡ f ++ (tabbed b ++ tabbed c) ++ row_end = simp append_assoc in
    simp (tabbed-append, append_assoc, append-nil) (ap (λ (t : Bytes). word ++ (tabbed a ++ (0x09 ∷ t))) end)

-- ---- its length

proof_bound : (p : EndpointProof) → ProofFits p → length (proof_text p) ≤ 20
proof_bound Unproved h = omega arith
proof_bound (At t) h = length_bound t.0 h

-- 4+1+3+1+2+1+16+1+32+1+5+1+5+1+20+1+20+1+20+1
pub entry_bound : (word : Bytes) (distance place : ℕ) (e : Entry) → length word ≤ 4 → distance < 1000 → place < 100 → IsEntry e
    → length (entry_row word distance place e) ≤ 137
unfolding entry_row
entry_bound word distance place e hw hn hp is =
    let texts : List Bytes = decimal distance ∷ decimal place ∷ key_text e.key ∷ hex (address_of e.endpoint) ∷ decimal e.endpoint.udp ∷ decimal e.endpoint.tcp ∷ decimal e.seen.0 ∷ proof_text e.proof ∷ ping_text e.ping ∷ [] in
    omega (
      arith,
      length-row word texts,
      length_below 2 distance hn,
      length_below 1 place hp,
      key_bound e.key,
      length-hex (address_of e.endpoint),
      length-take e.endpoint.len e.endpoint.address,
      is.address,
      length_below 4 e.endpoint.udp (omega (arith, is.udp)),
      length_below 4 e.endpoint.tcp (omega (arith, is.tcp)),
      length_bound e.seen.0 is.seen,
      proof_bound e.proof is.proof,
      ping_bound e.ping is.ping,
    )
