-- `printout_entry::put_entry` meets its contract. Assumes nothing.
use mathlib.Core.Path.{◌≡◌, ap}
use mathlib.Core.List.{List, [], ◌∷◌}
use Prim.Native.Nat.{ℕ, ◌+◌, ◌≤◌}
use native.Mathlib.Omega.{arith}
use lib.ListN.{length}
use Rattle.octets.specs.Octets.{Bytes}
use Rattle.text.specs.Decimals.{decimal}
use Rattle.text.specs.Hex.{hex}
use Rattle.node.specs.Nodes.{address_of}
use Rattle.entry.specs.declared.Entry.{Entry}
use Rattle.printout_rows.specs.Rows.{key_text, ping_text}
use Rattle.octets.proofs.Progress.{Progress, concat, start, room, step, finish}
use Rattle.printout_entry.specs.EntryRow.{proof_text, entry_row}
use Rattle.printout_entry.specs.Parts.{place_text, endpoint_text, times_text}
use Rattle.printout_entry.proofs.Rows.{row_parts}
use Rattle.printout_entry.proofs.put_entry.Goals as goal

module _ (word : Bytes) (distance place : ℕ) (e : Entry) where
  -- the row in the four pieces that are written one after the other
  abbrev pieces : List Bytes
  pieces =
      place_text word distance place
      ∷ (0x09 ∷ key_text e.key)
      ∷ endpoint_text e.endpoint
      ∷ times_text e.seen e.proof e.ping
      ∷ []

  pieces_are : concat pieces ≡ entry_row word distance place e
  unfolding entry_row
  pieces_are =
      row_parts word (decimal distance ∷ decimal place ∷ []) (key_text e.key)
      (hex (address_of e.endpoint) ∷ decimal e.endpoint.udp ∷ decimal e.endpoint.tcp ∷ [])
      (decimal e.seen.0 ∷ proof_text e.proof ∷ ping_text e.ping ∷ [])

  -- none is written yet
  begun : (out : Bytes) (at : ℕ) → at + length (entry_row word distance place e) ≤ length out → Progress out at pieces pieces out at
  begun out at h = start out at pieces (omega (arith, h, ap length pieces_are))

pub put_place-next-requires : goal.put_place-next-requires
put_place-next-requires c = let a = c.args in room (begun a.word.now a.distance a.place a.e a.out.now a.at c.requires.1)

pub key_field-next-requires : goal.key_field-next-requires
key_field-next-requires c = let a = c.args in
    let p₀ = begun a.word.now a.distance a.place a.e a.out.now a.at c.requires.1 in
    room (step p₀ (c.put_place-next.ensures.next, c.put_place-next.ensures.bytes))

pub put_endpoint-next-requires : goal.put_endpoint-next-requires
put_endpoint-next-requires c = let a = c.args in
    let p₀ = begun a.word.now a.distance a.place a.e a.out.now a.at c.requires.1 in
    let p₁ = step p₀ (c.put_place-next.ensures.next, c.put_place-next.ensures.bytes) in
    let p₂ = step p₁ (c.key_field-next.ensures.next, c.key_field-next.ensures.bytes) in
    (c.requires.0, room p₂)

pub put_times-requires : goal.put_times-requires
put_times-requires c = let a = c.args in
    let p₀ = begun a.word.now a.distance a.place a.e a.out.now a.at c.requires.1 in
    let p₁ = step p₀ (c.put_place-next.ensures.next, c.put_place-next.ensures.bytes) in
    let p₂ = step p₁ (c.key_field-next.ensures.next, c.key_field-next.ensures.bytes) in
    let p₃ = step p₂ (c.put_endpoint-next.ensures.next, c.put_endpoint-next.ensures.bytes) in
    room p₃

pub returns : goal.returns
returns c = let a = c.args in
    let p₀ = begun a.word.now a.distance a.place a.e a.out.now a.at c.requires.1 in
    let p₁ = step p₀ (c.put_place-next.ensures.next, c.put_place-next.ensures.bytes) in
    let p₂ = step p₁ (c.key_field-next.ensures.next, c.key_field-next.ensures.bytes) in
    let p₃ = step p₂ (c.put_endpoint-next.ensures.next, c.put_endpoint-next.ensures.bytes) in
    let p₄ = step p₃ (c.put_times.ensures.next, c.put_times.ensures.bytes) in
    let w = finish p₄ (pieces_are a.word.now a.distance a.place a.e) in record { next = w.0; bytes = w.1 }
