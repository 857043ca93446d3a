-- `printout_entry::put_times` meets its contract. Assumes nothing.
use mathlib.Core.Path.{◌≡◌, ap}
use mathlib.Core.List.{List, [], ◌∷◌}
use Prim.Native.Nat.{ℕ, ◌+◌, ◌≤◌}
use native.Mathlib.Omega.{arith}
use lib.ListN.{length}
use Rattle.octets.specs.Octets.{Bytes}
use Rattle.text.specs.Decimals.{decimal}
use Rattle.node.specs.declared.MonotonicMillis.{MonotonicMillis}
use Rattle.entry.specs.declared.EndpointProof.{EndpointProof}
use Rattle.entry.specs.declared.PingState.{PingState}
use Rattle.octets.proofs.Progress.{Progress, concat, start, room, step, finish}
use Rattle.text.specs.Rows.{row_end}
use Rattle.printout_rows.specs.Rows.{ping_text}
use Rattle.printout_rows.proofs.Rows.{tabs, tabs_are}
use Rattle.printout_entry.specs.EntryRow.{proof_text}
use Rattle.printout_entry.specs.Parts.{times_text}
use Rattle.printout_entry.proofs.put_times.Goals as goal

module _ (seen : MonotonicMillis) (proof : EndpointProof) (ping : PingState) where
  abbrev fields : List Bytes
  fields = decimal seen.0 ∷ proof_text proof ∷ ping_text ping ∷ []

  -- the fields with their tabs, and the row's end, which are written one after the other
  abbrev pieces : List Bytes
  pieces = tabs fields (row_end ∷ [])

  pieces_are : concat pieces ≡ times_text seen proof ping
  pieces_are = tabs_are fields (row_end ∷ [])

  -- none is written yet
  begun : (out : Bytes) (at : ℕ) → at + length (times_text seen proof ping) ≤ length out → Progress out at pieces pieces out at
  begun out at h = start out at pieces (omega (arith, h, ap length pieces_are))

pub decimal_field-next-requires : goal.decimal_field-next-requires
decimal_field-next-requires c = let a = c.args in
    let p₀ = begun a.seen a.proof a.ping a.out.now a.at c.requires in
    room p₀

pub proof_field-next-requires : goal.proof_field-next-requires
proof_field-next-requires c = let a = c.args in
    let p₀ = begun a.seen a.proof a.ping a.out.now a.at c.requires in
    let p₁ = step p₀ (c.decimal_field-next.ensures.next, c.decimal_field-next.ensures.bytes) in
    room p₁

pub ping_field-next-requires : goal.ping_field-next-requires
ping_field-next-requires c = let a = c.args in
    let p₀ = begun a.seen a.proof a.ping a.out.now a.at c.requires in
    let p₁ = step p₀ (c.decimal_field-next.ensures.next, c.decimal_field-next.ensures.bytes) in
    let p₂ = step p₁ (c.proof_field-next.ensures.next, c.proof_field-next.ensures.bytes) in
    room p₂

pub put_end-requires : goal.put_end-requires
put_end-requires c = let a = c.args in
    let p₀ = begun a.seen a.proof a.ping a.out.now a.at c.requires in
    let p₁ = step p₀ (c.decimal_field-next.ensures.next, c.decimal_field-next.ensures.bytes) in
    let p₂ = step p₁ (c.proof_field-next.ensures.next, c.proof_field-next.ensures.bytes) in
    let p₃ = step p₂ (c.ping_field-next.ensures.next, c.ping_field-next.ensures.bytes) in
    room p₃

pub returns : goal.returns
returns c = let a = c.args in
    let p₀ = begun a.seen a.proof a.ping a.out.now a.at c.requires in
    let p₁ = step p₀ (c.decimal_field-next.ensures.next, c.decimal_field-next.ensures.bytes) in
    let p₂ = step p₁ (c.proof_field-next.ensures.next, c.proof_field-next.ensures.bytes) in
    let p₃ = step p₂ (c.ping_field-next.ensures.next, c.ping_field-next.ensures.bytes) in
    let p₄ = step p₃ (c.put_end.ensures.next, c.put_end.ensures.bytes) in
    let w = finish p₄ (pieces_are a.seen a.proof a.ping) in record { next = w.0; bytes = w.1 }
