-- `log_answer::put_waiting` meets its contract. Assumes nothing.
use Prim.Native.Nat.{◌+◌, ◌≤◌}
use mathlib.Core.List.{List}
use Rattle.octets.specs.Octets.{Bytes}
use Rattle.octets.proofs.Progress.{room, step}
use Rattle.text.specs.Decimals.{decimal}
use Rattle.text.proofs.Decimals.{length_one}
use lib.ListN.{length}
use Rattle.call_answer.specs.declared.Standing.TheVariants.{Waiting}
use Rattle.entry.specs.declared.PingState.{PingState}
use Rattle.entry.proofs.Laws.{PingFits}
use Rattle.log_answer.specs.AnswerRows.{answer_room, pong_fields}
use Rattle.printout_rows.proofs.Rows.{pieces, total, Writing, key_bound, ping_bound}
use Rattle.log_answer.proofs.Lines.{begin-line, end_line, ping_fits}
use native.Mathlib.Omega.{arith}
use Rattle.log_answer.proofs.put_waiting.Goals as goal

module _ (key : Bytes) (ping : PingState) where
  abbrev parts : List Bytes
  parts = pong_fields (Waiting ping) key

  row_fits : PingFits ping → length (decimal 0) + total parts + 1 ≤ answer_room
  row_fits h = omega (arith, length_one 0 (omega arith), key_bound key, ping_bound ping h)

  -- none of the row's parts is written yet
  begun : PingFits ping → (out : Bytes) → answer_room ≤ length out → Writing out 0 (decimal 0) parts (pieces (decimal 0) parts) out 0
  begun h out room_fits = begin-line out (decimal 0) parts (row_fits h) room_fits

pub put_decimal-a-requires : goal.put_decimal-a-requires
put_decimal-a-requires c = let a = c.args in
    let fits = ping_fits a.ping _ c.well_formed.1.1.0 in
    let p₀ = begun a.key a.ping fits a.out.now c.requires in
    room p₀

pub word_field-b-requires : goal.word_field-b-requires
word_field-b-requires c = let a = c.args in
    let fits = ping_fits a.ping _ c.well_formed.1.1.0 in
    let p₀ = begun a.key a.ping fits a.out.now c.requires in
    let p₁ = step p₀ (c.put_decimal-a.ensures.next, c.put_decimal-a.ensures.bytes) in
    room p₁

pub key_field-c-requires : goal.key_field-c-requires
key_field-c-requires c = let a = c.args in
    let fits = ping_fits a.ping _ c.well_formed.1.1.0 in
    let p₀ = begun a.key a.ping fits a.out.now c.requires in
    let p₁ = step p₀ (c.put_decimal-a.ensures.next, c.put_decimal-a.ensures.bytes) in
    let p₂ = step p₁ (c.word_field-b.ensures.next, c.word_field-b.ensures.bytes) in
    room p₂

pub ping_field-d-requires : goal.ping_field-d-requires
ping_field-d-requires c = let a = c.args in
    let fits = ping_fits a.ping _ c.well_formed.1.1.0 in
    let p₀ = begun a.key a.ping fits a.out.now c.requires in
    let p₁ = step p₀ (c.put_decimal-a.ensures.next, c.put_decimal-a.ensures.bytes) in
    let p₂ = step p₁ (c.word_field-b.ensures.next, c.word_field-b.ensures.bytes) in
    let p₃ = step p₂ (c.key_field-c.ensures.next, c.key_field-c.ensures.bytes) in
    room p₃

pub put_end-requires : goal.put_end-requires
put_end-requires c = let a = c.args in
    let fits = ping_fits a.ping _ c.well_formed.1.1.0 in
    let p₀ = begun a.key a.ping fits a.out.now c.requires in
    let p₁ = step p₀ (c.put_decimal-a.ensures.next, c.put_decimal-a.ensures.bytes) in
    let p₂ = step p₁ (c.word_field-b.ensures.next, c.word_field-b.ensures.bytes) in
    let p₃ = step p₂ (c.key_field-c.ensures.next, c.key_field-c.ensures.bytes) in
    let p₄ = step p₃ (c.ping_field-d.ensures.next, c.ping_field-d.ensures.bytes) in
    room p₄

pub returns : goal.returns
returns c = let a = c.args in
    let fits = ping_fits a.ping _ c.well_formed.1.1.0 in
    let p₀ = begun a.key a.ping fits a.out.now c.requires in
    let p₁ = step p₀ (c.put_decimal-a.ensures.next, c.put_decimal-a.ensures.bytes) in
    let p₂ = step p₁ (c.word_field-b.ensures.next, c.word_field-b.ensures.bytes) in
    let p₃ = step p₂ (c.key_field-c.ensures.next, c.key_field-c.ensures.bytes) in
    let p₄ = step p₃ (c.ping_field-d.ensures.next, c.ping_field-d.ensures.bytes) in
    let p₅ = step p₄ (c.put_end.ensures.next, c.put_end.ensures.bytes) in
    let whole = end_line a.out.now (decimal 0) (parts a.key a.ping) (row_fits a.key a.ping fits) p₅ in
    record { len = whole.0; bytes = whole.1.0; size = whole.1.1 }
