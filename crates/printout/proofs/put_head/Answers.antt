-- `printout::put_head` meets its contract. Assumes nothing.
use mathlib.Core.Path.{◌≡◌, ap}
use mathlib.Core.List.{List, [], ◌∷◌}
use Prim.Native.Nat.{ℕ, ◌≤◌}
use native.Mathlib.Omega.{arith}
use lib.ListN.{length}
use Rattle.octets.specs.Octets.{Bytes}
use Rattle.text.specs.Decimals.{decimal}
use Rattle.octets.proofs.Progress.{Progress, concat, start, room, step, finish}
use Rattle.printout_rows.proofs.Rows.{pieces}
use Rattle.table_model.specs.Layout.{clock_of, count_of, buckets_of}
use Rattle.node.specs.declared.MonotonicMillis.{MonotonicMillis}
use Rattle.printout.specs.declared.Totals.{Totals}
use Rattle.printout.specs.TableRow.{table_word, entry_total, replacement_total, table_row}
use Rattle.printout.proofs.HeadRows.{head_parts}
use Rattle.printout.proofs.Slots.{header_in}
use Rattle.printout.proofs.put_head.Goals as goal

pub bucket_count-count-requires : goal.bucket_count-count-requires
bucket_count-count-requires c = header_in c.args.table.now c.requires.0

pub clock-clock-requires : goal.clock-clock-requires
clock-clock-requires c = header_in c.args.table.now c.requires.0

-- the row in the parts that are written one after the other
abbrev parts : ℕ → MonotonicMillis → Totals → List Bytes
parts count clock totals = pieces table_word (decimal count ∷ decimal clock.0 ∷ decimal totals.entries ∷ decimal totals.replacements ∷ [])

module _ (s : Bytes) {count : ℕ} {clock : MonotonicMillis} {totals : Totals} (is_count : count ≡ count_of s) (is_clock : clock.0 ≡ clock_of s) (is_totals : totals ≡ record { entries = entry_total (buckets_of s); replacements = replacement_total (buckets_of s) }) where
  parts_are : concat (parts count clock totals) ≡ table_row s
  parts_are = head_parts s is_count is_clock (ap (λ (x : Totals). x.entries) is_totals) (ap (λ (x : Totals). x.replacements) is_totals)

  -- none is written yet
  begun : (out : Bytes) → length (table_row s) ≤ length out → Progress out 0 (parts count clock totals) (parts count clock totals) out 0
  begun out h = start out 0 (parts count clock totals) (omega (arith, h, ap length parts_are))

pub put_word-next-requires : goal.put_word-next-requires
put_word-next-requires c =
    room (begun c.args.table.now c.bucket_count-count.ensures c.clock-clock.ensures c.held_in-total.ensures c.args.out.now c.requires.1)

pub decimal_field-next-requires : goal.decimal_field-next-requires
decimal_field-next-requires c =
    let p₀ = begun c.args.table.now c.bucket_count-count.ensures c.clock-clock.ensures c.held_in-total.ensures c.args.out.now c.requires.1 in
    let p₁ = step p₀ (c.put_word-next.ensures.next, c.put_word-next.ensures.bytes) in
    room p₁

pub decimal_field-next-requires-2 : goal.decimal_field-next-requires-2
decimal_field-next-requires-2 c =
    let p₀ = begun c.args.table.now c.bucket_count-count.ensures c.clock-clock.ensures c.held_in-total.ensures c.args.out.now c.requires.1 in
    let p₁ = step p₀ (c.put_word-next.ensures.next, c.put_word-next.ensures.bytes) in
    let p₂ = step p₁ (c.decimal_field-next.ensures.next, c.decimal_field-next.ensures.bytes) in
    room p₂

pub decimal_field-next-requires-3 : goal.decimal_field-next-requires-3
decimal_field-next-requires-3 c =
    let p₀ = begun c.args.table.now c.bucket_count-count.ensures c.clock-clock.ensures c.held_in-total.ensures c.args.out.now c.requires.1 in
    let p₁ = step p₀ (c.put_word-next.ensures.next, c.put_word-next.ensures.bytes) in
    let p₂ = step p₁ (c.decimal_field-next.ensures.next, c.decimal_field-next.ensures.bytes) in
    let p₃ = step p₂ (c.decimal_field-next-2.ensures.next, c.decimal_field-next-2.ensures.bytes) in
    room p₃

pub decimal_field-next-requires-4 : goal.decimal_field-next-requires-4
decimal_field-next-requires-4 c =
    let p₀ = begun c.args.table.now c.bucket_count-count.ensures c.clock-clock.ensures c.held_in-total.ensures c.args.out.now c.requires.1 in
    let p₁ = step p₀ (c.put_word-next.ensures.next, c.put_word-next.ensures.bytes) in
    let p₂ = step p₁ (c.decimal_field-next.ensures.next, c.decimal_field-next.ensures.bytes) in
    let p₃ = step p₂ (c.decimal_field-next-2.ensures.next, c.decimal_field-next-2.ensures.bytes) in
    let p₄ = step p₃ (c.decimal_field-next-3.ensures.next, c.decimal_field-next-3.ensures.bytes) in
    room p₄

pub put_end-requires : goal.put_end-requires
put_end-requires c =
    let p₀ = begun c.args.table.now c.bucket_count-count.ensures c.clock-clock.ensures c.held_in-total.ensures c.args.out.now c.requires.1 in
    let p₁ = step p₀ (c.put_word-next.ensures.next, c.put_word-next.ensures.bytes) in
    let p₂ = step p₁ (c.decimal_field-next.ensures.next, c.decimal_field-next.ensures.bytes) in
    let p₃ = step p₂ (c.decimal_field-next-2.ensures.next, c.decimal_field-next-2.ensures.bytes) in
    let p₄ = step p₃ (c.decimal_field-next-3.ensures.next, c.decimal_field-next-3.ensures.bytes) in
    let p₅ = step p₄ (c.decimal_field-next-4.ensures.next, c.decimal_field-next-4.ensures.bytes) in
    room p₅

pub returns : goal.returns
returns c =
    let p₀ = begun c.args.table.now c.bucket_count-count.ensures c.clock-clock.ensures c.held_in-total.ensures c.args.out.now c.requires.1 in
    let p₁ = step p₀ (c.put_word-next.ensures.next, c.put_word-next.ensures.bytes) in
    let p₂ = step p₁ (c.decimal_field-next.ensures.next, c.decimal_field-next.ensures.bytes) in
    let p₃ = step p₂ (c.decimal_field-next-2.ensures.next, c.decimal_field-next-2.ensures.bytes) in
    let p₄ = step p₃ (c.decimal_field-next-3.ensures.next, c.decimal_field-next-3.ensures.bytes) in
    let p₅ = step p₄ (c.decimal_field-next-4.ensures.next, c.decimal_field-next-4.ensures.bytes) in
    let p₆ = step p₅ (c.put_end.ensures.next, c.put_end.ensures.bytes) in
    let w = finish p₆ (parts_are c.args.table.now c.bucket_count-count.ensures c.clock-clock.ensures c.held_in-total.ensures) in record { next = w.0; bytes = w.1 }
