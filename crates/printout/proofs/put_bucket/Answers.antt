-- `printout::put_bucket` meets its contract. Assumes nothing.
use mathlib.Core.Path.{◌≡◌, sym, ap, ◌∙◌}
use mathlib.Core.List.{List, [], ◌∷◌, ◌++◌, append-nil}
use Prim.Native.Nat.{ℕ, ◌+◌, ◌≤◌}
use native.Mathlib.Omega.{arith}
use lib.ListN.{length, get_or}
use Rattle.octets.specs.Octets.{Bytes}
use Rattle.bucket_model.specs.Contents.{Contents, entries_at}
use Rattle.bucket_model.proofs.ByteForm.{decode-bucket}
use Rattle.table_model.specs.Layout.{offset_of, bucket_at}
use Rattle.printout_rows.specs.Rows.{entry_word, replacement_word}
use Rattle.octets.proofs.Progress.{Progress, concat, start, room, step, finish}
use Rattle.printout.specs.Printout.{entry_rows, bucket_rows}
use Rattle.printout.specs.Steps.{BucketIn}
use Rattle.printout.proofs.put_bucket.Goals as goal

module _ (s : Bytes) (distance slot : ℕ) where
  -- the rows of the two lists, which are written one after the other
  abbrev pieces : List Bytes
  pieces = let at = offset_of slot in
      entry_rows entry_word distance 1 (entries_at s (at + 2) (get_or s at 0))
      ∷ entry_rows replacement_word distance 1 (entries_at s (at + 2290) (get_or s (at + 1) 0))
      ∷ []

  pieces_are : BucketIn s slot → concat pieces ≡ bucket_rows distance (bucket_at s slot)
  unfolding bucket_rows
  pieces_are p = let at = offset_of slot in
      let first = entry_rows entry_word distance 1 (entries_at s (at + 2) (get_or s at 0)) in
      let rest = entry_rows replacement_word distance 1 (entries_at s (at + 2290) (get_or s (at + 1) 0)) in
      ap (λ (t : Bytes). first ++ t) (append-nil rest)
      ∙ sym (ap (λ (m : Contents). bucket_rows distance m) (decode-bucket s at (omega (arith, p.within)) p.entries.few p.few))

  -- none is written yet
  begun : (out : Bytes) (at : ℕ) → BucketIn s slot → at + length (bucket_rows distance (bucket_at s slot)) ≤ length out → Progress out at pieces pieces out at
  begun out at p h = start out at pieces (omega (arith, h, ap length (pieces_are p)))

pub put_entries-next-requires : goal.put_entries-next-requires
put_entries-next-requires c = let a = c.args in
    let p₀ = begun a.table.now a.distance a.slot a.out.now a.at c.requires.0 c.requires.1 in
    (c.requires.0.entries, room p₀)

pub put_entries-requires : goal.put_entries-requires
put_entries-requires c = let a = c.args in
    let p₀ = begun a.table.now a.distance a.slot a.out.now a.at c.requires.0 c.requires.1 in
    let p₁ = step p₀ (c.put_entries-next.ensures.next, c.put_entries-next.ensures.bytes) in
    (c.requires.0.replacements, room p₁)

pub returns : goal.returns
returns c = let a = c.args in
    let p₀ = begun a.table.now a.distance a.slot a.out.now a.at c.requires.0 c.requires.1 in
    let p₁ = step p₀ (c.put_entries-next.ensures.next, c.put_entries-next.ensures.bytes) in
    let p₂ = step p₁ (c.put_entries.ensures.next, c.put_entries.ensures.bytes) in
    let w = finish p₂ (pieces_are a.table.now a.distance a.slot c.requires.0) in record { next = w.0; bytes = w.1 }
