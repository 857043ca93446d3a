-- The changes at a position, on a bucket by value. Assumes nothing.
use mathlib.Core.Path.{◌≡◌}
use mathlib.Core.Bool.{true, false}
use mathlib.Core.List.{List, [], ◌∷◌, ◌++◌}
use Prim.Native.Nat.{ℕ}
use native.Mathlib.Omega.{arith}
use lib.ListN.{length, set}
use Rattle.entry.specs.declared.Entry.{Entry}
use Rattle.bucket_model.specs.Rules.{may_take}
use Rattle.bucket.specs.declared.EntryList.{EntryList}
use Rattle.bucket.specs.declared.Bucket.{Bucket}
use Rattle.bucket.specs.declared.Position.TheVariants.{InReplacements}
use Rattle.bucket.specs.Steps.{listed, Holds, remove_at, contents, Shows, InBounds}
use Rattle.bucket.proofs.Laws.{holds_listed}
use Rattle.bucket_rules.specs.Steps.{promote_at}

module _ (b : Bucket) (n : length b.entries.items ≡ 16) (k : length b.replacements.items ≡ 16) (h : InBounds b) where
  entries-held : Holds b.entries (listed b.entries)
  entries-held = holds_listed b.entries n h.entries

  replacements-held : Holds b.replacements (listed b.replacements)
  replacements-held = holds_listed b.replacements k (omega (arith, h.replacements))

  -- another list of entries, or of replacements, is put in its place
  pub with_entries : (r : EntryList) (xs : List Entry) → Holds r xs → Shows (record { entries = r; replacements = b.replacements }) (record { entries = xs; replacements = listed b.replacements })
  with_entries r xs hr = record { entries = hr; replacements = replacements-held }

  pub with-replacements : (r : EntryList) (xs : List Entry) → Holds r xs → Shows (record { entries = b.entries; replacements = r }) (record { entries = listed b.entries; replacements = xs })
  with-replacements r xs hr = record { entries = entries-held; replacements = hr }

  -- nothing is held, and nothing changes
  pub unchanged : Shows b (contents b)
  unchanged = record { entries = entries-held; replacements = replacements-held }

  module _ (i : ℕ) (e : Entry) where
    pub promoted-free : (r q : EntryList) → may_take (listed b.entries) e.endpoint ≡ true → Holds r (listed b.entries ++ (e ∷ [])) → Holds q (remove_at i (listed b.replacements))
        → Shows (record { entries = r; replacements = q }) (promote_at (InReplacements i) e (contents b))
    promoted-free r q may hr hq = rw may (record { entries = hr; replacements = hq })

    pub promoted-full : (q : EntryList) → may_take (listed b.entries) e.endpoint ≡ false → Holds q (set (listed b.replacements) i e)
        → Shows (record { entries = b.entries; replacements = q }) (promote_at (InReplacements i) e (contents b))
    promoted-full q may_not hq = rw may_not (record { entries = entries-held; replacements = hq })
