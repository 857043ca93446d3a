-- A node looked up by its key.
use Rattle.std.specs.Prelude.{◌<◌, ◌≡◌, Bool, true, false, List, [], ◌∷◌, ◌++◌, length, get_or}
use Rattle.octets.specs.Octets.{Bytes}
use Rattle.entry.specs.declared.Entry.{Entry}
use Rattle.entry.specs.Layout.{no_entry}
use Rattle.bucket_model.specs.Contents.{Contents}
use Rattle.bucket_model.specs.Rules.{held, has_entry}
use Rattle.bucket_model.specs.Sound.{distinct}
use Rattle.bucket.specs.declared.Bucket.{Bucket}
use Rattle.bucket.specs.declared.Position.{Position}
use Rattle.bucket.specs.declared.Position.TheVariants.{Absent, InEntries, InReplacements}
use Rattle.bucket.specs.Steps.{contents, InBounds, position_of}
use Rattle.bucket_lookup.specs.declared.Lookup.{Lookup}

-- what the rules ask of a bucket, as a sound one has it
pub record Ready (b : Bucket) : Type 0 where
  pub bounded : InBounds b
  pub keys : distinct ((contents b).entries ++ (contents b).replacements) ≡ true

abbrev pub only_at : Position → Entry → List Entry
only_at Absent e = []
only_at (InEntries i) e = e ∷ []
only_at (InReplacements i) e = e ∷ []

-- what was found: one entry, or none
abbrev pub found : Lookup → List Entry
found l = only_at l.position l.entry

abbrev pub in_entries : Position → Bool
in_entries Absent = false
in_entries (InEntries i) = true
in_entries (InReplacements i) = false

-- l is what the bucket with the contents m has of the key
pub record LooksUp (key : Bytes) (m : Contents) (l : Lookup) : Type 0 where
  pub position : l.position ≡ position_of key m
  pub held : found l ≡ held key m
  pub has_entry : in_entries l.position ≡ has_entry key m

-- the position is one of m
abbrev pub Within : Position → Contents → Type 0
Within Absent m = Unit {0}
Within (InEntries i) m = i < length m.entries
Within (InReplacements i) m = i < length m.replacements

-- what stands at the position
abbrev pub EntryAt : Position → Contents → Entry → Type 0
EntryAt Absent m e = Unit {0}
EntryAt (InEntries i) m e = e ≡ get_or m.entries i no_entry
EntryAt (InReplacements i) m e = e ≡ get_or m.replacements i no_entry
