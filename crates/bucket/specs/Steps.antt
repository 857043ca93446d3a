-- What a list of entries and a bucket by value hold, and where a node is held.
use Rattle.std.specs.Prelude.{ℕ, suc, ◌≤◌, ◌≡◌, Bool, cond, List, [], ◌∷◌, ltb, length, take}
use Rattle.octets.specs.Octets.{Bytes, cut}
use Rattle.entry.specs.declared.Entry.{Entry}
use Rattle.bucket_model.specs.Contents.{Contents}
use Rattle.bucket_model.specs.Rules.{is_of}
use Rattle.bucket.specs.declared.EntryList.{EntryList}
use Rattle.bucket.specs.declared.Bucket.{Bucket}
use Rattle.bucket.specs.declared.Position.{Position}
use Rattle.bucket.specs.declared.Position.TheVariants.{Absent, InEntries, InReplacements}

-- the entries that a list holds, head first
abbrev pub listed : EntryList → List Entry
listed l = take l.len l.items

-- the list l holds xs
pub record Holds (l : EntryList) (xs : List Entry) : Type 0 where
  pub count : l.len ≡ length xs
  pub fits : length xs ≤ 16
  pub held : listed l ≡ xs

-- xs without its element at i
abbrev pub remove_at : {A : Type 0} → ℕ → List A → List A
remove_at i xs = cut i 1 xs

-- the index of the first element that passes the test, or the list's length
abbrev pub index_of : {A : Type 0} → (A → Bool) → List A → ℕ
index_of q [] = 0
index_of q (a ∷ l) = cond (q a) 0 (suc (index_of q l))

abbrev pub contents : Bucket → Contents
contents b = record { entries = listed b.entries; replacements = listed b.replacements }

-- the bucket b holds m
pub record Shows (b : Bucket) (m : Contents) : Type 0 where
  pub entries : Holds b.entries m.entries
  pub replacements : Holds b.replacements m.replacements

-- the counts of a bucket are within bounds
pub record InBounds (b : Bucket) : Type 0 where
  pub entries : b.entries.len ≤ 16
  pub replacements : b.replacements.len ≤ 4

-- where a node is held, by its key
unfoldable pub position_of : Bytes → Contents → Position
position_of key m =
    cond (ltb (index_of (is_of key) m.entries) (length m.entries))
    (InEntries (index_of (is_of key) m.entries))
    (cond (ltb (index_of (is_of key) m.replacements) (length m.replacements))
    (InReplacements (index_of (is_of key) m.replacements))
    Absent)
