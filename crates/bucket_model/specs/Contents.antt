-- What a bucket holds, as lists of entries, and its byte form.
use Rattle.std.specs.Prelude.{ℕ, zero, suc, ◌+◌, ◌-◌, ◌*◌, List, [], ◌∷◌, ◌++◌, length, get_or, replicate}
use Rattle.octets.specs.Octets.{Bytes, part}
use Rattle.entry.specs.declared.Entry.{Entry}
use Rattle.entry.specs.Layout.{encode_entry, decode_entry}

-- the entries (document 01's seats) from head to tail, the replacements (its waiting line) in order
pub record Contents : Type 0 where
  pub entries : List Entry
  pub replacements : List Entry

-- nothing held
abbrev pub no_contents : Contents
no_contents = record { entries = []; replacements = [] }

-- the entries in n records of 143 bytes from index at
unfoldable pub entries_at : Bytes → ℕ → ℕ → List Entry
entries_at s at zero = []
entries_at s at (suc n) = decode_entry (part s at 143) ∷ entries_at s (at + 143) n

-- the byte forms of entries, one after the other
unfoldable pub encode_entries : List Entry → Bytes
encode_entries [] = []
encode_entries (e ∷ es) = encode_entry e ++ encode_entries es

-- the entries, and zeros for the free ones of cap
unfoldable pub encode_list : ℕ → List Entry → Bytes
encode_list cap es = encode_entries es ++ replicate ((cap - length es) * 143) 0

-- two counts, sixteen entries, four replacements: 2,862 bytes
unfoldable pub encode_bucket : Contents → Bytes
encode_bucket m =
    (length m.entries ∷ []) ++ (length m.replacements ∷ []) ++ encode_list 16 m.entries ++ encode_list 4 m.replacements

unfoldable pub decode_bucket : Bytes → Contents
decode_bucket s = record { entries = entries_at s 2 (get_or s 0 0); replacements = entries_at s 2290 (get_or s 1 0) }
