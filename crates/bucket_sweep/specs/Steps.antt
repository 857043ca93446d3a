-- Steps of a sweep by value: which entries of a list stay, and one replacement promoted after the other.
use Rattle.std.specs.Prelude.{ℕ, Bool, cond, List, [], ◌∷◌, ◌++◌}
use Rattle.entry.specs.declared.Entry.{Entry}
use Rattle.bucket_model.specs.Contents.{Contents}
use Rattle.bucket_model.specs.Rules.{is_promoted, stays_entry, stays_replacement}

-- what stays of the replacements, where `waiting`, and else of the entries
abbrev pub stays : Bool → ℕ → Entry → Bool
stays waiting now e = cond waiting (stays_replacement now e) (stays_entry now e)

-- a replacement takes an entry at the tail if it is proved and may, or stays in line
abbrev pub promote_one : Contents → Entry → Contents
promote_one m e =
    cond (is_promoted m.entries e)
    (record { entries = m.entries ++ (e ∷ []); replacements = m.replacements })
    (record { entries = m.entries; replacements = m.replacements ++ (e ∷ []) })

-- the replacements in line order
unfoldable pub promote_all : Contents → List Entry → Contents
promote_all m [] = m
promote_all m (e ∷ line) = promote_all (promote_one m e) line
